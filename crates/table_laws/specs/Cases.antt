-- Nothing is lost: of each open record there is a place from where its work can still come.
use Rattle.std.specs.Prelude.{◌≡◌, ℕ, suc, List, ◌⊎◌, Option, Some}
use Rattle.ids.specs.Names.{Grant}
use Rattle.table_laws.specs.Tables.{◌∈◌}
use Rattle.table_laws.specs.Content.{Content}
use Rattle.table_laws.specs.View.{Transfer, Ack, Sub, Request, Mode, Leaving, Works, View}
use Rattle.table_laws.specs.Facts.{Came, LiveIn, Head, ack_of, offer_of, request_of}

-- where the work of g, of which a sub of `host` has a record, can still come from
pub data CaseIn (mode : ℕ → Mode) (subs : ℕ → Grant → Option Sub) (pending : ℕ → Option Request) (transfers : List Transfer) (acks : List Ack) (lost : List ℕ) (host g : Grant) : Type 0 where
  -- somebody holds it live
  alive : (i : ℕ) (s : Sub) → LiveIn mode subs i g s → CaseIn mode subs pending transfers acks lost host g
  -- its thief waits for the Grant
  awaited : (t : Transfer) → t ∈ transfers → t.grant ≡ g → t.hop ≡ 0 → Works (mode t.to) → pending t.to ≡ Some (request_of t) → CaseIn mode subs pending transfers acks lost host g
  -- one that departs holds it frozen, and its Offer isn't acknowledged
  frozen : (i heir : ℕ) (s : Sub) → mode i ≡ Leaving heir → subs i g ≡ Some s → (ack_of (offer_of i heir g s) ∈ acks → ⊥) → CaseIn mode subs pending transfers acks lost host g
  -- it is cut off: somebody that it was sent to, or that the host's grant was sent to, is lost
  cut_off : (i : ℕ) → i ∈ lost → (Came transfers g i) ⊎ (Came transfers host i) → CaseIn mode subs pending transfers acks lost host g

abbrev pub Case : View → Grant → Grant → Type 0
Case v = CaseIn v.mode v.subs v.pending v.transfers v.acks v.lost

pub record Cases (v : View) : Type 0 where
  -- an Offer that was taken is acknowledged
  pub taken_acked : (t : Transfer) (h i : ℕ) → t ∈ v.transfers → t.hop ≡ suc h → t.to ≡ i → Works (v.mode i) → v.seen i t.grant ≡ Some t.hop → ack_of t ∈ v.acks
  -- and so is one that was offered on
  pub passed_acked : (t u : Transfer) (h : ℕ) → t ∈ v.transfers → u ∈ v.transfers → t.grant ≡ u.grant → t.hop ≡ suc h → u.hop ≡ suc t.hop → ack_of t ∈ v.acks
  -- a record of a head is in one of the cases, and so is the root record
  pub record_case : (g k : Grant) (c : Content) (n : ℕ) → Head v g c → c.granted n ≡ Some k → Case v g k
  pub root_case : (k : Grant) → v.root ≡ Some k → Case v k k
