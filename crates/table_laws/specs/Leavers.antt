-- Departures: who said Leave takes nothing, holds nothing, and all that it offered was taken by its
-- heir.
use Rattle.std.specs.Prelude.{◌≡◌, ℕ, suc, ◌⊎◌, Option, Some, None}
use Rattle.ids.specs.Names.{Grant}
use Rattle.table_laws.specs.Tables.{◌∈◌}
use Rattle.table_laws.specs.View.{Transfer, Ack, Leave, Left, Roster, Sub, Leaving, Works, Takes, View}
use Rattle.table_laws.specs.Facts.{Said, Above, ack_of}

-- i holds the sub that t offered, frozen
pub record Waits (subs : ℕ → Grant → Option Sub) (i : ℕ) (t : Transfer) (h : ℕ) : Type 0 where
  pub sub : Sub
  pub holds : subs i t.grant ≡ Some sub
  pub hop : sub.hop ≡ h

pub record Leavers (v : View) : Type 0 where
  -- who is shown left said Leave
  pub left_said : (roster : Roster) (i h : ℕ) → roster ∈ v.rosters → roster.status i ≡ Left h → Said v.leaves i
  -- an Offer of one that departs went to its heir; its sub is held still, or it was acknowledged
  pub offer_heir : (t : Transfer) (i heir h : ℕ) → t ∈ v.transfers → t.hop ≡ suc h → t.from ≡ i → v.mode i ≡ Leaving heir → t.to ≡ heir
  pub offer_waits : (t : Transfer) (i heir h : ℕ) → t ∈ v.transfers → t.hop ≡ suc h → t.from ≡ i → v.mode i ≡ Leaving heir → Waits v.subs i t h ⊎ (ack_of t ∈ v.acks)
  -- what was acknowledged can't be taken any more
  pub acked_shut : (a : Ack) → a ∈ v.acks → Takes (v.mode a.from) → Above (v.seen a.from a.grant) a.hop → ⊥
  -- who said Leave is gone, or departs to that heir and holds nothing
  pub said_leaving : (l : Leave) → l ∈ v.leaves → Works (v.mode l.from) → v.mode l.from ≡ Leaving l.heir
  pub said_empty : (l : Leave) (g : Grant) → l ∈ v.leaves → Works (v.mode l.from) → v.subs l.from g ≡ None
  -- all its Offers went to that heir and were acknowledged
  pub said_heir : (l : Leave) (t : Transfer) (h : ℕ) → l ∈ v.leaves → t ∈ v.transfers → t.hop ≡ suc h → t.from ≡ l.from → t.to ≡ l.heir
  pub said_acked : (l : Leave) (t : Transfer) (h : ℕ) → l ∈ v.leaves → t ∈ v.transfers → t.hop ≡ suc h → t.from ≡ l.from → ack_of t ∈ v.acks
