-- Names and transfers: a name is used once, a grant is minted once, and it goes from one place to
-- the next.
use Rattle.std.specs.Prelude.{◌≡◌, ℕ, ◌≤◌, suc, List, ◌⊎◌, Some, None}
use Rattle.ids.specs.Names.{Grant}
use Rattle.table_laws.specs.Tables.{◌∈◌}
use Rattle.table_laws.specs.View.{Transfer, Ack, Result, Steal, Leave, Sub, Reply, Mode, Joining, Member, Leaving, Works, Takes, View}
use Rattle.table_laws.specs.Facts.{SentTo, Granted, offer_of}

-- who sent an Offer takes nothing any more, and was sent the hop before
pub record Handed (mode : ℕ → Mode) (transfers : List Transfer) (t : Transfer) (h : ℕ) : Type 0 where
  pub stopped : Takes (mode t.from) → ⊥
  pub before : SentTo transfers t.grant h t.from

pub record Names (v : View) : Type 0 where
  -- who is up, and whom a packet names, has a name that was used
  pub up_used : (i : ℕ) → Works (v.mode i) → i ∈ v.used
  pub from_used : (t : Transfer) → t ∈ v.transfers → t.from ∈ v.used
  pub to_used : (t : Transfer) → t ∈ v.transfers → t.to ∈ v.used
  pub minter_used : (t : Transfer) → t ∈ v.transfers → t.grant.minter ∈ v.used
  pub thief_used : (x : Steal) → x ∈ v.steals → x.thief ∈ v.used
  pub victim_used : (x : Steal) → x ∈ v.steals → x.victim ∈ v.used
  pub leaver_used : (l : Leave) → l ∈ v.leaves → l.from ∈ v.used
  -- a grant that is settled, that has a Result, a record or the root record, was granted; an
  -- acknowledged transfer was sent
  pub settled_granted : (g : Grant) → g ∈ v.settled → Granted v.transfers g
  pub result_granted : (x : Result) → x ∈ v.results → Granted v.transfers x.grant
  pub sub_granted : (i : ℕ) (g k : Grant) (s : Sub) (n : ℕ) → Works (v.mode i) → v.subs i g ≡ Some s → s.content.granted n ≡ Some k → Granted v.transfers k
  pub sent_granted : (t : Transfer) (k : Grant) (n : ℕ) → t ∈ v.transfers → t.content.granted n ≡ Some k → Granted v.transfers k
  pub root_granted : (k : Grant) → v.root ≡ Some k → Granted v.transfers k
  pub acked_sent : (a : Ack) → a ∈ v.acks → SentTo v.transfers a.grant a.hop a.from
  -- who is up has counted the grants that it minted
  pub counted : (t : Transfer) → t ∈ v.transfers → Works (v.mode t.grant.minter) → t.grant.number ≤ v.minted t.grant.minter
  -- a Grant comes from its minter, who is its parent host
  pub minted_by : (t : Transfer) → t ∈ v.transfers → t.hop ≡ 0 → t.from ≡ t.grant.minter
  pub minted_for : (t : Transfer) → t ∈ v.transfers → t.hop ≡ 0 → t.content.host ≡ t.from
  -- who joins has taken nothing and holds nothing
  pub joins_unseen : (i : ℕ) (g : Grant) → v.mode i ≡ Joining → v.seen i g ≡ None
  pub joins_empty : (i : ℕ) (g : Grant) → v.mode i ≡ Joining → v.subs i g ≡ None
  -- a Grant that is kept as a reply was sent
  pub kept_sent : (i j : ℕ) (r : Reply) (t : Transfer) → Works (v.mode i) → v.kept i j ≡ Some r → r.given ≡ Some t → t ∈ v.transfers
  -- one transfer for each grant and hop: one content, one addressee
  pub one : (t u : Transfer) → t ∈ v.transfers → u ∈ v.transfers → t.grant ≡ u.grant → t.hop ≡ u.hop → t ≡ u
  -- an Offer comes from one who was sent the hop before, and has stopped for good
  pub path : (t : Transfer) (h : ℕ) → t ∈ v.transfers → t.hop ≡ suc h → Handed v.mode v.transfers t h
  -- a sub that is held was taken at its hop, and nothing later; its holder is a member, or departs
  pub held_seen : (i : ℕ) (g : Grant) (s : Sub) → Works (v.mode i) → v.subs i g ≡ Some s → v.seen i g ≡ Some s.hop
  pub held_by : (i : ℕ) (g : Grant) (s : Sub) → Works (v.mode i) → v.subs i g ≡ Some s → (v.mode i ≡ Member) ⊎ ((heir : ℕ) × (v.mode i ≡ Leaving heir))
  -- a frozen sub was offered as it is
  pub frozen_offered : (i heir : ℕ) (g : Grant) (s : Sub) → v.mode i ≡ Leaving heir → v.subs i g ≡ Some s → offer_of i heir g s ∈ v.transfers
  -- what was taken was sent
  pub seen_sent : (i h : ℕ) (g : Grant) → Works (v.mode i) → v.seen i g ≡ Some h → SentTo v.transfers g h i
