-- Steals and their replies: a thief waits on its last Steal until that is answered, or somebody is
-- lost.
use Rattle.std.specs.Prelude.{◌≡◌, ℕ, ◌≤◌, List, ◌⊎◌, Option, Some, None}
use Rattle.table_laws.specs.Tables.{◌∈◌}
use Rattle.table_laws.specs.View.{Transfer, Steal, Leave, Reply, Request, Mode, Joining, Member, House, Works, Takes, View}
use Rattle.table_laws.specs.Facts.{Answered, steal_of, stolen_by, request_of}

-- who may grant
abbrev pub Grants : Mode → Type 0
Grants m = Takes m ⊎ (m ≡ House)

-- the thief waits on that Steal, or somebody is lost
abbrev pub Awaits : (mode : ℕ → Mode) (pending : ℕ → Option Request) (lost : List ℕ) → Steal → Type 0
Awaits mode pending lost x = ((Works (mode x.thief)) × (pending x.thief ≡ Some (record { victim = x.victim; seq = x.seq }))) ⊎ ((x.thief ∈ lost) ⊎ (x.victim ∈ lost))

pub record Requests (v : View) : Type 0 where
  -- who joins has sent no Steal
  pub joins_unasked : (x : Steal) → x ∈ v.steals → v.mode x.thief ≡ Joining → ⊥
  -- the last reply is a Grant to that thief with that seq, or a Refuse
  pub kept_grant : (i j : ℕ) (r : Reply) (t : Transfer) → Works (v.mode i) → v.kept i j ≡ Some r → r.given ≡ Some t → (t.to ≡ j) × (t.seq ≡ r.seq) × (t.hop ≡ 0)
  pub kept_refuse : (i j : ℕ) (r : Reply) → Works (v.mode i) → v.kept i j ≡ Some r → r.given ≡ None → steal_of j r.seq i ∈ v.refusals
  -- only members wait
  pub member_waits : (i : ℕ) (q : Request) → Works (v.mode i) → v.pending i ≡ Some q → v.mode i ≡ Member
  -- Steals of one thief and seq went to one victim; a thief has counted its Steals, and waits on
  -- the last one
  pub one_victim : (x y : Steal) → x ∈ v.steals → y ∈ v.steals → x.thief ≡ y.thief → x.seq ≡ y.seq → x.victim ≡ y.victim
  pub asked_most : (x : Steal) → x ∈ v.steals → Works (v.mode x.thief) → x.seq ≤ v.asked x.thief
  pub asked_last : (i : ℕ) (q : Request) → Works (v.mode i) → v.pending i ≡ Some q → q.seq ≡ v.asked i
  pub asked_sent : (i : ℕ) (q : Request) → Works (v.mode i) → v.pending i ≡ Some q → steal_of i q.seq q.victim ∈ v.steals
  -- a Grant and a Refuse answer a Steal that was sent; of one Steal there is one reply
  pub grant_asked : (t : Transfer) → t ∈ v.transfers → t.hop ≡ 0 → stolen_by t ∈ v.steals
  pub refuse_asked : (x : Steal) → x ∈ v.refusals → x ∈ v.steals
  pub one_grant : (t u : Transfer) → t ∈ v.transfers → u ∈ v.transfers → t.hop ≡ 0 → u.hop ≡ 0 → t.to ≡ u.to → t.seq ≡ u.seq → t ≡ u
  pub one_reply : (t : Transfer) (x : Steal) → t ∈ v.transfers → x ∈ v.refusals → t.hop ≡ 0 → t.to ≡ x.thief → t.seq ≡ x.seq → ⊥
  -- a victim that is up keeps that reply, or a later one
  pub grant_kept : (t : Transfer) → t ∈ v.transfers → t.hop ≡ 0 → Works (v.mode t.from) → Answered (v.kept t.from t.to) t.seq
  pub refuse_kept : (x : Steal) → x ∈ v.refusals → Works (v.mode x.victim) → Answered (v.kept x.victim x.thief) x.seq
  -- who waits on what was answered with a Grant hasn't taken it
  pub unseen : (t : Transfer) → t ∈ v.transfers → t.hop ≡ 0 → Works (v.mode t.to) → v.pending t.to ≡ Some (request_of t) → v.seen t.to t.grant ≡ None
  -- a Steal that its victim can still answer is waited on, or somebody is lost
  pub unanswered : (x : Steal) → x ∈ v.steals → Grants (v.mode x.victim) → (Answered (v.kept x.victim x.thief) x.seq → ⊥) → Awaits v.mode v.pending v.lost x
  -- where a victim said Leave, and the thief of a Grant of it still waits, one of the two is lost
  pub awaited : (l : Leave) (t : Transfer) → l ∈ v.leaves → t ∈ v.transfers → t.hop ≡ 0 → t.from ≡ l.from → Works (v.mode t.to) → v.pending t.to ≡ Some (request_of t) → (t.to ∈ v.lost) ⊎ (t.from ∈ v.lost)
