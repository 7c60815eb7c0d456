-- When each move may happen. A guard asks what its case of the protocol gives, and mostly less.
use Rattle.std.specs.Prelude.{◌≡◌, ℕ, ℤ, ◌<◌, ◌≤◌, true, false, List, [], ◌⊎◌, Option, Some, None}
use Rattle.ids.specs.Names.{house_of, Grant}
use Rattle.table_laws.specs.Tables.{◌∈◌}
use Rattle.table_laws.specs.Content.{Return, Whole, Task, Content, HoldsTask, SameWork, Sound}
use Rattle.table_laws.specs.View.{Transfer, Ack, Result, Leave, Unlisted, Live, Left, Roster, Sub, Request, Reply, Joining, Member, House, Leaving, Works, View}
use Rattle.table_laws.specs.Facts.{of_worker, Said, Above, Answered, steal_of, result_to, ack_of, offer_of, Resolves, RecordOf, Grows}

-- the clearinghouse opens under a new name; who has worked, and joins no more, is lost to it
pub record MayOpen (v : View) (i : ℕ) (lost : List ℕ) (roster : Roster) : Type 0 where
  pub new : i ∈ v.used → ⊥
  pub house : of_worker i ≡ false
  -- its name is that of its epoch, which is after the recorded one and so new; its roster is empty
  pub name : i ≡ house_of roster.epoch
  pub epoch : v.epoch < roster.epoch
  pub rosters_older : (r : Roster) → r ∈ v.rosters → r.epoch < roster.epoch
  pub leaves_older : (l : Leave) → l ∈ v.leaves → l.epoch < roster.epoch
  pub unlisted : (j : ℕ) → roster.status j ≡ Unlisted
  pub lost_old : (j : ℕ) → j ∈ lost → (j ∈ v.used) × (v.mode j ≡ House → ⊥)
  pub lost_joined : (j : ℕ) → j ∈ lost → v.mode j ≡ Joining → ⊥
  pub lost_all : (j : ℕ) → j ∈ v.used → (v.mode j ≡ Joining → ⊥) → j ∈ lost

-- a worker that said no Leave ends, or is down
pub record MayFail (v : View) (i : ℕ) : Type 0 where
  pub works : Works (v.mode i)
  pub worker : v.mode i ≡ House → ⊥
  pub unsaid : Said v.leaves i → ⊥

-- a member that waits on nobody sends a Steal
pub record MayAsk (v : View) (i victim : ℕ) : Type 0 where
  pub member : v.mode i ≡ Member
  pub idle : v.pending i ≡ None
  pub victim_used : victim ∈ v.used

-- a Steal was sent to i and isn't answered; and i is the clearinghouse, or its roster shows the
-- thief live
pub record MayAnswer (v : View) (i thief seq : ℕ) : Type 0 where
  pub asked : steal_of thief seq i ∈ v.steals
  pub due : Answered (v.kept i thief) seq → ⊥
  pub listed : (v.mode i ≡ House) ⊎ ((r : Roster) × (v.roster i ≡ Some r) × (r.status thief ≡ Live))

-- the content of a Grant of i: its only frame, number 0, holds its task, it has no records, and its
-- outcome goes to i
pub record Begins (c : Content) (i : ℕ) : Type 0 where
  pub host : c.host ≡ i
  pub bare : (n : ℕ) → c.granted n ≡ None
  pub sound : Sound c
  pub only : (n : ℕ) (r : Return) → c.returns n ≡ Some r → (n ≡ 0) × (r ≡ Whole)
  pub holds : HoldsTask c 0 c.task
  pub active : c.outcome ≡ None

-- number n of a content is a frame
pub record IsFrame (c : Content) (n : ℕ) : Type 0 where
  pub returns : Return
  pub there : c.returns n ≡ Some returns
  pub unstolen : c.granted n ≡ None

-- what a victim may grant away: a frame with no empty slot, as the task that it holds
pub record MaySteal (c : Content) (n : ℕ) (t : Task) : Type 0 where
  pub frame : IsFrame c n
  pub holds : HoldsTask c n t

-- a member takes a transfer that was sent to it, and acknowledges nothing else
pub record MayTake (v : View) (i : ℕ) (t : Transfer) (new : List Ack) : Type 0 where
  pub sent : t ∈ v.transfers
  pub to : t.to ≡ i
  pub member : v.mode i ≡ Member
  pub above : Above (v.seen i t.grant) t.hop
  pub acks : (ack : Ack) → ack ∈ new → ack ≡ ack_of t

-- why a thief no longer waits: it is lost, its victim is lost, or its victim said Leave
pub data GivesUp (v : View) (i : ℕ) : Type 0 where
  lost_thief : i ∈ v.lost → GivesUp v i
  lost_victim : (q : Request) → v.pending i ≡ Some q → q.victim ∈ v.lost → GivesUp v i
  left_victim : (q : Request) (l : Leave) → v.pending i ≡ Some q → l ∈ v.leaves → l.from ≡ q.victim → GivesUp v i

-- t offers a sub
pub record IsOffer (subs : Grant → Option Sub) (i heir : ℕ) (t : Transfer) : Type 0 where
  pub sub : Sub
  pub holds : subs t.grant ≡ Some sub
  pub is : t ≡ offer_of i heir t.grant sub

-- a member that waits on nobody offers each of its subs, and nothing else, to another worker
pub record MayFreeze (v : View) (i heir : ℕ) (offers : List Transfer) : Type 0 where
  pub member : v.mode i ≡ Member
  pub idle : v.pending i ≡ None
  pub heir_used : heir ∈ v.used
  pub heir_worker : of_worker heir ≡ true
  pub heir_other : heir ≡ i → ⊥
  pub each : (t : Transfer) → t ∈ offers → IsOffer (v.subs i) i heir t
  pub all : (g : Grant) (s : Sub) → v.subs i g ≡ Some s → offer_of i heir g s ∈ offers

-- the heir has acknowledged the Offer of a frozen sub
pub record MayRelease (v : View) (i heir : ℕ) (g : Grant) (s : Sub) : Type 0 where
  pub leaving : v.mode i ≡ Leaving heir
  pub holds : v.subs i g ≡ Some s
  pub acked : ack_of (offer_of i heir g s) ∈ v.acks

-- why a live sub is dropped: its grant is settled; or by a roster its parent host's work is with
-- one who is dead, so that this one is lost, or the sub's holder is
pub data Drops (v : View) (i : ℕ) (g : Grant) (s : Sub) : Type 0 where
  by_settled : g ∈ v.settled → Drops v i g s
  by_verdict : (roster : Roster) (dead : ℕ) → roster ∈ v.rosters → Resolves roster s.content.host dead → (dead ∈ v.lost) ⊎ (i ∈ v.lost) → Drops v i g s

-- what a turn, a returned result or a redo promises of the records of a sub of g
pub record Alters (g : Grant) (c d : Content) (results : List Result) (gone : List Grant) : Type 0 where
  pub host : d.host ≡ c.host
  pub task : d.task ≡ c.task
  -- no record is new, and one that stays keeps its task
  pub fewer : (n : ℕ) (k : Grant) → d.granted n ≡ Some k → c.granted n ≡ Some k
  pub keeps : (n : ℕ) (k : Grant) → d.granted n ≡ Some k → SameWork c d n
  -- its Results are its own, go to its parent host and tell its outcome
  pub result_own : (x : Result) → x ∈ results → x.grant ≡ g
  pub result_host : (x : Result) → x ∈ results → x.host ≡ c.host
  pub result_outcome : (x : Result) → x ∈ results → d.outcome ≡ Some x.outcome
  -- it settles its own records, which are gone then
  pub had : (k : Grant) → k ∈ gone → RecordOf c k
  pub lost : (k : Grant) → k ∈ gone → RecordOf d k → ⊥

-- a house without a record and without an outcome grants the job's first task, which stands at the
-- root
pub record MayBegin (v : View) (c : Content) : Type 0 where
  pub unrecorded : v.root ≡ None
  pub unstored : v.stored ≡ None
  pub place : c.task.place ≡ []

-- the house gets a Result of the root record's grant
pub record MayCommit (v : View) (i : ℕ) (g : Grant) (o : Option ℤ) : Type 0 where
  pub house : v.mode i ≡ House
  pub recorded : v.root ≡ Some g
  pub result : result_to g i o ∈ v.results

-- a member gets a Result of which it has no record
pub record MaySettle (v : View) (i : ℕ) (g : Grant) : Type 0 where
  pub member : v.mode i ≡ Member
  pub outcome : Option ℤ
  pub result : result_to g i outcome ∈ v.results
  pub without : (h : Grant) (s : Sub) → v.subs i h ≡ Some s → RecordOf s.content g → ⊥

-- the clearinghouse gets a Result that isn't the root record's
pub record MaySettleAtHouse (v : View) (i : ℕ) (g : Grant) : Type 0 where
  pub house : v.mode i ≡ House
  pub outcome : Option ℤ
  pub result : result_to g i outcome ∈ v.results
  pub other : v.root ≡ Some g → ⊥

-- why a leaver needn't wait for the thief of a Grant: it has acknowledged it, it is lost, it said
-- Leave; or the leaver is lost itself
pub data Free (v : View) (i thief : ℕ) (t : Transfer) : Type 0 where
  taken : ack_of t ∈ v.acks → Free v i thief t
  thief_lost : thief ∈ v.lost → Free v i thief t
  thief_left : Said v.leaves thief → Free v i thief t
  self_lost : i ∈ v.lost → Free v i thief t

-- a leaver with nothing left, and without a thief to wait for, sends Leave
pub record MayLeave (v : View) (i heir : ℕ) : Type 0 where
  pub leaving : v.mode i ≡ Leaving heir
  pub empty : (g : Grant) → v.subs i g ≡ None
  pub free : (thief : ℕ) (r : Reply) (t : Transfer) → v.kept i thief ≡ Some r → r.given ≡ Some t → Free v i thief t

-- why a roster of an epoch shows that i left, its work being with h: an earlier one did; or i said
-- Leave, and by an earlier one the work of its heir is with h
pub data ShowsLeft (v : View) (epoch i h : ℕ) : Type 0 where
  before : (roster : Roster) → roster ∈ v.rosters → roster.epoch ≡ epoch → roster.status i ≡ Left h → ShowsLeft v epoch i h
  now : (roster : Roster) (l : Leave) → roster ∈ v.rosters → l ∈ v.leaves → l.from ≡ i → l.epoch ≡ epoch → Resolves roster l.heir h → ShowsLeft v epoch i h

-- the open house's next roster
pub record MayPublish (v : View) (house roster : Roster) : Type 0 where
  pub open_house : v.house ≡ Some house
  pub epoch : roster.epoch ≡ house.epoch
  pub newer : house.version < roster.version
  pub grows : Grows house roster
  pub members : (i : ℕ) → (roster.status i ≡ Unlisted → ⊥) → (i ∈ v.used) × (of_worker i ≡ true)
  pub left : (i h : ℕ) → roster.status i ≡ Left h → ShowsLeft v roster.epoch i h
  -- who has the work of one that is newly shown left is live; and those that left are counted
  pub heir_lives : (i h : ℕ) → roster.status i ≡ Left h → (house.status i ≡ Left h) ⊎ ((roster.status h ≡ Live) × (house.left < roster.left))
  pub left_most : house.left ≤ roster.left

-- a node keeps a later roster of the same epoch
pub record MayAdopt (v : View) (i : ℕ) (old roster : Roster) : Type 0 where
  pub sent : roster ∈ v.rosters
  pub keeps : v.roster i ≡ Some old
  pub epoch : old.epoch ≡ roster.epoch
  pub newer : old.version < roster.version
