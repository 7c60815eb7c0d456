-- Moves of one worker, and what they leave as it was: the rows of every other name, the house, and
-- what was sent.
use Rattle.std.specs.Prelude.{◌≡◌, ℕ}
use Rattle.ids.specs.Names.{Grant}
use Rattle.table_laws.specs.Tables.{◌∈◌}
use Rattle.table_laws.specs.View.{Transfer, Ack, Result, Steal, Leave, Roster, View}
use Rattle.table_laws.specs.Meaning.{Meaning}
use Rattle.table_laws.specs.Acts.{Act, starts, admits, adopts, fails, goes, marks_lost, opens, grants_root, closes_root, commits, publishes, closes, asks, refuses, grants, takes_grant, hears_refuse, gives_up, freezes, takes_offer, acknowledges, releases, leaves, alters, drops, renames, settles, settles_at_house}
use Rattle.table_laws.specs.Runs.{Right}

-- all that a view has of the name j is as it was
pub record SameAt (v w : View) (j : ℕ) : Type 0 where
  pub mode : w.mode j ≡ v.mode j
  pub minted : w.minted j ≡ v.minted j
  pub asked : w.asked j ≡ v.asked j
  pub seen : (g : Grant) → w.seen j g ≡ v.seen j g
  pub subs : (g : Grant) → w.subs j g ≡ v.subs j g
  pub pending : w.pending j ≡ v.pending j
  pub kept : (thief : ℕ) → w.kept j thief ≡ v.kept j thief
  pub roster : w.roster j ≡ v.roster j

-- so is all of the house; who is lost to it may be told anew
pub record SameHouse (v w : View) : Type 0 where
  pub rosters : w.rosters ≡ v.rosters
  pub house : w.house ≡ v.house
  pub root : w.root ≡ v.root
  pub stored : w.stored ≡ v.stored
  pub epoch : w.epoch ≡ v.epoch

-- what was sent stays sent, and a name that was used stays used
pub record KeepsSent (v w : View) : Type 0 where
  pub used : (i : ℕ) → i ∈ v.used → i ∈ w.used
  pub transfers : (t : Transfer) → t ∈ v.transfers → t ∈ w.transfers
  pub acks : (a : Ack) → a ∈ v.acks → a ∈ w.acks
  pub results : (x : Result) → x ∈ v.results → x ∈ w.results
  pub settled : (g : Grant) → g ∈ v.settled → g ∈ w.settled
  pub steals : (x : Steal) → x ∈ v.steals → x ∈ w.steals
  pub refusals : (x : Steal) → x ∈ v.refusals → x ∈ w.refusals
  pub leaves : (l : Leave) → l ∈ v.leaves → l ∈ w.leaves
  pub rosters : (r : Roster) → r ∈ v.rosters → r ∈ w.rosters

-- a move of worker i that has started; that somebody turns out to be lost, or acknowledges again,
-- is no change of anybody's tables
abbrev pub IsActOf : {v w : View} → Act v w → ℕ → Type 0
IsActOf (starts i new worker) j = ⊥
IsActOf (admits i roster is sent) j = j ≡ i
IsActOf (adopts i old roster may) j = j ≡ i
IsActOf (fails i may) j = j ≡ i
IsActOf (goes i said) j = j ≡ i
IsActOf (marks_lost i used worker lost) j = Unit {0}
IsActOf (opens i lost roster may) j = ⊥
IsActOf (grants_root i thief seq c house may answers begins) j = ⊥
IsActOf (closes_root k is) j = ⊥
IsActOf (commits i k o may) j = ⊥
IsActOf (publishes house roster may) j = ⊥
IsActOf (closes i is) j = ⊥
IsActOf (asks i victim may) j = j ≡ i
IsActOf (refuses i thief seq up may) j = j ≡ i
IsActOf (grants i g s n thief seq c here may begins steal) j = j ≡ i
IsActOf (takes_grant i t may hop pending) j = j ≡ i
IsActOf (hears_refuse i x sent thief pending) j = j ≡ i
IsActOf (gives_up i why) j = j ≡ i
IsActOf (freezes i heir offers may) j = j ≡ i
IsActOf (takes_offer i t h may hop) j = j ≡ i
IsActOf (acknowledges t sent taken up) j = Unit {0}
IsActOf (releases i heir g s may) j = j ≡ i
IsActOf (leaves i heir roster keeps may) j = j ≡ i
IsActOf (alters i g s c fill results gone here change is) j = j ≡ i
IsActOf (drops i g s gone here records why) j = j ≡ i
IsActOf (renames i g s roster host here sent resolves) j = j ≡ i
IsActOf (settles i g may) j = j ≡ i
IsActOf (settles_at_house i g may) j = ⊥

-- all others, and the house, stay as they were, and no name is new
pub record IsBeside (i : ℕ) (v w : View) : Type 0 where
  pub used : w.used ≡ v.used
  pub others : (j : ℕ) → (j ≡ i → ⊥) → SameAt v w j
  pub house : SameHouse v w

-- w comes of v by right moves of worker i
pub data MovedBy (m : Meaning) (i : ℕ) (v : View) : View → Type 0 where
  unmoved : MovedBy m i v v
  moved : {w x : View} → MovedBy m i v w → (act : Act w x) → Right m act → IsBeside i w x → MovedBy m i v x
