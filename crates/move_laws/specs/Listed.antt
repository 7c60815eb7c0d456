-- Rosters of packets as rosters of tables, and what follows of them.
use Rattle.std.specs.Prelude.{◌≡◌, ◌≤◌, ◌⊎◌, ℕ, List, length, Option, None, Some}
use Rattle.ids.specs.Members.{status_in}
use Rattle.ids.specs.declared.member.Member.{Member}
use Rattle.ids.specs.declared.member.Status.{Status}
use Rattle.ids.specs.declared.member.Status.TheVariants as member
use Rattle.table_laws.specs.Tables.{◌∈◌}
use Rattle.table_laws.specs.View.{Roster, View}
use Rattle.table_laws.specs.View as tables
use Rattle.table_laws.specs.Facts.{Resolves}
use Rattle.table_laws.specs.Moves.{mark_lost}
use Rattle.table_laws.specs.Meaning.{Meaning}
use Rattle.table_laws.specs.Acts.{Act}
use Rattle.table_laws.specs.Runs.{Right}

-- what is said of a worker, as a status of tables
abbrev pub status_of : Option Status → tables.Status
status_of None = tables.Unlisted
status_of (Some member.Live) = tables.Live
status_of (Some member.Dead) = tables.Dead
status_of (Some (member.Left heir)) = tables.Left heir

-- a roster of tables shows a list of members; it counts no more that left than members
pub record ShowsMembers (r : Roster) (members : List Member) : Type 0 where
  pub status : (i : ℕ) → r.status i ≡ status_of (status_in i members)
  pub few : r.left ≤ length members

-- following heirs, i's work is with one who is dead
pub record DeadEnd (r : Roster) (i : ℕ) : Type 0 where
  pub dead : ℕ
  pub way : Resolves r i dead
  pub is : r.status dead ≡ tables.Dead

-- one of two is marked as lost
pub record MarkedLost (v : View) (i dead : ℕ) : Type 0 where
  pub who : ℕ
  pub act : Act v (mark_lost v who)
  pub right : (m : Meaning) → Right m act
  pub told : (dead ∈ (mark_lost v who).lost) ⊎ (i ∈ (mark_lost v who).lost)
