-- Runs: lists of moves in which each change of a content has its cause in the protocol, and turns
-- end as the bodies of the program do.
use Rattle.std.specs.Prelude.{◌≡◌, ℕ, ℤ, [], Option, Some}
use Rattle.table_laws.specs.Content.{given}
use Rattle.table_laws.specs.View.{View, first_over}
use Rattle.table_laws.specs.Meaning.{Meaning, FitsMeaning}
use Rattle.table_laws.specs.Causes.{Cause}
use Rattle.table_laws.specs.Acts.{Act, grants_root, alters}

-- what a move computes is right: a changed content has its cause, and the house grants the job's
-- first task
abbrev pub Right : (m : Meaning) {v w : View} → Act v w → Type 0
Right m (grants_root i thief seq c house new may begins) = FitsMeaning m [] c.task.thread (λ j. given c.task.numbers j)
Right m {v} (alters i g s c fill results gone here change is) = Cause m v i g s.content c fill
Right m act = Unit {0}

-- v comes of a list of moves that are right; an outcome that was recorded before is the meaning
pub data Run (m : Meaning) : View → Type 0 where
  at_start : (epoch : ℕ) (stored : Option (Option ℤ)) → ((o : Option ℤ) → stored ≡ Some o → o ≡ m.value []) → Run m (first_over epoch stored)
  by_right : {v w : View} → Run m v → (act : Act v w) → Right m act → Run m w

-- w comes of v by a list of moves
pub data Leads (v : View) : View → Type 0 where
  stays_at : Leads v v
  leads_on : {w x : View} → Leads v w → Act w x → Leads v x
