-- Tasks: a grant's work is one task wherever it goes, and a record holds the very task that its
-- thief was sent.
use Rattle.std.specs.Prelude.{◌≡◌, ℕ, false, [], Some, None}
use Rattle.ids.specs.Names.{Grant}
use Rattle.table_laws.specs.Content.{Content, HoldsTask}
use Rattle.table_laws.specs.View.{View}
use Rattle.table_laws.specs.Facts.{of_worker, Cont}

pub record Tasks (v : View) : Type 0 where
  -- all contents of a grant began with one task
  pub one_task : (g : Grant) (c d : Content) → Cont v g c → Cont v g d → c.task ≡ d.task
  -- a record holds the task of its grant
  pub record_task : (g k : Grant) (c d : Content) (n : ℕ) → Cont v g c → c.granted n ≡ Some k → Cont v k d → HoldsTask c n d.task
  -- what a house minted is the task at the root
  pub root_task : (g : Grant) (c : Content) → Cont v g c → of_worker g.minter ≡ false → c.task.place ≡ []
  -- while a root record is there, no outcome is recorded
  pub root_open : (k : Grant) → v.root ≡ Some k → v.stored ≡ None
