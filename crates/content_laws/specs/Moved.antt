-- The changes of a content as moves on a view that has its tables.
use Rattle.std.specs.Prelude.{◌≡◌, ◌+◌, ℕ, List, [], ◌∷◌, map, Option, Some, None}
use Rattle.ids.specs.Names.{Grant}
use Rattle.ids.specs.Naming.{name_of_frame, name_of_record}
use Rattle.ids.specs.Ordered.{AreInOrder}
use Rattle.ids.specs.declared.outcome.Outcome.{Outcome}
use Rattle.ids.specs.declared.outcome.Progress.{Progress}
use Rattle.ids.specs.declared.outcome.Progress.TheVariants.{Active, Finished}
use Rattle.ids.specs.declared.work.Record.{Record}
use Rattle.ids.specs.declared.work.Task.{Task}
use Rattle.sub_rules.specs.declared.change.Filling.{Filling}
use Rattle.sub_rules.specs.declared.content.Content.{Content}
use Rattle.sub_rules.specs.Changes.{ends}
use Rattle.sub_rules.specs.Content.{Ready, task_of as task_in, granted_content}
use Rattle.sub_rules.specs.Debts.{IsSound}
use Rattle.table_laws.specs.Content as tables
use Rattle.table_laws.specs.View.{Result, Sub, View}
use Rattle.table_laws.specs.Facts.{result_to}
use Rattle.table_laws.specs.Guards.{Begins, Alters}
use Rattle.table_laws.specs.Meaning.{Meaning}
use Rattle.table_laws.specs.Causes.{Ends}
use Rattle.table_laws.specs.Moves.{alter, grant_frame}
use Rattle.table_laws.specs.Acts.{Act}
use Rattle.table_laws.specs.Runs.{Right}
use Rattle.content_laws.specs.Shown.{task_of, outcome_number, Shows}

-- what the holder of a subcomputation keeps of its content: it is sound, its frames stand by rising
-- number, and its records by rising grant
pub record IsKept (c : Content) : Type 0 where
  pub sound : IsSound c
  pub frames : AreInOrder name_of_frame c.frames
  pub records : AreInOrder name_of_record c.records

-- a value that came to a slot, in the subcomputation of g
abbrev pub fill_of : Grant → Option Filling → Option tables.Fill
fill_of g None = None
fill_of g (Some x) = Some (record { grant = g; frame = x.frame; slot = x.slot; place = x.place; value = x.value })

-- the Result that a content tells: its outcome, once it is finished, for its parent host
abbrev pub told_by : Grant → ℕ → Progress → List Result
told_by g host Active = []
told_by g host (Finished o) = result_to g host (outcome_number o) ∷ []

abbrev pub told : Grant → Content → List Result
told g c = told_by g c.parent c.progress

-- the grants of records
abbrev pub grants_of_records : List Record → List Grant
grants_of_records records = map (λ r. r.grant) records

-- the content of i's sub s of g changes to `after`, with a fill perhaps, by one move that is right:
-- it tells the outcome if there is one, and settles the grants of the records that are gone
pub record IsMove (m : Meaning) (v : View) (i : ℕ) (g : Grant) (s : Sub) (after : Content) (fill : Option Filling) (gone : List Grant) : Type 0 where
  pub content : tables.Content
  pub shown : Shows content after
  pub move : Act v (alter v i g s content (fill_of g fill) (told g after) gone)
  pub right : Right m move

-- tables with which a Grant of a host begins a task
pub record BeginsTask (host : ℕ) (task : Task) : Type 0 where
  pub content : tables.Content
  pub shown : Shows content (granted_content host task)
  pub begins : Begins content host
  pub task_is : content.task ≡ task_of task

-- the next grant that i mints
abbrev pub next_grant : View → ℕ → Grant
next_grant v i = record { minter = i; number = v.minted i + 1 }

-- i grants a ready frame of its sub s of g to a thief by one move, which sends the content with
-- which the frame's task begins
pub record IsGrantMove (v : View) (i : ℕ) (g : Grant) (s : Sub) (thief seq : ℕ) (r : Ready) (after : Content) : Type 0 where
  pub begun : BeginsTask i (task_in r)
  pub move : Act v (grant_frame v i g s r.frame.number thief seq begun.content)
  pub right : (m : Meaning) → Right m move
  pub shown : Shows (tables.regrant s.content r.frame.number (Some (next_grant v i))) after

-- tables of a content that came to an end with an outcome
pub record IsContentEnd (g : Grant) (t : tables.Content) (c : Content) (o : Outcome) : Type 0 where
  pub content : tables.Content
  pub shown : Shows content (ends o c).after
  pub none_left : Ends t content (outcome_number o) None
  pub alters : Alters g t content (told g (ends o c).after) (grants_of_records c.records)
