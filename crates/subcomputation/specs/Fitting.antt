-- Whether a task, or a content that is offered, fits the program and the node that it comes to.
use Rattle.std.specs.Prelude.{ℕ, ℤ, ◌&&◌, ◌+◌, not, Bool, true, false, IsTrue, nat_eq, List, [], ◌∷◌, ◌++◌, length, Option, None, Some, is_some, map}
use Rattle.std.specs.List.{AllByRecursion, list_all, filter, flat_map}
use Rattle.ids.specs.declared.outcome.Progress.{Progress}
use Rattle.ids.specs.declared.outcome.Progress.TheVariants.{Active, Finished}
use Rattle.ids.specs.declared.returns.Return.{Return}
use Rattle.ids.specs.declared.returns.Return.TheVariants.{Whole, Local}
use Rattle.ids.specs.declared.work.Frame.{Frame}
use Rattle.ids.specs.declared.work.Record.{Record}
use Rattle.ids.specs.declared.work.Task.{Task}
use Rattle.task_tree.specs.declared.tree.Program.{Program}
use Rattle.kind_check.specs.Total.{arity_of}
use Rattle.sub_rules.specs.declared.content.Content.{Content}
use Rattle.sub_rules.specs.Debts.{same_return}
use Rattle.subcomputation.specs.Subs.{SubOf, host_in}

-- a thread that takes so many numbers
abbrev pub is_arity : Option ℕ → ℕ → Bool
is_arity None count = false
is_arity (Some arity) count = nat_eq arity count

-- the thread of a task, a frame or a record is there, and takes as many numbers as it has
abbrev pub task_fits : Program → Task → Bool
task_fits p t = is_arity (arity_of p t.thread) (length t.numbers)

abbrev pub frame_fits : Program → Frame → Bool
frame_fits p f = is_arity (arity_of p f.thread) (length f.slots)

abbrev pub record_fits : Program → Record → Bool
record_fits p r = task_fits p r.task

-- what a content holds fits a program: its own task has a thread that is there, and as many numbers
-- as it takes, and so have each frame, with its slots, and each record's task
pub record Fits (p : Program) (c : Content) : Type 0 where
  pub task : IsTrue (task_fits p c.task)
  pub frames : AllByRecursion (λ f. IsTrue (frame_fits p f)) c.frames
  pub records : AllByRecursion (λ r. IsTrue (record_fits p r)) c.records

-- the empty slots of frame n, from slot j on
abbrev pub empty_from : ℕ → ℕ → List (Option ℤ) → List Return
empty_from n j [] = []
empty_from n j (None ∷ slots) = Local n j ∷ empty_from n (j + 1) slots
empty_from n j (Some v ∷ slots) = empty_from n (j + 1) slots

-- where values are awaited: that of the whole, and one at each empty slot
abbrev pub awaited_in : List Frame → List Return
awaited_in frames = Whole ∷ flat_map (λ f. empty_from f.number 0 f.slots) frames

-- where the values of frames and records go
abbrev pub owed_by : Content → List Return
owed_by c = map (λ f. f.returns) c.frames ++ map (λ r. r.returns) c.records

abbrev pub numbers_of : Content → List ℕ
numbers_of c = map (λ f. f.number) c.frames ++ map (λ r. r.frame) c.records

abbrev pub occurs_once : {A : Type 0} → (A → A → Bool) → List A → A → Bool
occurs_once same xs x = nat_eq (length (filter (same x) xs)) 1

-- two lists have the same items, each once
abbrev pub same_once : {A : Type 0} → (A → A → Bool) → List A → List A → Bool
same_once same xs ys = list_all (occurs_once same ys) xs && list_all (occurs_once same xs) ys

-- all numbers of frames and records differ, each value that is awaited is owed once, and nothing
-- else is owed
abbrev pub is_linked : Content → Bool
is_linked c = same_once nat_eq (numbers_of c) (numbers_of c) && same_once same_return (awaited_in c.frames) (owed_by c)

-- a record that comes to node i: its grant wasn't minted there, and no subcomputation there has a
-- record of it
abbrev pub is_foreign : ℕ → List SubOf → Record → Bool
is_foreign i subs r = not (nat_eq r.grant.minter i) && not (is_some (host_in r.grant subs))

abbrev pub progress_fits : ℕ → List SubOf → Content → Progress → Bool
progress_fits i subs c Active = is_linked c && list_all (is_foreign i subs) c.records
progress_fits i subs c (Finished o) = true

-- what is offered to node i, which holds these subcomputations, fits the program and the node
abbrev pub content_fits : Program → ℕ → List SubOf → Content → Bool
content_fits p i subs c = task_fits p c.task && list_all (frame_fits p) c.frames && list_all (record_fits p) c.records && progress_fits i subs c c.progress
