-- The tables with which a task begins.
use Rattle.std.proofs.Common.{◌≡◌, ◌≢◌, ℕ, Bool, true, false, cond, [], ◌∷◌, Option, Some, None, ◌⊎◌, inl, inr, refl, sym, ap, ◌∙◌, arith}
use Rattle.std.specs.Ordering.{is_eq}
use Rattle.ids.specs.Named.{name_cmp}
use Rattle.ids.specs.declared.work.Frame.{Frame}
use Rattle.ids.specs.declared.work.Task.{Task}
use Rattle.frames.specs.Frames.{frame_in}
use Rattle.sub_rules.specs.Content.{first_frame, granted_content}
use Rattle.sub_rules.proofs.Sums.{equal_to_itself}
use Rattle.table_laws.specs.Tables.{put, put_row}
use Rattle.table_laws.specs.Content as tables
use Rattle.table_laws.specs.Content.{Content as Tables, Return, Slot, Absent, Empty, given, Debtor, Sound}
use Rattle.table_laws.specs.Guards.{Begins}
use Rattle.table_laws.proofs.Sounder.{given_full}
use Rattle.table_laws.proofs.Lists.{same_or, some_same, none_some}
use Rattle.table_laws.proofs.Entries.{put_here, put_other, row_here, row_other}
use Rattle.content_laws.specs.Shown.{task_of, IsUnused, ShowsFrame, ShowsNothing, Shows}
use Rattle.content_laws.specs.Moved.{BeginsTask}
use Rattle.content_laws.proofs.Rows.{given_row}

-- tables with nothing in them
abbrev none_yet : ℕ → Option Return
none_yet n = None

-- and with no slots
abbrev no_slots : ℕ → ℕ → Slot
no_slots n j = Absent

module _ (host : ℕ) (task : Task) where
  -- the tables: number 0 holds the task and returns the value of the whole
  abbrev begun : Tables
  begun = record {
    host = host;
    task = task_of task;
    next = 1;
    place = λ n. task.place;
    thread = λ n. task.thread;
    returns = put none_yet 0 (Some tables.Whole);
    slots = put_row no_slots 0 (given task.numbers);
    granted = λ n. None;
    outcome = None;
  }

  -- they show the first frame
  first_shown : ShowsFrame begun (first_frame task)
  first_shown = record {
    returns = put_here none_yet 0 (Some tables.Whole);
    place = refl;
    thread = refl;
    slots = λ j. row_here no_slots 0 j (given task.numbers) ∙ sym (given_row task.numbers j);
    unstolen = refl;
  }

  -- which is the only one
  only_first : (f : Frame) (b : Bool) → cond b (Some (first_frame task)) None ≡ Some f → f ≡ first_frame task
  only_first f true at = cc
  only_first f false at = cc

  -- so they show the content
  begun_shown : Shows begun (granted_content host task)
  begun_shown = record {
    host = refl;
    task = refl;
    next = refl;
    outcome = refl;
    frames = λ n f at. rw (only_first f (is_eq (name_cmp (n, 0) (0, 0))) at) first_shown;
    records = λ g r at. absurd (none_some refl at);
    unused = unused;
  }
    where
      first_there : frame_in 0 (first_frame task ∷ []) ≡ Some (first_frame task)
      first_there = ap (λ r. cond (is_eq r) (Some (first_frame task)) None) (equal_to_itself (0, 0))

      unused : (n : ℕ) → IsUnused (granted_content host task) n → ShowsNothing begun n
      unused n u =
          let other : n ≢ 0 = λ same. (let here : frame_in n (first_frame task ∷ []) ≡ Some (first_frame task) =
          rw same first_there in none_some u.frame here) in
          record {
            returns = put_other none_yet 0 n (Some tables.Whole) other;
            slots = λ j. row_other no_slots 0 n j (given task.numbers) other;
            unstolen = refl;
          }

  -- nothing but number 0 returns, and it returns the value of the whole
  record First (n : ℕ) (r : Return) : Type 0 where
    number : n ≡ 0
    whole : r ≡ tables.Whole

  -- what returns is number 0
  only_number : (n : ℕ) (r : Return) → put none_yet 0 (Some tables.Whole) n ≡ Some r → First n r
  only_number n r at = by_number (same_or n 0)
    where
      by_number : (n ≡ 0) ⊎ (n ≢ 0) → First n r
      by_number (inl same) = record {
        number = same;
        whole = some_same (sym (rw same at at) ∙ put_here none_yet 0 (Some tables.Whole));
      }
      by_number (inr other) = absurd (none_some (put_other none_yet 0 n (Some tables.Whole) other) at)

  -- no value goes to a slot
  no_local : (n f j : ℕ) → put none_yet 0 (Some tables.Whole) n ≡ Some (tables.Local f j) → ⊥
  no_local n f j at = let first = only_number n (tables.Local f j) at in let is = first.whole in cc

  -- and no slot awaits one
  no_empty : (f j : ℕ) → put_row no_slots 0 (given task.numbers) f j ≡ Empty → ⊥
  no_empty f j at = by_number (same_or f 0)
    where
      by_number : (f ≡ 0) ⊎ (f ≢ 0) → ⊥
      by_number (inl same) = given_full task.numbers j (sym (row_here no_slots 0 j (given task.numbers))
          ∙ rw same at at)
      by_number (inr other) = let none = row_other no_slots 0 f j (given task.numbers) other in cc

  -- so each has its debtor
  begun_sound : Sound begun
  begun_sound = record {
    below = λ n r at. let number = (only_number n r at).number in omega arith;
    debtor = λ f j at. absurd (no_empty f j at);
    one = λ n m r at here. (only_number n r at).number ∙ sym (only_number m r here).number;
    empty = λ n f j at. absurd (no_local n f j at);
    later = λ n f j at. absurd (no_local n f j at);
    whole = λ active. record { number = 0; owes = put_here none_yet 0 (Some tables.Whole) };
    over = λ o n at. absurd (none_some refl at);
    bare = λ n j at. (
        let other : n ≢ 0 = λ same. (let here : put none_yet 0 (Some tables.Whole) n ≡ Some tables.Whole =
        rw same (put_here none_yet 0 (Some tables.Whole)) in none_some at here) in
        row_other no_slots 0 n j (given task.numbers) other);
  }

  -- and a task begins with them
  begun_begins : Begins begun host
  begun_begins = record {
    host = refl;
    bare = λ n. refl;
    sound = begun_sound;
    only = λ n r at. ((only_number n r at).number, (only_number n r at).whole);
    holds = record { place = refl; thread = refl; numbers = λ j. row_here no_slots 0 j (given task.numbers) };
    active = refl;
  }

  -- as a Grant sends it
  pub task_begins : BeginsTask host task
  task_begins = record { content = begun; shown = begun_shown; begins = begun_begins; task_is = refl }
