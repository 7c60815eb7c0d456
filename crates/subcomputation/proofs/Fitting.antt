-- What a subcomputation holds fits its program after each change.
use Rattle.std.proofs.Common.{◌≡◌, ℕ, ℤ, ◌+◌, ◌^◌, suc, Bool, true, false, nat_lt, List, [], ◌∷◌, cond, length, map, Option, Some, None, Result, Ok, Err, IsTrue, refl, sym, ap, subst, ◌∙◌}
use Rattle.std.specs.List.{AllByRecursion, slice_set}
use Rattle.std.proofs.lemmas.Bool.{eq-eqb, eqb-true}
use Rattle.std.proofs.lemmas.List.{length-map, length-set}
use Rattle.ids.specs.Names.{Grant}
use Rattle.ids.specs.Named.{changed_of}
use Rattle.ids.specs.Naming.{name_of_frame, name_of_grant, name_of_record}
use Rattle.ids.specs.Options.{◌>>=◌}
use Rattle.ids.specs.Slots.{numbers_in}
use Rattle.ids.specs.declared.outcome.Outcome.{Outcome}
use Rattle.ids.specs.declared.outcome.Outcome.TheVariants.{Value, TooDeep}
use Rattle.ids.specs.declared.returns.Return.{Return}
use Rattle.ids.specs.declared.returns.Return.TheVariants.{Whole, Local}
use Rattle.ids.specs.declared.work.Frame.{Frame}
use Rattle.ids.specs.declared.work.Record.{Record}
use Rattle.ids.specs.declared.work.Task.{Task}
use Rattle.task_tree.specs.declared.tree.Program.{Program}
use Rattle.kind_check.specs.Total.{SlotFits, SlotsFit, Takes, TurnFits, arity_of}
use Rattle.kind_check.specs.declared.turn.Slot.{Slot}
use Rattle.kind_check.specs.declared.turn.Slot.TheVariants.{Filled, Awaits}
use Rattle.kind_check.specs.declared.turn.Turn.{Turn}
use Rattle.kind_check.specs.declared.turn.Turn.TheVariants.{Sends, Joins}
use Rattle.body_eval.specs.Done.{DoneOf}
use Rattle.frames.specs.Frames.{frame_in, with_slot, without_frame}
use Rattle.victim_records.specs.Records.{record_in, with_holder, without_record}
use Rattle.sub_rules.specs.Carrying.{exec_content, executed, is_turn_of, within_numbers}
use Rattle.sub_rules.specs.Changes.{arrives, closed, closed_in, done_again, ends, filled_in, frame_of, given_away, granted_out, joined, kids, readied, record_of, redone, replaced, turned, with_parent, with_thief}
use Rattle.sub_rules.specs.Resuming.{Known, slot_by, resumed, resumed_slots}
use Rattle.sub_rules.specs.Content.{Ready, granted_content, ready, ready_in, task_of}
use Rattle.sub_rules.specs.declared.change.ContentChange.{ContentChange}
use Rattle.sub_rules.specs.declared.change.ContentRedo.{ContentRedo}
use Rattle.sub_rules.specs.declared.change.ContentGrant.{ContentGrant}
use Rattle.sub_rules.specs.declared.change.SubError.{SubError}
use Rattle.sub_rules.specs.declared.change.SubError.TheVariants.{Stale, Spent}
use Rattle.sub_rules.specs.declared.content.Content.{Content}
use Rattle.sub_rules.proofs.Sums.{all_appended, all_filtered, all_found, all_put}
use Rattle.subcomputation.specs.Fitting.{Fits, frame_fits, is_arity, record_fits, task_fits}

-- as many numbers as a thread takes
of_takes : (p : Program) (t count : ℕ) → Takes p t count → IsTrue (is_arity (arity_of p t) count)
of_takes p t count takes = ap (λ o. is_arity o count) takes.arity ∙ eq-eqb count count refl

pub to_takes : (p : Program) (t count : ℕ) → IsTrue (is_arity (arity_of p t) count) → Takes p t count
to_takes p t count fits = by_arity (arity_of p t) refl fits
  where
    by_arity : (o : Option ℕ) → arity_of p t ≡ o → IsTrue (is_arity o count) → Takes p t count
    by_arity None is at = absurd cc
    by_arity (Some arity) is at = record { arity = is ∙ ap Some (eqb-true arity count at) }

as_many : (o : Option ℕ) (m n : ℕ) → m ≡ n → IsTrue (is_arity o m) → IsTrue (is_arity o n)
as_many o m n same fits = subst (λ k. IsTrue (is_arity o k)) same fits

abbrev FrameFits : Program → Frame → Type 0
FrameFits p f = IsTrue (frame_fits p f)

abbrev RecordFits : Program → Record → Type 0
RecordFits p r = IsTrue (record_fits p r)

-- slots that are all given are as many as the numbers
given_fit : (o : Option ℕ) (numbers : List ℤ) → IsTrue (is_arity o (length numbers))
    → IsTrue (is_arity o (length (map Some numbers)))
given_fit o numbers fits = as_many o (length numbers) (length (map Some numbers)) (sym (length-map numbers Some)) fits

-- a granted task
pub begun_fits : (p : Program) (host : ℕ) (task : Task) → IsTrue (task_fits p task) → Fits p (granted_content host task)
begun_fits p host task fits = record {
  task = fits;
  frames = (given_fit (arity_of p task.thread) task.numbers fits, tt);
  records = tt;
}

-- another host, or another holder
pub parent_fits : (p : Program) (host : ℕ) (c : Content) → Fits p c → Fits p (with_parent host c)
parent_fits p host c fits = record { task = fits.task; frames = fits.frames; records = fits.records }

pub thief_fits : (p : Program) (g : Grant) (holder : ℕ) (c : Content) → Fits p c → Fits p (with_thief g holder c)
thief_fits p g holder c fits = by_found (record_in g c.records) refl
  where
    by_found : (o : Option Record) → record_in g c.records ≡ o
        → Fits p (record c { records = changed_of name_of_record (with_holder holder) c.records o })
    by_found None there = record { task = fits.task; frames = fits.frames; records = fits.records }
    by_found (Some x) there =
        let here : RecordFits p x = all_found name_of_record (RecordFits p)
        (name_of_grant g) x c.records fits.records there in
        record {
          task = fits.task;
          frames = fits.frames;
          records = all_put name_of_record (RecordFits p) (with_holder holder x) c.records here fits.records;
        }

-- a frame, or a record, leaves
frame_left : (p : Program) (n : ℕ) (c : Content) → Fits p c → Fits p (record c { frames = without_frame n c.frames })
frame_left p n c fits = record {
  task = fits.task;
  frames = all_filtered (FrameFits p) _ c.frames fits.frames;
  records = fits.records;
}

record_left : (p : Program) (g : Grant) (c : Content) → Fits p c
    → Fits p (record c { records = without_record g c.records })
record_left p g c fits = record {
  task = fits.task;
  frames = fits.frames;
  records = all_filtered (RecordFits p) _ c.records fits.records;
}

-- a value comes
arrives_fits : (p : Program) (r : Return) (v : ℤ) (c : Content) → Fits p c → Fits p (arrives r v c).after
arrives_fits p Whole v c fits = record { task = fits.task; frames = tt; records = tt }
arrives_fits p (Local n j) v c fits = by_frame (frame_in n c.frames) refl
  where
    by_frame : (o : Option Frame) → frame_in n c.frames ≡ o → Fits p (filled_in j v c o).after
    by_frame None there = fits
    by_frame (Some f) there =
        let here : FrameFits p f = all_found name_of_frame (FrameFits p) (n, 0) f c.frames fits.frames there in
        let filled : FrameFits p (with_slot j v f) =
        as_many (arity_of p f.thread) (length f.slots) (length (slice_set f.slots j (Some v)))
        (sym (length-set f.slots j (Some v))) here in
        record {
          task = fits.task;
          frames = all_put name_of_frame (FrameFits p) (with_slot j v f) c.frames filled fits.frames;
          records = fits.records;
        }

-- a frame's turn
kids_fit : (p : Program) (place : List ℕ) (n j m : ℕ) (slots : List Slot) → SlotsFit p slots
    → AllByRecursion (FrameFits p) (kids place n j m slots)
kids_fit p place n j m [] fit = tt
kids_fit p place n j m (Filled v ∷ slots) fit = kids_fit p place n (j + 1) m slots fit.1
kids_fit p place n j m (Awaits kid ∷ slots) fit = (
  given_fit (arity_of p kid.thread) kid.arguments (of_takes p kid.thread (length kid.arguments) fit.0),
  kids_fit p place n (j + 1) (m + 1) slots fit.1,
)

turned_fits : (p : Program) (f : Frame) (t : Turn) (c : Content) → Fits p c → TurnFits p t → Fits p (turned f t c).after
turned_fits p f (Sends v) c fits turn =
    arrives_fits p f.returns v (record c { frames = without_frame f.number c.frames }) (frame_left p f.number c fits)
turned_fits p f (Joins t slots) c fits turn = by_length (nat_lt (length f.place) 1024)
  where
    made : AllByRecursion (FrameFits p) (joined f t slots c.next)
    made = (
      as_many (arity_of p t) (length slots) _ (sym (length-map slots _)) (of_takes p t (length slots) turn.0),
      kids_fit p f.place c.next 0 (c.next + 1) slots turn.1,
    )

    by_length : (b : Bool) → Fits p (cond b (replaced f.number (joined f t slots c.next) c) (ends TooDeep c)).after
    by_length true = record {
      task = fits.task;
      frames = all_appended (FrameFits p) (without_frame f.number c.frames) (joined f t slots c.next)
          (frame_left p f.number c fits).frames made;
      records = fits.records;
    }
    by_length false = record { task = fits.task; frames = tt; records = tt }

-- the outcome of a record's grant
closed_fits : (p : Program) (r : Record) (o : Outcome) (c : Content) → Fits p c → Fits p (closed r o c).after
closed_fits p r (Value v) c fits = arrives_fits p r.returns v (record c { records = without_record r.grant c.records })
    (record_left p r.grant c fits)
closed_fits p r TooDeep c fits = record { task = fits.task; frames = tt; records = tt }

-- a record's frame is there again
redone_fits : (p : Program) (r : Record) (c : Content) → Fits p c → RecordFits p r → Fits p (redone r c)
redone_fits p r c fits here = record {
  task = fits.task;
  frames = all_put name_of_frame (FrameFits p) (frame_of r) c.frames
      (given_fit (arity_of p r.task.thread) r.task.numbers here) fits.frames;
  records = (record_left p r.grant c fits).records;
}

-- the numbers of a ready frame are as many as its slots
numbers_length : (slots : List (Option ℤ)) (numbers : List ℤ) → numbers_in slots ≡ Some numbers
    → length slots ≡ length numbers
numbers_length [] numbers is = let same : [] ≡ numbers = cc in ap length same
numbers_length (None ∷ slots) numbers is = absurd cc
numbers_length (Some v ∷ slots) numbers is = by_rest (numbers_in slots) (numbers_length slots) is
  where
    by_rest : (o : Option (List ℤ)) → ((rest : List ℤ) → o ≡ Some rest → length slots ≡ length rest)
        → (o >>= (λ vs. Some (v ∷ vs))) ≡ Some numbers → suc (length slots) ≡ length numbers
    by_rest None rest at = absurd cc
    by_rest (Some vs) rest at = let same : v ∷ vs ≡ numbers = cc in ap suc (rest vs refl) ∙ ap length same

ready_fits : (p : Program) (n : ℕ) (c : Content) (r : Ready) → Fits p c → ready_in n c ≡ Some r
    → IsTrue (task_fits p (task_of r))
ready_fits p n c r fits is = by_frame (frame_in n c.frames) refl is
  where
    by_numbers : (f : Frame) → FrameFits p f → (o : Option (List ℤ)) → numbers_in f.slots ≡ o
        → (o >>= (λ numbers. Some (record { frame = f; numbers = numbers }))) ≡ Some r
        → IsTrue (task_fits p (task_of r))
    by_numbers f here None numbers at = absurd cc
    by_numbers f here (Some vs) numbers at =
        let same : record { frame = f; numbers = vs } ≡ r = cc in
        subst (λ x. IsTrue (task_fits p (task_of x))) same
        (as_many (arity_of p f.thread) (length f.slots) (length vs) (numbers_length f.slots vs numbers) here)

    by_frame : (o : Option Frame) → frame_in n c.frames ≡ o → (o >>= ready) ≡ Some r → IsTrue (task_fits p (task_of r))
    by_frame None there at = absurd cc
    by_frame (Some f) there at =
        let here : FrameFits p f = all_found name_of_frame (FrameFits p) (n, 0) f c.frames fits.frames there in
        by_numbers f here (numbers_in f.slots) refl at

granted_fits : (p : Program) (g : Grant) (thief : ℕ) (r : Ready) (c : Content) → Fits p c
    → IsTrue (task_fits p (task_of r)) → Fits p (granted_out g thief r c)
granted_fits p g thief r c fits here = record {
  task = fits.task;
  frames = (frame_left p r.frame.number c fits).frames;
  records = all_put name_of_record (RecordFits p) (record_of g thief r) c.records here fits.records;
}

-- so does a turn where values of kids are known
resumed_length : (known : Known) (place : List ℕ) (slots : List Slot)
    → length (resumed_slots known place slots) ≡ length slots
resumed_length known place [] = refl
resumed_length known place (slot ∷ slots) = ap suc (resumed_length known place slots)

resumed_slots_fit : (p : Program) (known : Known) (place : List ℕ) (slots : List Slot) → SlotsFit p slots
    → SlotsFit p (resumed_slots known place slots)
resumed_slots_fit p known place [] fit = tt
resumed_slots_fit p known place (Filled v ∷ slots) fit = (tt, resumed_slots_fit p known place slots fit.1)
resumed_slots_fit p known place (Awaits kid ∷ slots) fit =
    (by_value (known (kid.hole ∷ place)), resumed_slots_fit p known place slots fit.1)
  where
    by_value : (o : Option ℤ) → SlotFits p (slot_by kid o)
    by_value None = fit.0
    by_value (Some v) = tt

resumed_fits : (p : Program) (known : Known) (place : List ℕ) (t : Turn) → TurnFits p t
    → TurnFits p (resumed known place t)
resumed_fits p known place (Sends v) fits = tt
resumed_fits p known place (Joins t slots) fits =
    (subst (Takes p t) (sym (resumed_length known place slots)) fits.0, resumed_slots_fit p known place slots fits.1)

-- what a call leaves fits
pub exec_fits : (known : Known) (p : Program) (c x : Content) (d : DoneOf) (n : ℕ) (change : ContentChange) → x ≡ c
    → exec_content known d n x ≡ Ok change → Fits p c → TurnFits p d.turn → Fits p change.after
exec_fits known p c x d n change same is fits turn = by_frame (frame_in n c.frames) (rw same at is)
  where
    by_next : (f : Frame) (b : Bool) → cond {A =
        Result ContentChange SubError} b (Ok (turned f (resumed known f.place d.turn) c)) (Err Spent) ≡ Ok change
        → Fits p change.after
    by_next f true at =
        let equal : turned f (resumed known f.place d.turn) c ≡ change = cc in
        rw (← equal) (turned_fits p f (resumed known f.place d.turn) c fits (resumed_fits p known f.place d.turn turn))
    by_next f false at = absurd cc

    by_turn : (f : Frame) (b : Bool) → cond {A =
        Result ContentChange SubError} b (within_numbers (turned f (resumed known f.place d.turn) c)) (Err Stale)
        ≡ Ok change → Fits p change.after
    by_turn f true at = by_next f (nat_lt (turned f (resumed known f.place d.turn) c).after.next (2 ^ 32)) at
    by_turn f false at = absurd cc

    by_frame : (o : Option Frame) → executed known d c o ≡ Ok change → Fits p change.after
    by_frame None at = absurd cc
    by_frame (Some f) at = by_turn f (is_turn_of d f) at

pub result_fits : (p : Program) (c x : Content) (g : Grant) (o : Outcome) (change : ContentChange) → x ≡ c
    → Some change ≡ closed_in o x (record_in g x.records) → Fits p c → Fits p change.after
result_fits p c x g o change same is fits = by_record (record_in g c.records) (rw same at is)
  where
    by_record : (r : Option Record) → Some change ≡ closed_in o c r → Fits p change.after
    by_record None at = absurd cc
    by_record (Some r) at =
        let equal : closed r o c ≡ change = cc in
        rw (← equal) (closed_fits p r o c fits)

-- the same of a frame that is given away, whose task fits too
pub record GivesFitting (p : Program) (given : ContentGrant) : Type 0 where
  pub after : Fits p given.after
  pub task : IsTrue (task_fits p given.task)

pub grant_fits : (p : Program) (c x : Content) (g : Grant) (thief n : ℕ) (given : ContentGrant) → x ≡ c
    → Some given ≡ given_away g thief x (ready_in n x) → Fits p c → GivesFitting p given
grant_fits p c x g thief n given same is fits = by_ready (ready_in n c) refl (rw same at is)
  where
    by_ready : (o : Option Ready) → ready_in n c ≡ o → Some given ≡ given_away g thief c o → GivesFitting p given
    by_ready None there at = absurd cc
    by_ready (Some r) there at =
        let here = ready_fits p n c r fits there in
        let equal : record { after = granted_out g thief r c; task = task_of r } ≡ given = cc in
        rw (← equal) (record { after = granted_fits p g thief r c fits here; task = here })

pub redo_fits : (p : Program) (c x : Content) (g : Grant) (again : ContentRedo) → x ≡ c
    → Some again ≡ done_again x (record_in g x.records) → Fits p c → Fits p again.after
redo_fits p c x g again same is fits = by_record (record_in g c.records) refl (rw same at is)
  where
    by_record : (r : Option Record) → record_in g c.records ≡ r → Some again ≡ done_again c r → Fits p again.after
    by_record None there at = absurd cc
    by_record (Some r) there at =
        let here : RecordFits p r = all_found name_of_record (RecordFits p)
        (name_of_grant g) r c.records fits.records there in
        let equal : record { after = redone r c; ready = readied (frame_of r) } ≡ again = cc in
        rw (← equal) (redone_fits p r c fits here)
