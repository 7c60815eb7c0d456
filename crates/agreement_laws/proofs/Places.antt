-- A task that has no value leaves none to the tasks above its place.
use Rattle.std.proofs.Common.{◌≡◌, ℕ, ℤ, ◌<◌, ◌≤◌, zero, suc, Bool, true, false, nat_eq, if◌then◌else◌, List, [], ◌∷◌, ◌++◌, length, Option, Some, None, refl, sym, ◌∙◌, arith}
use Rattle.task_tree.specs.declared.tree.Program.{Program}
use Rattle.kind_check.specs.declared.turn.Kid.{Kid}
use Rattle.kind_check.specs.declared.turn.Slot.{Slot}
use Rattle.kind_check.specs.declared.turn.Slot.TheVariants.{Filled, Awaits}
use Rattle.kind_check.specs.declared.turn.Turn.{Turn}
use Rattle.kind_check.specs.declared.turn.Turn.TheVariants.{Sends, Joins}
use Rattle.kind_check.specs.Turns.{◌>>=◌, turn_of}
use Rattle.serial_meaning.specs.Serial.{TaskValue, slot_values, serial}
use Rattle.serial_meaning.specs.Places.{Call, kid_of, after_step, room, value_within, task_at, value_at}
use Rattle.serial_meaning.proofs.FrameLaws.{bound_at, call_of, joined_value, JoinedBefore}
use Rattle.agreement_laws.specs.Agreement.{IsBelow}

joined_turn : (p : Program) (input : List ℤ) (i : ℕ) (q : List ℕ) (task before : Call) (turn : Turn)
    → task_at p input q ≡ Some before → turn_of p before.thread before.numbers ≡ Some turn
    → after_step (serial p (room (i ∷ q))) i turn ≡ Some task → JoinedBefore p input i q task
joined_turn p input i q task before (Sends v) at is step = cc
joined_turn p input i q task before (Joins s slots) at is step =
    record { before = before; successor = s; slots = slots; at = at; turn = is; step = step }

-- the task before a place that isn't the root joins
pub joined_before : (p : Program) (input : List ℤ) (i : ℕ) (q : List ℕ) (task : Call)
    → task_at p input (i ∷ q) ≡ Some task → JoinedBefore p input i q task
joined_before p input i q task e =
    let b = bound_at (task_at p input q)
    (λ (before : Call). turn_of p before.thread before.numbers >>= λ (turn : Turn). after_step
    (serial p (room (i ∷ q))) i turn) task e in
    let b2 = bound_at (turn_of p b.first.thread b.first.numbers)
    (λ (turn : Turn). after_step (serial p (room (i ∷ q))) i turn) task b.next in
    joined_turn p input i q task b.first b2.first b.is b2.is b2.next

-- where all slots have values, a kid has one
kid_valued : (f : TaskValue) (i : ℕ) (slots : List Slot) (kid : Kid) (vs : List ℤ) → kid_of i slots ≡ Some kid
    → slot_values f slots ≡ Some vs → (v : ℤ) × (f kid.thread kid.arguments ≡ Some v)
kid_valued f i [] kid vs found all = cc
kid_valued f i (Filled w ∷ slots) kid vs found all =
    let b = bound_at (slot_values f slots) (λ (ws : List ℤ). Some (w ∷ ws)) vs all in
    kid_valued f i slots kid b.first found b.is
kid_valued f i (Awaits k ∷ slots) kid vs found all =
    let b = bound_at (f k.thread k.arguments)
    (λ (w : ℤ). slot_values f slots >>= λ (ws : List ℤ). Some (w ∷ ws)) vs all in
    let b2 = bound_at (slot_values f slots) (λ (ws : List ℤ). Some (b.first ∷ ws)) vs b.next in
    by_test (λ e. kid_valued f i slots kid b2.first e b2.is) b.first b.is (nat_eq k.hole i) found
  where
    by_test : (kid_of i slots ≡ Some kid → (v : ℤ) × (f kid.thread kid.arguments ≡ Some v)) → (w : ℤ)
        → f k.thread k.arguments ≡ Some w → (t : Bool) → (if t then Some k else kid_of i slots) ≡ Some kid
        → (v : ℤ) × (f kid.thread kid.arguments ≡ Some v)
    by_test rest w is true e = let same : k ≡ kid = cc in (w, rw same at is)
    by_test rest w is false e = rest e

-- the successor of a join runs on the values of its slots
next_values : (p : Program) (input : List ℤ) (i : ℕ) (q : List ℕ) (task call : Call) (j : JoinedBefore p input i q task)
    → task_at p input (zero ∷ q) ≡ Some call
    → (vs : List ℤ) × (slot_values (serial p (room (zero ∷ q))) j.slots ≡ Some vs)
next_values p input i q task call j e =
    let step : (slot_values (serial p (room (zero ∷ q))) j.slots >>= λ (vs : List ℤ). Some (call_of j.successor vs))
    ≡ Some call = rw (j.at, j.turn) at e in
    let b = bound_at (slot_values (serial p (room (zero ∷ q))) j.slots)
    (λ (vs : List ℤ). Some (call_of j.successor vs)) call step in
    (b.first, b.is)

-- so a kid without value leaves the successor without one
kid_has_value : (p : Program) (input : List ℤ) (i : ℕ) (q : List ℕ) (task : Call) (v : ℤ)
    → JoinedBefore p input (suc i) q task → task_at p input (suc i ∷ q) ≡ Some task
    → value_at p input (suc i ∷ q) ≡ None → value_at p input (zero ∷ q) ≡ Some v → ⊥
unfolding value_within
kid_has_value p input i q task v j is none next =
    let f = serial p (room (zero ∷ q)) in
    let b = bound_at (kid_of (suc i) j.slots) (λ (kid : Kid). Some (call_of kid.thread kid.arguments)) task j.step in
    let same : call_of b.first.thread b.first.arguments ≡ task = cc in
    let here : f task.thread task.numbers ≡ None = rw is at none in
    let s = bound_at (task_at p input (zero ∷ q)) (λ (call : Call). value_within p (room (zero ∷ q)) call) v next in
    let all = next_values p input (suc i) q task s.first j s.is in
    let valued = kid_valued f (suc i) j.slots b.first all.0 b.is all.1 in
    none_some (f b.first.thread b.first.arguments) valued.0 (rw (← same) at here) valued.1
  where
    none_some : (o : Option ℤ) (w : ℤ) → o ≡ None → o ≡ Some w → ⊥
    none_some o w none some = cc

-- and the task that joined
kid_leaves_none : (p : Program) (input : List ℤ) (i : ℕ) (q : List ℕ) (task : Call) → length q < 1024
    → JoinedBefore p input (suc i) q task → task_at p input (suc i ∷ q) ≡ Some task
    → value_at p input (suc i ∷ q) ≡ None → value_at p input q ≡ None
kid_leaves_none p input i q task short j is none = by_value (value_at p input q) refl
  where
    by_value : (o : Option ℤ) → value_at p input q ≡ o → value_at p input q ≡ None
    by_value None e = e
    by_value (Some v) e = absurd (kid_has_value p input i q task v j is none
        (sym (joined_value p input q j.before.thread j.before.numbers j.successor j.slots short j.at j.turn) ∙ e))

none_above : (p : Program) (input : List ℤ) (root steps : List ℕ) (task : Call) → length (steps ++ root) ≤ 1024
    → task_at p input (steps ++ root) ≡ Some task → value_at p input (steps ++ root) ≡ None
    → value_at p input root ≡ None
none_above p input root [] task short is none = none
none_above p input root (zero ∷ steps) task short is none =
    let q = steps ++ root in
    let j = joined_before p input zero q task is in
    none_above p input root steps j.before (omega arith) j.at
    (joined_value p input q j.before.thread j.before.numbers j.successor j.slots (omega arith) j.at j.turn ∙ none)
none_above p input root (suc i ∷ steps) task short is none =
    let j = joined_before p input (suc i) (steps ++ root) task is in
    none_above p input root steps j.before (omega arith) j.at
    (kid_leaves_none p input i (steps ++ root) task (omega arith) j is none)

-- a task without value leaves the root place that it is below without one
pub none_at_root : (p : Program) (input : List ℤ) (root place : List ℕ) (task : Call) → IsBelow root place
    → length place ≤ 1024 → task_at p input place ≡ Some task → value_at p input place ≡ None
    → value_at p input root ≡ None
none_at_root p input root place task below short is none =
    none_above p input root below.steps task (rw below.is at short) (rw below.is at is) (rw below.is at none)
