-- The holes of the kids that a join awaits.
use Rattle.std.proofs.Common.{◌≡◌, ℕ, ℤ, ◌+◌, ◌≤◌, pos, Bool, true, false, nat_lt, if◌then◌else◌, List, [], ◌∷◌, Option, Some, None, refl, slice_get, arith}
use Rattle.std.proofs.lemmas.Bool.{ltb-false}
use Rattle.std.specs.List.{AllByRecursion}
use Rattle.std.specs.Ordering.{int_eq}
use Rattle.task_tree.specs.declared.tree.Argument.{Argument}
use Rattle.task_tree.specs.declared.tree.Argument.TheVariants as argument
use Rattle.task_tree.specs.declared.tree.Given.{Given}
use Rattle.task_tree.specs.declared.tree.Given.TheVariants.{Sent, Spawned}
use Rattle.task_tree.specs.declared.tree.Use.{Use}
use Rattle.task_tree.specs.declared.tree.End.{End}
use Rattle.task_tree.specs.declared.tree.End.TheVariants.{If', Send, Next}
use Rattle.task_tree.specs.declared.tree.Thread.{Thread}
use Rattle.task_tree.specs.declared.tree.Program.{Program}
use Rattle.kind_check.specs.declared.turn.Kid.{Kid}
use Rattle.kind_check.specs.declared.turn.Slot.{Slot}
use Rattle.kind_check.specs.declared.turn.Slot.TheVariants.{Filled, Awaits}
use Rattle.kind_check.specs.declared.turn.Turn.TheVariants.{Sends, Joins}
use Rattle.kind_check.specs.Value.{Env, value_of}
use Rattle.kind_check.specs.Turns.{◌>>=◌, values_of, after_lets, thread_of, use_of, slot_for, slots_of, end_turn, block_turn, bind, thread_turn, turn_of}
use Rattle.kind_check.specs.Total.{HoleFits}

-- what both steps gave, where both gave something
record Both {A B : Type 0} (o : Option A) (f : A → Option B) (y : B) : Type 0 where
  first : A
  is : o ≡ Some first
  next : f first ≡ Some y

both_at : {A B : Type 0} (o : Option A) (f : A → Option B) (y : B) → (o >>= f) ≡ Some y → Both o f y
both_at None f y e = absurd (none_some y e)
  where
    none_some : {B : Type 0} (y : B) → None ≡ Some y → ⊥
    none_some y e = cc
both_at (Some x) f y e = record { first = x; is = refl; next = e }

-- the choice that was taken
either_end : {A : Type 0} (t : Bool) (x y : Option A) (a : A) (P : Type 0) → (x ≡ Some a → P) → (y ≡ Some a → P)
    → (if t then x else y) ≡ Some a → P
either_end true x y a P f g e = f e
either_end false x y a P f g e = g e

within_eight : {A : Type 0} (t : Bool) (o : Option A) (a : A) → (if t then None else o) ≡ Some a
    → (t ≡ false) × (o ≡ Some a)
within_eight true o a e = cc
within_eight false o a e = (refl, e)

not_over : (i : ℕ) → nat_lt 8 i ≡ false → i ≤ 8
not_over i e = ltb-false 8 i e

abbrev kid_at : ℕ → ℕ → List ℤ → Kid
kid_at i t numbers = record { hole = i; thread = t; arguments = numbers }

-- the slot of hole i
slot_hole : (ts : List Thread) (env : Env) (i : ℕ) (given : Given) (slot : Slot) → 1 ≤ i → i ≤ 8
    → slot_for ts env i given ≡ Some slot → HoleFits slot
slot_hole ts env i (Sent e) slot first last is =
    let b = both_at (value_of env e) (λ (v : ℤ). Some (Filled v)) slot is in
    let same : slot ≡ Filled b.first = cc in
    rw same tt
slot_hole ts env i (Spawned name es) slot first last is =
    let b = both_at (thread_of ts name.text)
    (λ (t : ℕ). values_of env es >>= λ (vs : List ℤ). Some (Awaits (kid_at i t vs))) slot is in
    let b2 = both_at (values_of env es) (λ (vs : List ℤ). Some (Awaits (kid_at i b.first vs))) slot b.next in
    let same : slot ≡ Awaits (kid_at i b.first b2.first) = cc in
    rw same (first, last)

-- the slots of a successor, the next hole being hole i
slots_holes : (ts : List Thread) (env : Env) (uses : List Use) (i : ℕ) (args : List Argument) (slots : List Slot)
    → 1 ≤ i → slots_of ts env uses i args ≡ Some slots → AllByRecursion HoleFits slots
slots_holes ts env uses i [] slots first e = let same : slots ≡ [] = cc in rw same tt
slots_holes ts env uses i (argument.Value x ∷ args) slots first e =
    let b = both_at (value_of env x) (λ (v : ℤ). slots_of ts env uses i args >>= λ (ss : List Slot). Some
    (Filled v ∷ ss)) slots e in
    let b2 = both_at (slots_of ts env uses i args) (λ (ss : List Slot). Some (Filled b.first ∷ ss)) slots b.next in
    let same : slots ≡ Filled b.first ∷ b2.first = cc in
    rw same (tt, slots_holes ts env uses i args b2.first first b2.is)
slots_holes ts env uses i (argument.Hole x ∷ args) slots first e =
    let few = within_eight (nat_lt 8 i)
    (use_of uses x.text >>= λ (g : Given). slot_for ts env i g >>= λ (slot : Slot). slots_of ts env uses
    (i + 1) args >>= λ (ss : List Slot). Some (slot ∷ ss)) slots e in
    let b = both_at (use_of uses x.text)
    (λ (g : Given). slot_for ts env i g >>= λ (slot : Slot). slots_of ts env uses
    (i + 1) args >>= λ (ss : List Slot). Some (slot ∷ ss)) slots few.1 in
    let b2 = both_at (slot_for ts env i b.first)
    (λ (slot : Slot). slots_of ts env uses (i + 1) args >>= λ (ss : List Slot). Some (slot ∷ ss)) slots b.next in
    let b3 = both_at (slots_of ts env uses (i + 1) args) (λ (ss : List Slot). Some (b2.first ∷ ss)) slots b2.next in
    let same : slots ≡ b2.first ∷ b3.first = cc in
    rw same (
      slot_hole ts env i b.first b2.first first (not_over i few.0) b2.is,
      slots_holes ts env uses (i + 1) args b3.first (omega arith) b3.is,
    )

-- so is each join of a body
end_holes : (ts : List Thread) (env : Env) (e : End) (s : ℕ) (slots : List Slot)
    → end_turn ts env e ≡ Some (Joins s slots) → AllByRecursion HoleFits slots
end_holes ts env (If' c p lets1 end1 close1 q lets2 end2 close2) s slots e =
    let b = both_at (value_of env c) (λ (v : ℤ). if int_eq v
    (pos 0) then (after_lets env lets2 >>= λ (inner : Env). end_turn ts inner end2)
    else (after_lets env lets1 >>= λ (inner : Env). end_turn ts inner end1)) (Joins s slots) e in
    either_end (int_eq b.first (pos 0)) (after_lets env lets2 >>= λ (inner : Env). end_turn ts inner end2)
    (after_lets env lets1 >>= λ (inner : Env). end_turn ts inner end1) (Joins s slots)
    (AllByRecursion HoleFits slots)
    (λ e2. let b2 = both_at (after_lets env lets2) (λ (inner : Env). end_turn ts inner end2)
    (Joins s slots) e2 in end_holes ts b2.first end2 s slots b2.next)
    (λ e1. let b1 = both_at (after_lets env lets1) (λ (inner : Env). end_turn ts inner end1)
    (Joins s slots) e1 in end_holes ts b1.first end1 s slots b1.next)
    b.next
end_holes ts env (Send k x) s slots e =
    let b = both_at (value_of env x) (λ (v : ℤ). Some (Sends v)) (Joins s slots) e in
    let other : Sends b.first ≡ Joins s slots = cc in cc
end_holes ts env (Next name k args uses) s slots e =
    let b = both_at (thread_of ts name.text)
    (λ (t : ℕ). slots_of ts env uses 1 args >>= λ (ss : List Slot). Some (Joins t ss)) (Joins s slots) e in
    let b2 = both_at (slots_of ts env uses 1 args) (λ (ss : List Slot). Some (Joins b.first ss))
    (Joins s slots) b.next in
    let same : b2.first ≡ slots = cc in
    rw same at (slots_holes ts env uses 1 args b2.first (omega arith) b2.is)

-- the holes of a thread's join are 1 to 8
pub turn_holes : (p : Program) (t : ℕ) (numbers : List ℤ) (s : ℕ) (slots : List Slot)
    → turn_of p t numbers ≡ Some (Joins s slots) → AllByRecursion HoleFits slots
turn_holes p t numbers s slots e =
    let b = both_at (slice_get p.threads t) (λ (thread : Thread). thread_turn p.threads thread numbers)
    (Joins s slots) e in
    let b2 = both_at (bind b.first.numbers numbers) (λ (env : Env). block_turn p.threads env b.first.body)
    (Joins s slots) b.next in
    let b3 = both_at (after_lets b2.first b.first.body.lets)
    (λ (inner : Env). end_turn p.threads inner b.first.body.end) (Joins s slots) b2.next in
    end_holes p.threads b3.first b.first.body.end s slots b3.next
