-- What a program with no stuck body gives of one turn.
use Rattle.std.proofs.Common.{◌≡◌, ◌∙◌, ◌<◌, ℕ, ℤ, zero, suc, List, [], ◌∷◌, length, Option, Some, None, IsSome, slice_get, refl, sym, subst, arith}
use Rattle.task_tree.specs.declared.tree.Thread.{Thread}
use Rattle.task_tree.specs.declared.tree.Program.{Program}
use Rattle.kind_check.specs.declared.turn.Turn.{Turn}
use Rattle.kind_check.specs.declared.turn.Turn.TheVariants.{Sends, Joins}
use Rattle.kind_check.specs.declared.turn.Slot.{Slot}
use Rattle.kind_check.specs.declared.code.Code.{Code}
use Rattle.kind_check.specs.declared.code.SlotCode.{SlotCode}
use Rattle.kind_check.specs.declared.code.Leaf.{Leaf}
use Rattle.kind_check.specs.declared.code.Leaf.TheVariants as leaf
use Rattle.kind_check.specs.declared.code.BlockCode.{BlockCode}
use Rattle.kind_check.specs.Turns.{◌>>=◌, turn_of}
use Rattle.kind_check.specs.Total.{Takes, TurnFits, IsTotal}
use Rattle.kind_check.specs.Code.{code_value, code_slots, leaf_turn, code_turn, IsBody}
use Rattle.body_eval.specs.Reached.{Reached}

found_within : (ts : List Thread) (t n : ℕ)
    → (slice_get ts t >>= λ (thread : Thread). Some (length thread.numbers)) ≡ Some n → t < length ts
found_within [] t n e = absurd cc
found_within (x ∷ ts) zero n e = omega arith
found_within (x ∷ ts) (suc t) n e = let h = found_within ts t n e in omega arith

-- a thread that takes numbers is there
pub thread_there : (p : Program) (t n : ℕ) → Takes p t n → t < length p.threads
thread_there p t n takes = found_within p.threads t n takes.arity

-- the body of a thread that takes these numbers reaches an end
pub body_reaches : (p : Program) (t : ℕ) (numbers : List ℤ) (body : BlockCode) → IsTotal p → Takes p t (length numbers)
    → IsBody p t body → IsSome (code_turn numbers body)
body_reaches p t numbers body total takes is =
    let r = total.each t numbers takes in
    let e = is.each numbers r.turn r.reached in
    rw e refl

-- a leaf that comes to the end of the body comes to the end of the thread
pub leaf_reached : (p : Program) (t : ℕ) (numbers env : List ℤ) (body : BlockCode) (l : Leaf) → IsTotal p
    → Takes p t (length numbers) → IsBody p t body → leaf_turn env l ≡ code_turn numbers body
    → Reached p t numbers env l
leaf_reached p t numbers env body l total takes is e =
    let r = total.each t numbers takes in
    record { turn = r.turn; reached = r.reached; fits = r.fits; same = e ∙ is.each numbers r.turn r.reached }

-- an end that is reached has a turn, and that is the thread's
pub end_known : (p : Program) (t : ℕ) (numbers env : List ℤ) (l : Leaf) → Reached p t numbers env l
    → IsSome (leaf_turn env l)
end_known p t numbers env l r = rw r.same refl

pub end_turn : (p : Program) (t : ℕ) (numbers env : List ℤ) (l : Leaf) (turn : Turn) → Reached p t numbers env l
    → leaf_turn env l ≡ Some turn → turn_of p t numbers ≡ Some turn
end_turn p t numbers env l turn r e = r.reached ∙ (sym r.same ∙ e)

-- where a number is sent, it has a value, and the end sends that value
pub sent_known : (env : List ℤ) (l : Leaf) (c : Code) → IsSome (leaf_turn env l) → l ≡ leaf.Sends c
    → IsSome (code_value env c)
sent_known env l c there e = at_value (code_value env c) (rw e at there)
  where
    at_value : (o : Option ℤ) → IsSome (o >>= λ (v : ℤ). Some (Sends v)) → IsSome o
    at_value None h = h
    at_value (Some v) h = refl

pub sent_turn : (env : List ℤ) (l : Leaf) (c : Code) (v : ℤ) → l ≡ leaf.Sends c → code_value env c ≡ Some v
    → leaf_turn env l ≡ Some (Sends v)
sent_turn env l c v e f = rw (e, f) refl

-- where a successor is spawned, its slots are there, and the end joins them
pub joined_known : (env : List ℤ) (l : Leaf) (s : ℕ) (cs : List SlotCode) → IsSome (leaf_turn env l)
    → l ≡ leaf.Joins s cs → IsSome (code_slots env cs)
joined_known env l s cs there e = at_slots (code_slots env cs) (rw e at there)
  where
    at_slots : (o : Option (List Slot)) → IsSome (o >>= λ (slots : List Slot). Some (Joins s slots)) → IsSome o
    at_slots None h = h
    at_slots (Some v) h = refl

pub joined_turn : (env : List ℤ) (l : Leaf) (s : ℕ) (cs : List SlotCode) (slots : List Slot) → l ≡ leaf.Joins s cs
    → code_slots env cs ≡ Some slots → leaf_turn env l ≡ Some (Joins s slots)
joined_turn env l s cs slots e f = rw (e, f) refl

-- the end that is reached names threads that are there, with as many numbers as they take
pub turn_fits : (p : Program) (t : ℕ) (numbers env : List ℤ) (l : Leaf) (turn : Turn) → Reached p t numbers env l
    → turn_of p t numbers ≡ Some turn → TurnFits p turn
turn_fits p t numbers env l turn r reached =
    let e : r.turn ≡ turn = cc (r.reached, reached) in
    subst (λ (x : Turn). TurnFits p x) e r.fits
