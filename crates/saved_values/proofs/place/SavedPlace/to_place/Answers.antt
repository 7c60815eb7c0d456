-- A place whose value is saved is one.
use Rattle.std.proofs.Common.{◌≡◌, ◌<◌, ◌≤◌, ◌&&◌, true, false, cond, nat_le, nat_lt, List, ℕ, [], ◌∷◌, length, reverse, Option, Some, None, IsTrue, refl, sym, ap, ◌∙◌, arith, rules}
use Rattle.std.proofs.lemmas.Bool.{and_parts, le-leb}
use Rattle.std.proofs.lemmas.List.{length-reverse}
use Rattle.ids.specs.Place.{is_place}
use Rattle.saved_values.specs.Places.{are_steps, is_saved_place}
use Rattle.saved_values.proofs.Places.{all-reverse}
use Rattle.saved_values.proofs.place.SavedPlace.to_place.Goals as goal

place_is : (steps : List ℕ) → length steps ≤ 23 → are_steps steps ≡ true → is_place steps ≡ true
place_is steps few all = rw (le-leb (length steps) 1024 (omega (arith, few)), all) refl

steps_of : (p : List ℕ) → IsTrue (is_saved_place p) → are_steps (reverse p) ≡ true
steps_of [] is = cc
steps_of (step ∷ before) is = all-reverse (λ n. nat_lt n 9) (step ∷ before)
    ∙ (and_parts (nat_lt 0 step && nat_lt (length before) 23) (are_steps (step ∷ before)) is).1

some : (p : List ℕ) (steps : List ℕ) → steps ≡ reverse p → length steps ≤ 23 → IsTrue (is_saved_place p)
    → None ≡ cond (is_place steps) (Some (reverse steps)) None → ⊥
some p steps is few place none =
    let kept : are_steps steps ≡ true = ap are_steps is ∙ steps_of p place in
    let one : None ≡ Some (reverse steps) =
    none ∙ ap (λ b. cond b (Some (reverse steps)) None) (place_is steps few kept) in
    cc

pub unreachable-requires : goal.unreachable-requires
unreachable-requires c = some c.args.self.now c.steps-steps.result.now c.steps-steps.ensures.steps
    c.steps-steps.ensures.few c.steps-steps.ensures.kid (search rules)
