-- How a place whose value is saved is held: the first bytes are its steps from the root on, and the
-- others are 0.
use Rattle.std.specs.Prelude.{◌≡◌, ◌≤◌, ◌-◌, ◌++◌, ℕ, IsTrue, List, length, drop, replicate, reverse, take}
use Rattle.saved_values.specs.Places.{is_saved_place}
use Rattle.saved_values.specs.declared.place.SavedPlace.TheInside.{Inside}
use Rattle.std.proofs.Common.{ap, ◌∙◌, sym, arith, length-take-le, take-append-drop}
use Rattle.std.proofs.lemmas.List.{length-reverse, reverse-reverse}

pub record IsHeld (p : Inside) : Type 0 where
  pub few : p.len ≤ 23
  pub all : length p.steps ≡ 23
  pub place : IsTrue (is_saved_place (reverse (take p.len p.steps)))
  pub unused : drop p.len p.steps ≡ replicate (23 - p.len) 0

abbrev pub inside_of : List ℕ → Inside
inside_of place = record { len = length place; steps = reverse place ++ replicate (23 - length place) 0 }

-- so a place tells how it is held
pub given_back : (p : Inside) → IsHeld p → inside_of (reverse (take p.len p.steps)) ≡ p
given_back p held =
    let first : List ℕ = take p.len p.steps in
    let same : length (reverse first) ≡ p.len = length-reverse first ∙ length-take-le p.len p.steps (omega (arith, held.few, held.all)) in
    let rest : replicate (23 - length (reverse first)) 0 ≡ drop p.len p.steps = ap (λ n. replicate (23 - n) 0) same ∙ sym held.unused in
    let steps : reverse (reverse first) ++ replicate (23 - length (reverse first)) 0 ≡ p.steps = ap (λ l. l ++ replicate (23 - length (reverse first)) 0) (reverse-reverse first) ∙ (ap (λ l. first ++ l) rest ∙ take-append-drop p.len p.steps) in
    λ i. record { len = same i; steps = steps i }
