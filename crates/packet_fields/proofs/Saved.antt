-- Saved values: what is written for them, and when they can be written.
use Rattle.std.proofs.Common.{◌≡◌, ◌<◌, ◌≤◌, ◌%◌, ◌^◌, ◌&&◌, ◌++◌, ℕ, Bool, true, nat_lt, nat_le, List, [], ◌∷◌, length, reverse, Option, None, IsTrue, refl, ap, ◌∙◌, arith}
use Rattle.std.specs.List.{list_all, flat_map}
use Rattle.std.proofs.lemmas.Bool.{and_parts, lt-ltb, ltb-true}
use Rattle.std.proofs.lemmas.List.{length-reverse, reverse-reverse}
use Rattle.std.proofs.lemmas.List.Concat.{flat_map-cons}
use Rattle.byteorder.specs.Endian.{big_bytes}
use Rattle.saved_values.specs.Places.{are_steps, is_saved_place}
use Rattle.saved_values.specs.Saved.{place_of}
use Rattle.saved_values.specs.declared.value.SavedValue.{SavedValue}
use Rattle.saved_values.proofs.Places.{all-reverse}
use Rattle.packet_fields.specs.Format.{items, plain}
use Rattle.packet_fields.specs.Fields.{saved_place, saved_value, saved_values, step}
use Rattle.packet_fields.proofs.Fitting.{bound_alone, plain_fits}
use Rattle.packet_fields.proofs.Writing.{items_write, plain_write}

-- the parts of a test of a place
pub record IsKidPlace (p : List ℕ) : Type 0 where
  pub some : 0 < length p
  pub few : length p < 24
  pub steps : are_steps p ≡ true

pub kid_place : (p : List ℕ) → IsTrue (is_saved_place p) → IsKidPlace p
kid_place [] is = absurd cc
kid_place (first ∷ before) is =
    let h = and_parts (nat_lt 0 first && nat_lt (length before) 23) (are_steps (first ∷ before)) is in
    let few : length before < 23 = ltb-true (length before) 23
    (and_parts (nat_lt 0 first) (nat_lt (length before) 23) h.0).1 in
    record { some = omega arith; few = omega (arith, few); steps = h.1 }

-- a step is one byte
bytes_of_steps : (xs : List ℕ) → are_steps xs ≡ true → flat_map step.write xs ≡ xs
unfolding step
bytes_of_steps [] all = refl
bytes_of_steps (x ∷ xs) all =
    let h = and_parts (nat_lt x 9) (are_steps xs) all in
    let first : x < 9 = ltb-true x 9 h.0 in
    let here : x % 256 ≡ x = omega (arith, first) in
    rw (flat_map-cons step.write x xs, bytes_of_steps xs h.1, here) refl

steps_fit : (xs : List ℕ) → are_steps xs ≡ true → list_all step.fits xs ≡ true
unfolding step
steps_fit [] all = refl
steps_fit (x ∷ xs) all =
    let h = and_parts (nat_lt x 9) (are_steps xs) all in
    let first : x < 9 = ltb-true x 9 h.0 in
    rw (lt-ltb x 256 (omega (arith, first)), h.0, steps_fit xs h.1) refl

turned_steps : (p : List ℕ) → are_steps p ≡ true → are_steps (reverse p) ≡ true
turned_steps p all = all-reverse (λ step. nat_lt step 9) p ∙ all

pub saved_place_write : (p : List ℕ) → IsTrue (is_saved_place p)
    → saved_place.write p ≡ big_bytes 2 (length (reverse p)) ++ reverse p
unfolding saved_place
saved_place_write p is =
    ap (λ (r : List ℕ). big_bytes 2 (length (reverse p)) ++ r) (plain_write step (reverse p)
    ∙ bytes_of_steps (reverse p) (turned_steps p (kid_place p is).steps))

pub saved_place_fits : (p : List ℕ) → IsTrue (is_saved_place p) → saved_place.fits p ≡ true
unfolding saved_place
saved_place_fits p is =
    let parts = kid_place p is in
    let xs : List ℕ = reverse p in
    let wide : nat_lt (length xs) (256 ^ 2) ≡ true =
    lt-ltb (length xs) (256 ^ 2) (omega (arith, length-reverse p, parts.few)) in
    let some : nat_lt 0 (length xs) ≡ true = lt-ltb 0 (length xs) (omega (arith, length-reverse p, parts.some)) in
    let few : nat_lt (length xs) 24 ≡ true = lt-ltb (length xs) 24 (omega (arith, length-reverse p, parts.few)) in
    rw (wide, some, few, plain_fits step xs, steps_fit xs (turned_steps p parts.steps), is) refl

value_write : (last : Option (List ℕ)) (x : SavedValue) → (saved_value last).write x ≡ (saved_value None).write x
unfolding saved_value
value_write last x = refl

pub saved_write : (xs : List SavedValue)
    → saved_values.write xs ≡ big_bytes 1 (length xs) ++ flat_map (saved_value None).write xs
unfolding saved_values
saved_write xs = ap (λ (r : List ℕ). big_bytes 1 (length xs) ++ r)
    (items_write place_of saved_value (saved_value None).write None value_write xs)

pub saved_fits : (xs : List SavedValue)
    → saved_values.fits xs ≡ ((nat_lt 0 (length xs) && nat_le (length xs) 64)
    && (items place_of saved_value None (length xs)).fits xs)
unfolding saved_values
saved_fits xs = room (nat_lt 0 (length xs)) (length xs) ((items place_of saved_value None (length xs)).fits xs)
  where
    room : (some : Bool) (count : ℕ) (others : Bool)
        → ((nat_lt count 256 && (some && nat_le count 64)) && others) ≡ ((some && nat_le count 64) && others)
    room some count others = grind arith
