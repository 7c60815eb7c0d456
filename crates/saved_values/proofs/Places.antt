-- Places whose values are saved, by their steps from the root on.
use mathlib.Core.List.{reverse_aux}
use Rattle.std.proofs.Common.{◌≡◌, ◌++◌, ◌&&◌, ◌<◌, ◌≤◌, ◌-◌, IsTrue, take, drop, replicate, ℕ, zero, suc, Bool, true, false, nat_eq, nat_lt, List, [], ◌∷◌, length, reverse, refl, sym, ap, ◌∙◌, arith, Ordering, Less, Equal, Greater}
use Rattle.std.specs.List.{list_all}
use Rattle.std.specs.Ordering.{eq_by_cmp, is_eq, nat_cmp, ordering_then}
use Rattle.std.specs.Cmp.Lexicographic.{bytes_decides, pointwise, slice_cmp}
use Rattle.std.proofs.lemmas.Bool.{lt-ltb}
use Rattle.std.proofs.lemmas.List.{length-append, length-replicate, length-reverse, reverse-append, reverse-reverse}
use Rattle.saved_values.specs.Held.{IsHeld}
use Rattle.saved_values.specs.Places.{are_steps, is_saved_place, place_cmp, stripped}

-- a test of all holds from either end
and_turned : (a b c : Bool) → (a && (b && c)) ≡ ((b && a) && c)
and_turned true true c = refl
and_turned true false c = refl
and_turned false true c = refl
and_turned false false c = refl

all_aux : (f : ℕ → Bool) (xs ys : List ℕ) → list_all f (reverse_aux xs ys) ≡ (list_all f xs && list_all f ys)
all_aux f [] ys = refl
all_aux f (x ∷ xs) ys = all_aux f xs (x ∷ ys) ∙ and_turned (list_all f xs) (f x) (list_all f ys)

and_true : (b : Bool) → (b && true) ≡ b
and_true true = refl
and_true false = refl

pub all-reverse : (f : ℕ → Bool) (xs : List ℕ) → list_all f (reverse xs) ≡ list_all f xs
all-reverse f xs = all_aux f xs [] ∙ and_true (list_all f xs)

-- the last step comes first
pub last_first : (steps rest : List ℕ) (last : ℕ) → steps ≡ rest ++ last ∷ [] → reverse steps ≡ last ∷ reverse rest
last_first steps rest last is = ap reverse is ∙ reverse-append rest (last ∷ [])

pub leads_to_kid : (steps rest : List ℕ) (last : ℕ) → steps ≡ rest ++ last ∷ []
    → is_saved_place (reverse steps) ≡ (nat_lt 0 last && nat_lt (length rest) 23 && are_steps steps)
leads_to_kid steps rest last is =
    let turned : reverse steps ≡ last ∷ reverse rest = last_first steps rest last is in
    let all : are_steps (last ∷ reverse rest) ≡ are_steps steps =
    ap are_steps (sym turned) ∙ all-reverse (λ step. nat_lt step 9) steps in
    ap is_saved_place turned ∙ (ap (λ n. nat_lt 0 last && nat_lt n 23 && are_steps (last ∷ reverse rest))
    (length-reverse rest) ∙ ap (λ b. nat_lt 0 last && nat_lt (length rest) 23 && b) all)

-- where the last one goes to a kid, and there aren't too many, it is left that all are steps
pub kid_when : (steps rest : List ℕ) (last : ℕ) → steps ≡ rest ++ last ∷ [] → ¬ (last ≡ 0) → length rest < 23
    → are_steps steps ≡ is_saved_place (reverse steps)
kid_when steps rest last is some few =
    let kid : nat_lt 0 last ≡ true = lt-ltb 0 last (omega (arith, some)) in
    let room : nat_lt (length rest) 23 ≡ true = lt-ltb (length rest) 23 (omega (arith, few)) in
    sym (leads_to_kid steps rest last is
    ∙ (ap (λ b. b && nat_lt (length rest) 23 && are_steps steps) kid ∙ ap (λ b. b && are_steps steps) room))

pub kid_successor : (steps rest : List ℕ) (last : ℕ) → steps ≡ rest ++ last ∷ [] → last ≡ 0
    → false ≡ is_saved_place (reverse steps)
kid_successor steps rest last is none =
    sym (leads_to_kid steps rest last is ∙ ap (λ n. nat_lt 0 n && nat_lt (length rest) 23 && are_steps steps) none)

-- steps to successors at the end
pub stripped_once : (steps rest : List ℕ) (last : ℕ) → steps ≡ rest ++ last ∷ [] → last ≡ 0
    → stripped (reverse steps) ≡ stripped (reverse rest)
stripped_once steps rest last is none =
    ap stripped (last_first steps rest last is) ∙ ap (λ n. stripped (n ∷ reverse rest)) none

pub stripped_stays : (steps rest : List ℕ) (last : ℕ) → steps ≡ rest ++ last ∷ [] → ¬ (last ≡ 0)
    → stripped (reverse steps) ≡ reverse steps
stripped_stays steps rest last is some =
    ap stripped (last_first steps rest last is) ∙ (by_last last some ∙ sym (last_first steps rest last is))
  where
    by_last : (n : ℕ) → ¬ (n ≡ 0) → stripped (n ∷ reverse rest) ≡ n ∷ reverse rest
    by_last zero some = absurd (some refl)
    by_last (suc n) one = refl

-- places that are equal by their order are the same
pub both_equal : (r s : Ordering) → ordering_then r s ≡ Equal → (r ≡ Equal) × (s ≡ Equal)
both_equal Less s e = cc
both_equal Equal s e = (refl, e)
both_equal Greater s e = cc

nat_same : (i j : ℕ) → nat_cmp i j ≡ Equal → i ≡ j
nat_same i j e = grind (arith, e)

steps_same : (p q : List ℕ) → slice_cmp nat_cmp p q ≡ Equal → p ≡ q
steps_same [] [] e = refl
steps_same [] (j ∷ q) e = cc
steps_same (i ∷ p) [] e = cc
steps_same (i ∷ p) (j ∷ q) e =
    let both = both_equal (nat_cmp i j) (slice_cmp nat_cmp p q) e in
    let head : i ≡ j = nat_same i j both.0 in
    let rest : p ≡ q = steps_same p q both.1 in
    rw (head, rest) refl

pub place_same : (p q : List ℕ) → place_cmp p q ≡ Equal → p ≡ q
place_same p q e =
    let turned : reverse p ≡ reverse q =
    steps_same (reverse p) (reverse q)
    (both_equal (nat_cmp (length p) (length q)) (slice_cmp nat_cmp (reverse p) (reverse q)) e).1 in
    sym (reverse-reverse p) ∙ (ap reverse turned ∙ reverse-reverse q)

nat_self : (n : ℕ) → nat_cmp n n ≡ Equal
nat_self n = grind arith

steps_self : (p : List ℕ) → slice_cmp nat_cmp p p ≡ Equal
steps_self [] = refl
steps_self (i ∷ p) = rw (nat_self i, steps_self p) refl

pub place_self : (p : List ℕ) → place_cmp p p ≡ Equal
place_self p = rw (nat_self (length p), steps_self (reverse p)) refl

-- so a test of whether two are the same decides what their order tells
pub decides : (p q : List ℕ) (b : Bool) → (b ≡ true → p ≡ q) → (p ≡ q → b ≡ true) → b ≡ eq_by_cmp place_cmp p q
decides p q true same told = sym (ap is_eq (ap (place_cmp p) (sym (same refl)) ∙ place_self p))
decides p q false same told = by_order (place_cmp p q) refl
  where
    by_order : (r : Ordering) → place_cmp p q ≡ r → false ≡ is_eq r
    by_order Less e = refl
    by_order Greater e = refl
    by_order Equal e = told (place_same p q e)

-- the place of a kid, by its last step and those before it
pub kid_same : (p place before : List ℕ) (last hole : ℕ) → reverse p ≡ before ++ last ∷ [] → last ≡ hole
    → pointwise nat_eq before (reverse place) ≡ true → hole ∷ place ≡ p
kid_same p place before last hole is here same =
    let rest : reverse before ≡ place =
    ap reverse ((bytes_decides before (reverse place)).0 same) ∙ reverse-reverse place in
    let there : p ≡ last ∷ reverse before = sym (reverse-reverse p) ∙ last_first (reverse p) before last is in
    sym (there ∙ (ap (λ n. n ∷ reverse before) here ∙ ap (λ l. hole ∷ l) rest))

pub kid_parts : (p place before : List ℕ) (last hole : ℕ) → reverse p ≡ before ++ last ∷ [] → hole ∷ place ≡ p
    → (last ≡ hole) × (pointwise nat_eq before (reverse place) ≡ true)
kid_parts p place before last hole is same =
    let there : hole ∷ place ≡ last ∷ reverse before =
    same ∙ (sym (reverse-reverse p) ∙ last_first (reverse p) before last is) in
    let front : hole ≡ last = cc in
    let rest : place ≡ reverse before = cc in
    (sym front, (bytes_decides before (reverse place)).1 (sym (ap reverse rest ∙ reverse-reverse before)))

-- how a place is held that is made
take_front : (xs ys : List ℕ) → take (length xs) (xs ++ ys) ≡ xs
take_front [] ys = refl
take_front (x ∷ xs) ys = ap (λ l. x ∷ l) (take_front xs ys)

drop_front : (xs ys : List ℕ) → drop (length xs) (xs ++ ys) ≡ ys
drop_front [] ys = refl
drop_front (x ∷ xs) ys = drop_front xs ys

drop_zeros : (n m : ℕ) → drop {A = ℕ} n (replicate m 0) ≡ replicate (m - n) 0
drop_zeros zero m = (let e : m ≡ m - 0 = omega arith in ap (λ (k : ℕ). replicate {A = ℕ} k 0) e)
drop_zeros (suc n) zero = (let e : 0 ≡ 0 - suc n = omega arith in ap (λ (k : ℕ). replicate {A = ℕ} k 0) e)
drop_zeros (suc n) (suc m) = (let e : m - n ≡ suc m - suc n =
    omega arith in drop_zeros n m ∙ ap (λ (k : ℕ). replicate {A = ℕ} k 0) e)

pub held_of : (steps kept : List ℕ) → kept ≡ steps → length steps ≤ 23 → IsTrue (is_saved_place (reverse steps))
    → IsHeld record { len = length steps; steps = kept ++ drop (length steps) (replicate 23 0) }
held_of steps kept is few place =
    let zeros : List ℕ = drop (length steps) (replicate 23 0) in
    let left : length zeros ≡ 23 - length steps =
    ap length (drop_zeros (length steps) 23) ∙ length-replicate (23 - length steps) 0 in
    rw is (record {
      few = few;
      all = length-append steps zeros ∙ omega (arith, left, few);
      place = rw (take_front steps zeros) place;
      unused = drop_front steps zeros ∙ drop_zeros (length steps) 23;
    })
