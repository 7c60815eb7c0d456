-- Places by their steps from the root on: counting the steps from either end gives one number.
use mathlib.Core.List.{reverse_aux}
use Rattle.std.proofs.Common.{ap, ◌&&◌, nat_le, drop, false, refl, ◌≡◌, ◌==◌, ◌∙◌, sym, not, ℕ, ◌+◌, Bool, true, List, [], ◌∷◌, reverse, length, cond, arith, ◌<◌, ◌≤◌, nat_lt, get_or}
use Rattle.std.specs.List.{count_by, sum_by}
use Rattle.std.proofs.lemmas.List.{at_drop_more, length-reverse}
use Rattle.ids.specs.Place.{level_of, IsPlace}
use Rattle.std.proofs.lemmas.List.Sums.{count_by-le-length, sum_by-cons, AllPass-from_list_all}
use Rattle.std.proofs.lemmas.List.Elements.{All-nil, All-cons, All-head, All-tail}
use Rattle.std.specs.List.{All, list_all}
use Rattle.std.proofs.lemmas.Bool.{le-leb, lt-leb, ltb-false, ltb-true}

sum_by-reverse_aux : {X : Type 0} (f : X → ℕ) (l r : List X) → sum_by f (reverse_aux l r) ≡ sum_by f l + sum_by f r
sum_by-reverse_aux f [] r = omega arith
sum_by-reverse_aux f (x ∷ l) r =
    let e = sum_by-reverse_aux f l (x ∷ r) in
    omega (arith, sum_by-cons f x l, sum_by-cons f x r)

pub count_by-reverse : {X : Type 0} (p : X → Bool) (l : List X) → count_by p (reverse l) ≡ count_by p l
count_by-reverse p l = let e = sum_by-reverse_aux (λ x. cond (p x) 1 0) l [] in omega arith

All-reverse_aux : {X : Type 0} (P : X → Type 0) (l r : List X) → All P l → All P r → All P (reverse_aux l r)
All-reverse_aux P [] r a b = b
All-reverse_aux P (x ∷ l) r a b = All-reverse_aux P l (x ∷ r) (All-tail P x l a) (All-cons P x r (All-head P x l a) b)

pub All-reverse : {X : Type 0} (P : X → Type 0) (l : List X) → All P l → All P (reverse l)
All-reverse P l a = All-reverse_aux P l [] a (All-nil P)

-- what the test of each item says
pub steps_of : (l : List ℕ) → list_all (λ step. nat_lt step 9) l ≡ true → All (λ step. step < 9) l
steps_of l e k d h = ltb-true (get_or l k d) 9 (AllPass-from_list_all (λ step. nat_lt step 9) l e k d h)

-- what is counted of the steps that stand before an index, and one step more

pub counted_on : (steps : List ℕ) (i level : ℕ) → i < length steps
    → level + count_by (λ (step : ℕ). not (step == 0)) (drop i steps) ≡ count_by (λ (step : ℕ). not (step == 0)) steps
    → level + cond (not (get_or steps i 0 == 0)) 1 0 + count_by (λ (step : ℕ). not (step == 0)) (drop (i + 1) steps)
    ≡ count_by (λ (step : ℕ). not (step == 0)) steps
counted_on steps i level within known =
    let here = at_drop_more (λ l. count_by (λ (step : ℕ). not (step == 0)) l) steps i 0 within in
    let more = sum_by-cons (λ (step : ℕ). cond (not (step == 0)) 1 0) (get_or steps i 0) (drop (i + 1) steps) in
    omega (known, here, more, arith)

pub few_counted : (steps : List ℕ) (i level : ℕ) → length steps ≤ 1024
    → level + count_by (λ (step : ℕ). not (step == 0)) (drop i steps) ≡ count_by (λ (step : ℕ). not (step == 0)) steps
    → level ≤ 1024
few_counted steps i level short known = let le =
    count_by-le-length (λ (step : ℕ). not (step == 0)) steps in omega (known, le, short, arith)

pub one_level : (step : ℕ) → cond (not (step == 0)) 1 0 ≤ 1
one_level step = by_test (not (step == 0))
  where
    by_test : (b : Bool) → cond b 1 0 ≤ 1
    by_test true = omega arith
    by_test false = omega arith

-- at most 8 is below 9
below_nine : (n : ℕ) → nat_le n 8 ≡ nat_lt n 9
below_nine n = by_test (nat_lt n 9) refl
  where
    by_test : (b : Bool) → nat_lt n 9 ≡ b → nat_le n 8 ≡ b
    by_test true is = let less = ltb-true n 9 is in le-leb n 8 (omega (less, arith))
    by_test false is = let more = ltb-false n 9 is in lt-leb n 8 (omega (more, arith))

pub and_true : (b : Bool) → (b && true) ≡ b
and_true true = refl
and_true false = refl

pub passed_on : (steps : List ℕ) (i : ℕ) (good : Bool) → i < length steps
    → (good && list_all (λ step. nat_lt step 9) (drop i steps)) ≡ list_all (λ step. nat_lt step 9) steps
    → ((good && nat_le (get_or steps i 0) 8) && list_all (λ step. nat_lt step 9) (drop (i + 1) steps))
    ≡ list_all (λ step. nat_lt step 9) steps
passed_on steps i good within known =
    let here = at_drop_more (λ l. good && list_all (λ step. nat_lt step 9) l) steps i 0 within in
    let rest = list_all (λ step. nat_lt step 9) (drop (i + 1) steps) in
    ap (λ b. (good && b) && rest) (below_nine (get_or steps i 0))
    ∙ (regroup good (nat_lt (get_or steps i 0) 9) rest ∙ (sym here ∙ known))
  where
    regroup : (a b c : Bool) → ((a && b) && c) ≡ (a && (b && c))
    regroup true b c = refl
    regroup false b c = refl

-- steps from the root on that are few and pass the test are a place, at the level that counts those
-- to kids
pub place_of : (steps : List ℕ) (level : ℕ) → length steps ≤ 1024 → list_all (λ step. nat_lt step 9) steps ≡ true
    → level ≡ count_by (λ (step : ℕ). not (step == 0)) steps
    → IsPlace (reverse steps) × (level ≡ level_of (reverse steps))
place_of steps level short test counted = (
  record {
    short = rw (length-reverse steps) short;
    steps = All-reverse (λ (step : ℕ). step < 9) steps (steps_of steps test);
  },
  counted ∙ sym (count_by-reverse (λ (step : ℕ). not (step == 0)) steps),
)

-- one step further from a place that isn't full is a place, a level lower where the step goes to a
-- kid
pub place_below : (place : List ℕ) (hole level : ℕ) → IsPlace place → length place < 1024 → hole < 9
    → level ≡ level_of place + cond (not (hole == 0)) 1 0 → IsPlace (hole ∷ place) × (level ≡ level_of (hole ∷ place))
place_below place hole level is short step counted =
    let more = sum_by-cons (λ (step : ℕ). cond (not (step == 0)) 1 0) hole place in (
      record {
        short = omega (short, arith);
        steps = All-cons (λ (step : ℕ). step < 9) hole place step is.steps;
      },
      omega (counted, more, arith),
    )
