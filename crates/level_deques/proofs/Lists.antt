-- Lists of posts: what holds of all of them, and which one is read.
use Rattle.std.proofs.Common.{◌≡◌, ◌<◌, ◌≤◌, ℕ, ◌+◌, ◌-◌, zero, suc, Bool, true, false, cond, List, [], ◌∷◌, ◌++◌, length, get_or, reverse, slice_get, Option, None, Some, IsSome, OnSome, refl, sym, ap, ◌∙◌, arith}
use Rattle.std.specs.List.{AllByRecursion, filter}
use Rattle.std.proofs.lemmas.List.{get_or-reverse, length-reverse}

-- what holds of two lists holds of both in a row, and the other way round
pub all_both : {X : Type 0} (P : X → Type 0) (xs ys : List X) → AllByRecursion P xs → AllByRecursion P ys
    → AllByRecursion P (xs ++ ys)
all_both P [] ys first second = second
all_both P (x ∷ xs) ys first second = (first.0, all_both P xs ys first.1 second)

pub all_first : {X : Type 0} (P : X → Type 0) (xs ys : List X) → AllByRecursion P (xs ++ ys) → AllByRecursion P xs
all_first P [] ys all = tt
all_first P (x ∷ xs) ys all = (all.0, all_first P xs ys all.1)

pub all_second : {X : Type 0} (P : X → Type 0) (xs ys : List X) → AllByRecursion P (xs ++ ys) → AllByRecursion P ys
all_second P [] ys all = all
all_second P (x ∷ xs) ys all = all_second P xs ys all.1

pub all_since : {X : Type 0} (P Q : X → Type 0) → ((x : X) → P x → Q x) → (xs : List X) → AllByRecursion P xs
    → AllByRecursion Q xs
all_since P Q since [] all = tt
all_since P Q since (x ∷ xs) all = (since x all.0, all_since P Q since xs all.1)

-- what is read of two lists in a row, or from the end on
pub get_first : {X : Type 0} (xs ys : List X) (i : ℕ) → i < length xs → slice_get (xs ++ ys) i ≡ slice_get xs i
get_first [] ys i less = absurd (search arith)
get_first (x ∷ xs) ys zero less = refl
get_first (x ∷ xs) ys (suc i) less = get_first xs ys i (search arith)

pub get_second : {X : Type 0} (xs ys : List X) (k i : ℕ) → k ≡ length xs + i → slice_get (xs ++ ys) k ≡ slice_get ys i
get_second [] ys k i at = ap (slice_get ys) (omega arith)
get_second (x ∷ xs) ys zero i at = absurd (search arith)
get_second (x ∷ xs) ys (suc k) i at = get_second xs ys k i (search arith)

pub get_some : {X : Type 0} (xs : List X) (i : ℕ) (d : X) → i < length xs → slice_get xs i ≡ Some (get_or xs i d)
get_some [] i d less = absurd (search arith)
get_some (x ∷ xs) zero d less = refl
get_some (x ∷ xs) (suc i) d less = get_some xs i d (search arith)

pub get_reversed : {X : Type 0} (xs : List X) (i : ℕ) → i < length xs
    → slice_get (reverse xs) i ≡ slice_get xs (length xs - 1 - i)
get_reversed [] i less = absurd (search arith)
get_reversed (x ∷ xs) i less =
    get_some (reverse (x ∷ xs)) i x (let same = length-reverse (x ∷ xs) in omega arith)
    ∙ ap Some (get_or-reverse (x ∷ xs) i x less)
    ∙ sym (get_some (x ∷ xs) (length (x ∷ xs) - 1 - i) x (omega arith))

-- what holds of an option that is there
pub on_some : {X : Type 0} (o : Option X) (P : Type 0) → OnSome o P → IsSome o → P
on_some None P on is = cc
on_some (Some x) P on is = on

-- what stays of a list is no longer
pub filter_shorter : {X : Type 0} (test : X → Bool) (xs : List X) → length (filter test xs) ≤ length xs
filter_shorter test [] = search arith
filter_shorter test (x ∷ xs) = by_test (filter_shorter test xs) (test x)
  where
    by_test : length (filter test xs) ≤ length xs → (b : Bool)
        → length (cond b (x ∷ filter test xs) (filter test xs)) ≤ length (x ∷ xs)
    by_test rest true = omega arith
    by_test rest false = omega arith
