-- Those of saved values whose place is below another one stand by the order of their places too.
use Rattle.std.proofs.Common.{◌≡◌, ◌≤◌, ◌+◌, ℕ, Bool, true, false, cond, List, [], ◌∷◌, length, map, refl, sym, ap, subst, ◌∙◌, arith}
use Rattle.std.specs.List.{AllZip, filter}
use Rattle.std.specs.List.Sorted.{IsStrictlySortedBy}
use Rattle.std.proofs.lemmas.List.Kept.{IsStrictlySortedBy-filter}
use Rattle.saved_values.specs.Places.{is_under, place_cmp}
use Rattle.saved_values.specs.Saved.{IsSavedList, place_of, saved_under}
use Rattle.saved_values.specs.declared.value.SavedValue.{SavedValue}

places_of : (p : List ℕ → Bool) (saved : List SavedValue)
    → map place_of (filter (λ x. p x.place) saved) ≡ filter p (map place_of saved)
places_of p [] = refl
places_of p (x ∷ saved) = by_test (p x.place) (places_of p saved)
  where
    by_test : (b : Bool) → map place_of (filter (λ y. p y.place) saved) ≡ filter p (map place_of saved)
        → map place_of (cond b (x ∷ filter (λ y. p y.place) saved) (filter (λ y. p y.place) saved))
        ≡ cond b (x.place ∷ filter p (map place_of saved)) (filter p (map place_of saved))
    by_test true rest = ap (λ l. x.place ∷ l) rest
    by_test false rest = rest

no_more : (p : SavedValue → Bool) (saved : List SavedValue) → length (filter p saved) ≤ length saved
no_more p [] = omega arith
no_more p (x ∷ saved) = by_test (p x) (no_more p saved)
  where
    by_test : (b : Bool) → length (filter p saved) ≤ length saved
        → length (cond b (x ∷ filter p saved) (filter p saved)) ≤ length (x ∷ saved)
    by_test true rest = omega (arith, rest)
    by_test false rest = omega (arith, rest)

pub under_list : (root : List ℕ) (saved : List SavedValue) → IsSavedList saved → IsSavedList (saved_under root saved)
under_list root saved list = record {
  few = (let fewer = no_more (λ x. is_under root x.place) saved in omega (arith, fewer, list.few));
  rising = subst (λ places. IsStrictlySortedBy place_cmp places) (sym (places_of (is_under root) saved))
      (IsStrictlySortedBy-filter place_cmp (is_under root) (map place_of saved) list.rising);
}

-- copies that are equal, one by one
pub copies_are : (xs ys : List SavedValue) → AllZip (λ x y. y ≡ x) xs ys → ys ≡ xs
copies_are [] [] same = refl
copies_are [] (y ∷ ys) same = absurd same
copies_are (x ∷ xs) [] same = absurd same
copies_are (x ∷ xs) (y ∷ ys) same = rw (same.0, copies_are xs ys same.1) refl
