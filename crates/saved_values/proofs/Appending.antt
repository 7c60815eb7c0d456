-- One more value behind all others.
use Rattle.std.proofs.Common.{◌≡◌, ◌≤◌, ◌<◌, ◌++◌, ◌-◌, ℕ, zero, suc, true, false, List, [], ◌∷◌, length, map, take, drop, None, is_some, refl, sym, ap, ◌∙◌, arith, Less, Greater, length-append}
use Rattle.std.proofs.lemmas.List.{drop_all, take_all}
use Rattle.std.specs.List.{AllByRecursion}
use Rattle.std.specs.List.Sorted.{IsStrictlySortedBy}
use Rattle.saved_values.specs.Places.{place_cmp}
use Rattle.saved_values.specs.Saved.{IsBehind, IsSavedList, StandsAt, known_by, place_of, put_saved}
use Rattle.saved_values.specs.declared.value.SavedValue.{SavedValue}
use Rattle.saved_values.proofs.Values.{known_skips, put_is}

-- where they rise with one more behind them, all stand before it
before_last : (P : List ℕ → Type 0) (saved : List SavedValue) (x : SavedValue)
    → AllByRecursion P (map place_of (saved ++ x ∷ [])) → P x.place
before_last P [] x all = all.0
before_last P (y ∷ saved) x all = before_last P saved x all.1

all_before : (saved : List SavedValue) (x : SavedValue) → IsStrictlySortedBy place_cmp (map place_of (saved ++ x ∷ []))
    → AllByRecursion (λ y. place_cmp y.place x.place ≡ Less) saved
unfolding IsStrictlySortedBy
all_before [] x rise = tt
all_before (y ∷ saved) x rise = (
  before_last (λ q. place_cmp y.place q ≡ Less) saved x rise.0,
  all_before saved x rise.1,
)

all_taken : (P : SavedValue → Type 0) (n : ℕ) (saved : List SavedValue) → AllByRecursion P saved
    → AllByRecursion P (take n saved)
all_taken P zero saved all = tt
all_taken P (suc n) [] all = tt
all_taken P (suc n) (y ∷ saved) all = (all.0, all_taken P n saved all.1)

-- 64 values, and one more
pub too_many : (saved : List SavedValue) (x : SavedValue) → 64 ≤ length saved → IsSavedList (saved ++ x ∷ []) → ⊥
too_many saved x full list = let both = length-append saved (x ∷ []) in absurd (omega (arith, full, list.few, both))

-- one whose place is saved
pub not_twice : (saved : List SavedValue) (x : SavedValue) → is_some (known_by saved x.place) ≡ true
    → IsSavedList (saved ++ x ∷ []) → ⊥
not_twice saved x some list =
    let before = all_before saved x list.rising in
    let none : known_by saved x.place ≡ None =
    known_skips x.place saved (length saved)
    (all_taken (λ y. place_cmp y.place x.place ≡ Less) (length saved) saved before)
    ∙ ap (λ l. known_by l x.place) (drop_all (length saved) saved (omega arith)) in
    let two : true ≡ false = sym some ∙ ap is_some none in
    cc

-- one that stands before another
pub not_behind : (saved : List SavedValue) (x : SavedValue) (at : ℕ) → StandsAt x.place saved at → at < length saved
    → IsSavedList (saved ++ x ∷ []) → ⊥
not_behind saved x at stands less list = among saved at (all_before saved x list.rising) stands.behind less
  where
    among : (ys : List SavedValue) (n : ℕ) → AllByRecursion (λ y. place_cmp y.place x.place ≡ Less) ys
        → IsBehind x.place (drop n ys) → n < length ys → ⊥
    among [] n all behind less = absurd (omega (arith, less))
    among (y ∷ ys) zero all behind less = let two : Less ≡ Greater = sym all.0 ∙ behind in cc
    among (y ∷ ys) (suc n) all behind less = among ys n all.1 behind (omega (arith, less))

-- one behind all is put there
pub put_last : (saved : List SavedValue) (x : SavedValue) (at : ℕ) → StandsAt x.place saved at → length saved ≤ at
    → at < 64 → put_saved x saved ≡ saved ++ x ∷ []
put_last saved x at stands all room =
    let same : at ≡ length saved = omega (arith, all, stands.there) in
    let rest : drop at saved ≡ [] = drop_all at saved all in
    put_is x saved at stands room ∙ ap (λ l. l ++ x ∷ take (63 - at) (drop at saved)) (take_all at saved all)
    ∙ ap (λ l. saved ++ x ∷ take (63 - at) l) rest ∙ ap (λ l. saved ++ x ∷ l) (none (63 - at))
  where
    none : (n : ℕ) → ◌≡◌ {A = List SavedValue} (take n []) []
    none zero = refl
    none (suc n) = refl
