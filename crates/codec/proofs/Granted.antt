-- Grants, with saved values or without: when they can be written, and that their values stand by
-- the order of their places then.
use Rattle.std.proofs.Common.{◌≡◌, ◌≤◌, ◌^◌, ℕ, zero, suc, Bool, true, false, not, nat_le, nat_lt, List, [], ◌∷◌, length, map, Option, Some, None, Ordering, Less, Equal, Greater, IsTrue, refl, sym, ap, arith}
use Rattle.std.specs.Prelude.{◌&&◌}
use Rattle.std.specs.List.{AllByRecursion, list_all}
use Rattle.std.specs.List.Sorted.{IsStrictlySortedBy}
use Rattle.std.specs.Ordering.{is_lt}
use Rattle.std.proofs.lemmas.Bool.{and_from, and_parts, le-leb, leb-true, lt-ltb}
use Rattle.std.proofs.lemmas.Map.Keys.{sorted_head, sorted_tail}
use Rattle.saved_values.specs.Places.{place_cmp}
use Rattle.saved_values.specs.Saved.{IsSavedList, place_of}
use Rattle.saved_values.specs.declared.value.SavedValue.{SavedValue}
use Rattle.saved_values.proofs.Values.{places_total}
use Rattle.packet_fields.specs.Format.{is_empty, items}
use Rattle.packet_fields.specs.Fields as field
use Rattle.codec.specs.declared.body.Body.TheVariants as body
use Rattle.codec.specs.declared.body.Grant.{Grant}
use Rattle.codec.specs.Table.{fits_body, grant_format, granted, is_saved, saved_grant}

-- a value that can be written alone can be written behind one that stands before it
value_fits : (last : Option (List ℕ)) (x : SavedValue) → field.is_later last x.place ≡ true
    → (field.saved_value None).fits x ≡ true → (field.saved_value last).fits x ≡ true
unfolding field.saved_value
value_fits last x later alone =
    let h = and_parts (field.saved_place.fits x.place && true) (field.signed.fits x.value) alone in
    let place = (and_parts (field.saved_place.fits x.place) true h.0).0 in
    and_from (field.saved_place.fits x.place && field.is_later last x.place) (field.signed.fits x.value)
    (and_from (field.saved_place.fits x.place) (field.is_later last x.place) place later) h.1

-- whether the first value, if there is one, stands behind the last one before it
abbrev starts_later : Option (List ℕ) → List SavedValue → Bool
starts_later last [] = true
starts_later last (x ∷ xs) = field.is_later last x.place

goes_on : (x : SavedValue) (xs : List SavedValue) → IsStrictlySortedBy place_cmp (map place_of (x ∷ xs))
    → starts_later (Some x.place) xs ≡ true
goes_on x [] rising = refl
goes_on x (y ∷ xs) rising = ap is_lt (sorted_head place_cmp x.place (map place_of (y ∷ xs)) rising).0

each_fits : (last : Option (List ℕ)) (xs : List SavedValue) → starts_later last xs ≡ true
    → list_all (field.saved_value None).fits xs ≡ true → IsStrictlySortedBy place_cmp (map place_of xs)
    → (items place_of field.saved_value last (length xs)).fits xs ≡ true
each_fits last [] later each rising = refl
each_fits last (x ∷ xs) later each rising =
    let h = and_parts ((field.saved_value None).fits x) (list_all (field.saved_value None).fits xs) each in
    and_from ((field.saved_value last).fits x) ((items place_of field.saved_value (Some x.place) (length xs)).fits xs)
    (value_fits last x later h.0)
    (each_fits (Some x.place) xs (goes_on x xs rising) h.1 (sorted_tail place_cmp x.place (map place_of xs) rising))

values_fit : (xs : List SavedValue) → not (is_empty xs) ≡ true → list_all (field.saved_value None).fits xs ≡ true
    → IsSavedList xs → field.saved_values.fits xs ≡ true
unfolding field.saved_values
values_fit [] some each list = cc
values_fit (x ∷ xs) some each list =
    let n : ℕ = length (x ∷ xs) in
    let wide : nat_lt n (256 ^ 1) ≡ true = lt-ltb n (256 ^ 1) (omega (arith, list.few)) in
    let more : nat_lt 0 n ≡ true = lt-ltb 0 n (omega arith) in
    let few : nat_le n 64 ≡ true = le-leb n 64 list.few in
    rw (wide, more, few) (each_fits None (x ∷ xs) refl each list.rising)

none_there : (xs : List SavedValue) → not (is_empty xs) ≡ false → is_empty xs ≡ true
none_there [] none = refl
none_there (x ∷ xs) none = cc

-- a Grant can be written, as far as its numbers can
pub grant_fits : (b : Grant) → field.counted.fits b.seq ≡ true → field.grant.fits b.grant ≡ true
    → field.task.fits b.task ≡ true → list_all (field.saved_value None).fits b.saved ≡ true → IsSavedList b.saved
    → fits_body (body.Grant b) ≡ true
unfolding granted saved_grant field.no_values
grant_fits b seq grant task each list = by_saved (is_saved b) refl
  where
    by_saved : (some : Bool) → is_saved b ≡ some → (grant_format some).fits b ≡ true
    by_saved true is = rw (seq, grant, task) (values_fit b.saved is each list)
    by_saved false is = rw (seq, grant, task) (none_there b.saved is)

-- a value that can be written behind another one stands behind it
is_later : (last : List ℕ) (x : SavedValue) → (field.saved_value (Some last)).fits x ≡ true
    → place_cmp last x.place ≡ Less
unfolding field.saved_value
is_later last x fits =
    let h = and_parts (field.saved_place.fits x.place && is_lt (place_cmp last x.place))
    (field.signed.fits x.value) fits in
    less (place_cmp last x.place) (and_parts (field.saved_place.fits x.place) (is_lt (place_cmp last x.place)) h.0).1
  where
    less : (o : Ordering) → is_lt o ≡ true → o ≡ Less
    less Less is = refl
    less Equal is = cc
    less Greater is = cc

all_later : (least last : List ℕ) (count : ℕ) (xs : List SavedValue)
    → ((q : List ℕ) → place_cmp last q ≡ Less → place_cmp least q ≡ Less)
    → (items place_of field.saved_value (Some last) count).fits xs ≡ true
    → AllByRecursion (λ q. place_cmp least q ≡ Less) (map place_of xs)
all_later least last zero [] low fits = tt
all_later least last zero (x ∷ xs) low fits = cc
all_later least last (suc count) [] low fits = tt
all_later least last (suc count) (x ∷ xs) low fits =
    let h = and_parts ((field.saved_value (Some last)).fits x)
    ((items place_of field.saved_value (Some x.place) count).fits xs) fits in
    let here : place_cmp least x.place ≡ Less = low x.place (is_later last x h.0) in
    (here, all_later least x.place count xs (λ q later. places_total.trans least x.place q here later) h.1)

values_rise : (last : Option (List ℕ)) (count : ℕ) (xs : List SavedValue)
    → (items place_of field.saved_value last count).fits xs ≡ true → IsStrictlySortedBy place_cmp (map place_of xs)
unfolding IsStrictlySortedBy
values_rise last zero [] fits = tt
values_rise last zero (x ∷ xs) fits = cc
values_rise last (suc count) [] fits = tt
values_rise last (suc count) (x ∷ xs) fits =
    let h = and_parts ((field.saved_value last).fits x)
    ((items place_of field.saved_value (Some x.place) count).fits xs) fits in
    (all_later x.place x.place count xs (λ q later. later) h.1, values_rise (Some x.place) count xs h.1)

saved_list : (xs : List SavedValue) → field.saved_values.fits xs ≡ true → IsSavedList xs
unfolding field.saved_values
saved_list xs fits =
    let n : ℕ = length xs in
    let h = and_parts (nat_lt n (256 ^ 1) && (nat_lt 0 n && nat_le n 64))
    ((items place_of field.saved_value None n).fits xs) fits in
    let few = and_parts (nat_lt 0 n) (nat_le n 64) (and_parts (nat_lt n (256 ^ 1)) (nat_lt 0 n && nat_le n 64) h.0).1 in
    record { few = leb-true n 64 few.1; rising = values_rise None n xs h.1 }

no_list : (xs : List SavedValue) → is_empty xs ≡ true → IsSavedList xs
unfolding IsStrictlySortedBy
no_list [] none = record { few = omega arith; rising = tt }
no_list (x ∷ xs) none = cc

pub saved_rises : (b : Grant) → IsTrue (fits_body (body.Grant b)) → IsSavedList b.saved
unfolding granted saved_grant field.no_values
saved_rises b fits = by_saved (is_saved b) fits
  where
    by_saved : (some : Bool) → (grant_format some).fits b ≡ true → IsSavedList b.saved
    by_saved true f =
        let h = and_parts (field.counted.fits b.seq)
        (field.grant.fits b.grant && (field.task.fits b.task && field.saved_values.fits b.saved)) f in
        let g = and_parts (field.grant.fits b.grant) (field.task.fits b.task && field.saved_values.fits b.saved) h.1 in
        saved_list b.saved (and_parts (field.task.fits b.task) (field.saved_values.fits b.saved) g.1).1
    by_saved false f =
        let h = and_parts (field.counted.fits b.seq)
        (field.grant.fits b.grant && (field.task.fits b.task && is_empty b.saved)) f in
        let g = and_parts (field.grant.fits b.grant) (field.task.fits b.task && is_empty b.saved) h.1 in
        no_list b.saved (and_parts (field.task.fits b.task) (is_empty b.saved) g.1).1
