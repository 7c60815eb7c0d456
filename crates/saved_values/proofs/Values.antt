-- Values that are saved, and one more among them.
use Rattle.std.proofs.Common.{◌≡◌, ◌≤◌, ◌<◌, ◌++◌, ◌+◌, ◌-◌, ℕ, ℤ, zero, suc, Bool, true, false, cond, not, ◌&&◌, List, [], ◌∷◌, length, map, take, drop, Option, Some, None, is_some, refl, sym, ap, ◌∙◌, arith, Ordering, Less, Equal, Greater}
use Rattle.std.specs.List.{AllByRecursion}
use Rattle.std.specs.List.Sorted.{IsStrictlySortedBy}
use Rattle.std.specs.Cmp.{IsTotalOrder, nat_cmp_total}
use Rattle.std.specs.Cmp.Lexicographic.{nat_list_cmp_total}
use Rattle.std.specs.Ordering.{is_eq, match_ordering, ordering_reverse}
use Rattle.std.proofs.lemmas.Cmp.{on_total, then_total}
use Rattle.std.proofs.Common.{length-set, min, nat_le, reverse, slice_set, subst}
use Rattle.std.proofs.lemmas.Bool.{leb-false, leb-true}
use borrow.Rule.Slice.PartMut.{mid_of, post_of, put_mid, same_len_mid}
use Rattle.ids.specs.Keyed as keyed
use Rattle.saved_values.specs.Places.{place_cmp}
use Rattle.saved_values.specs.Saved.{IsBehind, IsSavedList, StandsAt, is_taken, known_by, place_of, put_saved, value_of}
use Rattle.saved_values.specs.declared.value.SavedValue.{SavedValue}
use Rattle.saved_values.proofs.Places.{place_self}

pub places_total : IsTotalOrder place_cmp
places_total = then_total (on_total (λ (p : List ℕ). length p) nat_cmp_total)
    (on_total (λ (p : List ℕ). reverse p) nat_list_cmp_total)

turned : (p q : List ℕ) (r : Ordering) → place_cmp q p ≡ r → place_cmp p q ≡ ordering_reverse r
turned p q r e = places_total.antisymm p q ∙ ap ordering_reverse e

abbrev AreBefore : List ℕ → List SavedValue → Type 0
AreBefore place saved = AllByRecursion (λ x. place_cmp x.place place ≡ Less) saved

abbrev Rise : List SavedValue → Type 0
Rise saved = IsStrictlySortedBy place_cmp (map place_of saved)

-- # What is looked up

known_next : (place : List ℕ) (y : SavedValue) (saved : List SavedValue) (r : Ordering) → place_cmp place y.place ≡ r
    → known_by (y ∷ saved) place ≡ value_of (cond (is_eq r) (Some y) (keyed.item_at place_of place_cmp place saved))
known_next place y saved r e = ap (λ (o : Ordering). value_of
    (cond (is_eq o) (Some y) (keyed.item_at place_of place_cmp place saved))) e

pub known_skips : (place : List ℕ) (saved : List SavedValue) (at : ℕ) → AreBefore place (take at saved)
    → known_by saved place ≡ known_by (drop at saved) place
known_skips place saved zero before = refl
known_skips place [] (suc n) before = refl
known_skips place (y ∷ saved) (suc n) before =
    known_next place y saved Greater (turned place y.place Less before.0) ∙ known_skips place saved n before.1

pub known_here : (place : List ℕ) (y : SavedValue) (saved : List SavedValue) → place_cmp y.place place ≡ Equal
    → is_some (known_by (y ∷ saved) place) ≡ true
known_here place y saved e = ap is_some (known_next place y saved Equal (turned place y.place Equal e))

less_behind : (p q r : List ℕ) → place_cmp q p ≡ Greater → place_cmp q r ≡ Less → place_cmp r p ≡ Greater
less_behind p q r behind less = turned r p Less (places_total.trans p q r (turned p q Greater behind) less)

all_behind : (place : List ℕ) (y : SavedValue) (saved : List SavedValue) → place_cmp y.place place ≡ Greater
    → AllByRecursion (λ q. place_cmp y.place q ≡ Less) (map place_of saved)
    → AllByRecursion (λ q. place_cmp q place ≡ Greater) (map place_of saved)
all_behind place y [] behind rest = tt
all_behind place y (z ∷ saved) behind rest =
    (less_behind place y.place z.place behind rest.0, all_behind place y saved behind rest.1)

none_known : (place : List ℕ) (saved : List SavedValue)
    → AllByRecursion (λ q. place_cmp q place ≡ Greater) (map place_of saved) → known_by saved place ≡ None
none_known place [] all = refl
none_known place (y ∷ saved) all = known_next place y saved Less (turned place y.place Greater all.0)
    ∙ none_known place saved all.1

-- those behind a place are all behind it
pub are_behind : (place : List ℕ) (saved : List SavedValue) → Rise saved → IsBehind place saved
    → AllByRecursion (λ q. place_cmp q place ≡ Greater) (map place_of saved)
unfolding IsStrictlySortedBy
are_behind place [] rise behind = tt
are_behind place (y ∷ saved) rise behind = (behind, all_behind place y saved behind rise.0)

rise_drop : (at : ℕ) (saved : List SavedValue) → Rise saved → Rise (drop at saved)
unfolding IsStrictlySortedBy
rise_drop zero saved rise = rise
rise_drop (suc n) [] rise = rise
rise_drop (suc n) (y ∷ saved) rise = rise_drop n saved rise.1

pub unknown : (place : List ℕ) (saved : List SavedValue) (at : ℕ) → Rise saved → StandsAt place saved at
    → known_by saved place ≡ None
unknown place saved at rise stands =
    known_skips place saved at stands.before
    ∙ none_known place (drop at saved) (are_behind place (drop at saved) (rise_drop at saved rise) stands.behind)

-- # One more

pub put_at : (x : SavedValue) (saved : List SavedValue) (at : ℕ) → AreBefore x.place (take at saved)
    → IsBehind x.place (drop at saved) → keyed.put place_of place_cmp x saved ≡ take at saved ++ x ∷ drop at saved
put_at x [] zero before behind = refl
put_at x [] (suc n) before behind = refl
put_at x (y ∷ saved) zero before behind =
    ap (λ (o : Ordering). match_ordering o (x ∷ y ∷ saved) (x ∷ saved) (y ∷ keyed.put place_of place_cmp x saved))
    (turned x.place y.place Greater behind)
put_at x (y ∷ saved) (suc n) before behind =
    ap (λ (o : Ordering). match_ordering o (x ∷ y ∷ saved) (x ∷ saved) (y ∷ keyed.put place_of place_cmp x saved))
    (turned x.place y.place Less before.0) ∙ ap (λ l. y ∷ l) (put_at x saved n before.1 behind)

take_split : (front rest : List SavedValue) (x : SavedValue) (n : ℕ) → length front < n
    → take n (front ++ x ∷ rest) ≡ front ++ x ∷ take (n - 1 - length front) rest
take_split [] rest x zero less = absurd (omega (arith, less))
take_split [] rest x (suc n) less = (let e : n ≡ suc n - 1 - 0 = omega arith in ap (λ (k : ℕ). x ∷ take k rest) e)
take_split (y ∷ front) rest x zero less = absurd (omega (arith, less))
take_split (y ∷ front) rest x (suc n) less =
    let e : n - 1 - length front ≡ suc n - 1 - suc (length front) = omega arith in
    ap (λ l. y ∷ l) (take_split front rest x n (omega (arith, less)) ∙ ap (λ (k : ℕ). front ++ x ∷ take k rest) e)

known_at : (front rest : List SavedValue) (x : SavedValue) → AreBefore x.place front
    → known_by (front ++ x ∷ rest) x.place ≡ Some x.value
known_at [] rest x before = known_next x.place x rest Equal (place_self x.place)
known_at (y ∷ front) rest x before =
    known_next x.place y (front ++ x ∷ rest) Greater (turned x.place y.place Less before.0)
    ∙ known_at front rest x before.1

-- the list with a value that is put before its end
abbrev pub with_value : SavedValue → List SavedValue → ℕ → List SavedValue
with_value x saved at = take at saved ++ x ∷ take (63 - at) (drop at saved)

length_take : {X : Type 0} (n : ℕ) (xs : List X) → n ≤ length xs → length (take n xs) ≡ n
length_take zero xs few = refl
length_take (suc n) [] few = absurd (omega (arith, few))
length_take (suc n) (x ∷ xs) few = ap suc (length_take n xs (omega (arith, few)))

pub put_is : (x : SavedValue) (saved : List SavedValue) (at : ℕ) → StandsAt x.place saved at → at < 64
    → put_saved x saved ≡ with_value x saved at
put_is x saved at stands room =
    let long : length (take at saved) ≡ at = length_take at saved stands.there in
    ap (take 64) (put_at x saved at stands.before stands.behind)
    ∙ (take_split (take at saved) (drop at saved) x 64 (omega (arith, long, room))
    ∙ (let e : 64 - 1 - length (take at saved) ≡ 63 - at =
    omega (arith, long) in ap (λ (k : ℕ). take at saved ++ x ∷ take k (drop at saved)) e))

-- a value whose place isn't saved is taken where it isn't dropped at once
and_not : (a b : Option ℤ) → a ≡ None → is_some b ≡ true → true ≡ (not (is_some a) && is_some b)
and_not a b none some = rw (none, some) refl

pub is_put : (x : SavedValue) (saved : List SavedValue) (at : ℕ) → Rise saved → StandsAt x.place saved at → at < 64
    → true ≡ is_taken x saved
is_put x saved at rise stands room =
    and_not (known_by saved x.place) (known_by (put_saved x saved) x.place) (unknown x.place saved at rise stands)
    (ap (λ l. is_some (known_by l x.place)) (put_is x saved at stands room)
    ∙ ap is_some (known_at (take at saved) (take (63 - at) (drop at saved)) x stands.before))

pub is_saved : (x : SavedValue) (saved : List SavedValue) → is_some (known_by saved x.place) ≡ true
    → false ≡ is_taken x saved
is_saved x saved some = ap (λ b. not b && is_some (known_by (put_saved x saved) x.place)) (sym some)

all_taken : {X : Type 0} (n : ℕ) (xs : List X) → length xs ≤ n → (ys : List X) → length xs ≡ n → take n (xs ++ ys) ≡ xs
all_taken zero [] few ys long = refl
all_taken zero (x ∷ xs) few ys long = absurd (omega (arith, few))
all_taken (suc n) [] few ys long = absurd (omega (arith, long))
all_taken (suc n) (x ∷ xs) few ys long = ap (λ l. x ∷ l) (all_taken n xs (omega (arith, few)) ys (omega (arith, long)))

take_whole : {X : Type 0} (n : ℕ) (xs : List X) → length xs ≤ n → take n xs ≡ xs
take_whole zero [] few = refl
take_whole zero (x ∷ xs) few = absurd (omega (arith, few))
take_whole (suc n) [] few = refl
take_whole (suc n) (x ∷ xs) few = ap (λ l. x ∷ l) (take_whole n xs (omega (arith, few)))

not_and : (a b : Option ℤ) → b ≡ None → false ≡ (not (is_some a) && is_some b)
not_and None b none = rw none refl
not_and (Some v) b none = refl

-- and else not
pub is_dropped : (x : SavedValue) (saved : List SavedValue) (at : ℕ) → IsSavedList saved → StandsAt x.place saved at
    → 64 ≤ at → false ≡ is_taken x saved
is_dropped x saved at list stands full =
    let long : length saved ≡ 64 = omega (arith, list.few, stands.there, full) in
    let all : take at saved ≡ saved = take_whole at saved (omega (arith, long, full)) in
    let same : put_saved x saved ≡ saved =
    ap (take 64) (put_at x saved at stands.before stands.behind)
    ∙ (ap (λ l. take 64 (l ++ x ∷ drop at saved)) all ∙ all_taken 64 saved list.few (x ∷ drop at saved) long) in
    not_and (known_by saved x.place) (known_by (put_saved x saved) x.place) (ap (λ l. known_by l x.place) same
    ∙ unknown x.place saved at list.rising stands)

-- # The order stays

all_take : (P : List ℕ → Type 0) (n : ℕ) (saved : List SavedValue) → AllByRecursion P (map place_of saved)
    → AllByRecursion P (map place_of (take n saved))
all_take P zero saved all = tt
all_take P (suc n) [] all = tt
all_take P (suc n) (y ∷ saved) all = (all.0, all_take P n saved all.1)

pub rise_take : (n : ℕ) (saved : List SavedValue) → Rise saved → Rise (take n saved)
unfolding IsStrictlySortedBy
rise_take zero saved rise = tt
rise_take (suc n) [] rise = tt
rise_take (suc n) (y ∷ saved) rise =
    (all_take (λ q. place_cmp y.place q ≡ Less) n saved rise.0, rise_take n saved rise.1)

all_with : (P : List ℕ → Type 0) (front rest : List SavedValue) (x : SavedValue) (n : ℕ) → P x.place
    → AllByRecursion P (map place_of (front ++ rest)) → AllByRecursion P (map place_of (front ++ x ∷ take n rest))
all_with P [] rest x n own all = (own, all_take P n rest all)
all_with P (y ∷ front) rest x n own all = (all.0, all_with P front rest x n own all.1)

all_turned : (place : List ℕ) (saved : List SavedValue)
    → AllByRecursion (λ q. place_cmp q place ≡ Greater) (map place_of saved)
    → AllByRecursion (λ q. place_cmp place q ≡ Less) (map place_of saved)
all_turned place [] all = tt
all_turned place (y ∷ saved) all = (turned place y.place Greater all.0, all_turned place saved all.1)

rise_with : (front rest : List SavedValue) (x : SavedValue) (n : ℕ) → AreBefore x.place front → IsBehind x.place rest
    → Rise (front ++ rest) → Rise (front ++ x ∷ take n rest)
unfolding IsStrictlySortedBy
rise_with [] rest x n before behind rise = (
  all_take (λ q. place_cmp x.place q ≡ Less) n rest (all_turned x.place rest (are_behind x.place rest rise behind)),
  rise_take n rest rise,
)
rise_with (y ∷ front) rest x n before behind rise = (
  all_with (λ q. place_cmp y.place q ≡ Less) front rest x n before.0 rise.0,
  rise_with front rest x n before.1 behind rise.1,
)

front_rest : {X : Type 0} (n : ℕ) (xs : List X) → take n xs ++ drop n xs ≡ xs
front_rest zero xs = refl
front_rest (suc n) [] = refl
front_rest (suc n) (x ∷ xs) = ap (λ l. x ∷ l) (front_rest n xs)

length_both : {X : Type 0} (xs ys : List X) → length (xs ++ ys) ≡ length xs + length ys
length_both [] ys = omega arith
length_both (x ∷ xs) ys = let rest = length_both xs ys in omega (arith, rest)

take_few : {X : Type 0} (n : ℕ) (xs : List X) → length (take n xs) ≤ n
take_few zero xs = omega arith
take_few (suc n) [] = omega arith
take_few (suc n) (x ∷ xs) = let rest = take_few n xs in omega (arith, rest)

pub put_keeps : (x : SavedValue) (saved : List SavedValue) (at : ℕ) → IsSavedList saved → StandsAt x.place saved at
    → at < 64 → IsSavedList (with_value x saved at)
put_keeps x saved at list stands room = record {
  few = (let front = length_take at saved stands.there in let rest = take_few (63 - at) (drop at saved) in let both =
      length_both (take at saved) (x ∷ take (63 - at) (drop at saved)) in omega (arith, front, rest, both, room));
  rising = rise_with (take at saved) (drop at saved) x (63 - at) stands.before stands.behind
      (rw (front_rest at saved) list.rising);
}

pub none_saved : IsSavedList []
unfolding IsStrictlySortedBy
none_saved = record { few = omega arith; rising = tt }

-- # In the room of a table

last_one : {X : Type 0} (xs : List X) → 0 < length xs → (z : X) × (drop (length xs - 1) xs ≡ z ∷ [])
last_one [] some = absurd (omega (arith, some))
last_one (x ∷ []) some = (let e : suc 0 - 1 ≡ 0 = omega arith in (x, ap (λ (k : ℕ). drop k (x ∷ [])) e))
last_one (x ∷ y ∷ xs) some =
    let rest = last_one (y ∷ xs) (omega arith) in
    let e : suc (suc (length xs)) - 1 ≡ suc (suc (length xs) - 1) = omega arith in
    (rest.0, ap (λ (k : ℕ). drop k (x ∷ y ∷ xs)) e ∙ rest.1)

set_behind : {X : Type 0} (front ys : List X) (z x : X) (at : ℕ) → length front ≡ at
    → slice_set (front ++ z ∷ ys) at x ≡ front ++ x ∷ ys
set_behind [] ys z x zero long = refl
set_behind [] ys z x (suc n) long = absurd (omega (arith, long))
set_behind (y ∷ front) ys z x zero long = absurd (omega (arith, long))
set_behind (y ∷ front) ys z x (suc n) long = ap (λ l. y ∷ l) (set_behind front ys z x n (omega (arith, long)))

take_exact : {X : Type 0} (front mid post : List X) (x : X) (n : ℕ) → length front + 1 + length mid ≡ n
    → take n (front ++ x ∷ (mid ++ post)) ≡ front ++ x ∷ mid
take_exact [] mid post x zero long = absurd (omega (arith, long))
take_exact [] mid post x (suc n) long =
    ap (λ l. x ∷ l) (let e : length mid ≡ n = omega (arith, long) in all_taken n mid (omega (arith, e)) post e)
take_exact (y ∷ front) mid post x zero long = absurd (omega (arith, long))
take_exact (y ∷ front) mid post x (suc n) long = ap (λ l. y ∷ l) (take_exact front mid post x n (omega (arith, long)))

take_less : {X : Type 0} (a b : ℕ) (xs : List X) → a ≤ b → take a (take b xs) ≡ take a xs
take_less zero b xs le = refl
take_less (suc a) zero xs le = absurd (omega (arith, le))
take_less (suc a) (suc b) [] le = refl
take_less (suc a) (suc b) (x ∷ xs) le = ap (λ l. x ∷ l) (take_less a b xs (omega (arith, le)))

take_either : {X : Type 0} (a b c : ℕ) (xs : List X) → (a ≤ b → c ≡ a) → (b ≤ a → c ≡ b)
    → take a (take b xs) ≡ take c xs
take_either a b c xs first second = by_test (nat_le a b) refl
  where
    by_test : (t : Bool) → nat_le a b ≡ t → take a (take b xs) ≡ take c xs
    by_test true is = (let le : a ≤ b =
        leb-true a b is in take_less a b xs le ∙ ap (λ (k : ℕ). take k xs) (sym (first le)))
    by_test false is =
        let less = leb-false a b is in
        let le : b ≤ a = omega (arith, less) in
        let few = take_few b xs in
        take_whole a (take b xs) (omega (arith, le, few)) ∙ ap (λ (k : ℕ). take k xs) (sym (second le))

drop_take : {X : Type 0} (at count : ℕ) (xs : List X) → at ≤ count
    → drop at (take count xs) ≡ take (count - at) (drop at xs)
drop_take zero count xs le = (let e : count ≡ count - 0 = omega arith in ap (λ (k : ℕ). take k xs) e)
drop_take (suc a) zero xs le = absurd (omega (arith, le))
drop_take {X} (suc a) (suc count) [] le = none (suc count - suc a)
  where
    none : (k : ℕ) → ◌≡◌ {A = List X} [] (take k [])
    none zero = refl
    none (suc k) = refl
drop_take (suc a) (suc count) (x ∷ xs) le =
    (let e : count - a ≡ suc count - suc a =
    omega arith in drop_take a count xs (omega (arith, le)) ∙ ap (λ (k : ℕ). take k (drop a xs)) e)

length_drop : {X : Type 0} (at : ℕ) (xs : List X) → length (drop at xs) ≡ length xs - at
length_drop zero xs = omega arith
length_drop (suc a) [] = omega arith
length_drop (suc a) (x ∷ xs) = let rest = length_drop a xs in omega (arith, rest)

-- the values from one on go one place on, and the value comes in its place
pub shifted : (values part : List SavedValue) (at end : ℕ) (x : SavedValue) → at ≤ end → end < length values
    → part ≡ drop (length (mid_of at (end + 1 - at) values) - 1) (mid_of at (end + 1 - at) values)
    ++ take (length (mid_of at (end + 1 - at) values) - 1) (mid_of at (end + 1 - at) values)
    → take (end + 1) (slice_set (put_mid at (end + 1 - at) values part) at x)
    ≡ take at values ++ x ∷ take (end - at) (drop at values)
shifted values part at end x le within is =
    let mid : List SavedValue = mid_of at (end + 1 - at) values in
    let post : List SavedValue = post_of at (end + 1 - at) values in
    let front : List SavedValue = take at values in
    let left = length_drop at values in
    let long : length mid ≡ end + 1 - at =
    length_take (end + 1 - at) (drop at values) (omega (arith, left, le, within)) in
    let one = last_one mid (omega (arith, long, le)) in
    let rest : List SavedValue = take (length mid - 1) mid in
    let all : part ++ post ≡ one.0 ∷ (rest ++ post) = ap (λ l. l ++ post) (is ∙ ap (λ l. l ++ rest) one.1) in
    let before : length front ≡ at = length_take at values (omega (arith, le, within)) in
    let same : rest ≡ take (end - at) (drop at values) =
    (let e : length mid - 1 ≡ end - at =
    omega (arith, long, le) in ap (λ (k : ℕ). take k mid) e
    ∙ take_less (end - at) (end + 1 - at) (drop at values) (omega (arith, le))) in
    let short : length rest ≡ end - at =
    ap length same ∙ length_take (end - at) (drop at values) (omega (arith, left, le, within)) in
    ap (λ l. take (end + 1) (slice_set (front ++ l) at x)) all ∙
    (ap (take (end + 1)) (set_behind front (rest ++ post) one.0 x at before)
    ∙ (take_exact front rest post x (end + 1) (omega (arith, before, short, le)) ∙ ap (λ l. front ++ x ∷ l) same))

pub with_is : (values : List SavedValue) (at count end : ℕ) (x : SavedValue) → at ≤ count → at ≤ 63
    → (count ≤ 63 → end ≡ count) → (63 ≤ count → end ≡ 63)
    → take at values ++ x ∷ take (end - at) (drop at values) ≡ with_value x (take count values) at
with_is values at count end x le room few full =
    let front : take at (take count values) ≡ take at values = take_less at count values le in
    let rest : take (63 - at) (drop at (take count values)) ≡ take (end - at) (drop at values) =
    ap (take (63 - at)) (drop_take at count values le) ∙ take_either (63 - at) (count - at) (end - at) (drop at values)
    (λ h. (let more : 63 ≤ count = omega (arith, h, le, room) in let e = full more in omega (arith, e)))
    (λ h. (let less : count ≤ 63 = omega (arith, h, le, room) in let e = few less in omega (arith, e))) in
    sym (ap (λ l. l ++ x ∷ take (63 - at) (drop at (take count values))) front ∙ ap (λ l. take at values ++ x ∷ l) rest)

-- the last place that is used of 64, where so many values stand there
pub record IsLast (count end : ℕ) : Type 0 where
  pub there : end ≤ count
  pub room : end ≤ 63
  pub few : count ≤ 63 → end ≡ count
  pub full : 63 ≤ count → end ≡ 63

pub is_last : (count end : ℕ) → end ≡ min count 63 → IsLast count end
is_last count end is = record {
  there = omega (arith, is);
  room = omega (arith, is);
  few = λ h. omega (arith, is, h);
  full = λ h. omega (arith, is, h);
}

-- a table with one more value in it
pub record IsPutInto (values part : List SavedValue) (count at end : ℕ) (x : SavedValue) : Type 0 where
  pub same : take (end + 1) (slice_set (put_mid at (end + 1 - at) values part) at x) ≡ put_saved x (take count values)
  pub list : IsSavedList (take (end + 1) (slice_set (put_mid at (end + 1 - at) values part) at x))
  pub all : length (slice_set (put_mid at (end + 1 - at) values part) at x) ≡ 64

pub put_into : (values part : List SavedValue) (count at end : ℕ) (x : SavedValue) → count ≤ 64 → length values ≡ 64
    → IsSavedList (take count values) → StandsAt x.place (take count values) at → at < 64 → IsLast count end
    → part ≡ drop (length (mid_of at (end + 1 - at) values) - 1) (mid_of at (end + 1 - at) values)
    ++ take (length (mid_of at (end + 1 - at) values) - 1) (mid_of at (end + 1 - at) values)
    → length part ≡ length (mid_of at (end + 1 - at) values) → IsPutInto values part count at end x
put_into values part count at end x few long list stands room last is same =
    let counted : length (take count values) ≡ count = length_take count values (omega (arith, few, long)) in
    let le : at ≤ count = omega (arith, stands.there, counted) in
    let here : at ≤ end = by_count (nat_le count 63) refl le in
    let shift = shifted values part at end x here (omega (arith, last.room, long)) is
    ∙ with_is values at count end x le (omega (arith, room)) last.few last.full in
    record {
      same = shift ∙ sym (put_is x (take count values) at stands room);
      list = subst IsSavedList (sym shift) (put_keeps x (take count values) at list stands room);
      all = length-set (put_mid at (end + 1 - at) values part) at x
          ∙ (same_len_mid at (end + 1 - at) values part same ∙ long);
    }
  where
    by_count : (t : Bool) → nat_le count 63 ≡ t → at ≤ count → at ≤ end
    by_count true is le = (let e = last.few (leb-true count 63 is) in omega (arith, e, le))
    by_count false is le = (let e = last.full (omega (arith, leb-false count 63 is)) in omega (arith, e, room))
