-- Names that are put into a store and taken from it, one after another.
use Rattle.std.proofs.Common.{◌≡◌, ◌==◌, ℕ, ◌+◌, ◌<◌, ◌≤◌, ◌||◌, Bool, true, false, cond, List, [], ◌∷◌, ◌++◌, length, take, drop, get_or, Option, Some, None, refl, sym, ap, ◌∙◌, arith}
use Rattle.std.specs.List.{sum_by}
use Rattle.std.specs.Option.{is_some}
use Rattle.std.specs.Ordering.{is_eq}
use Rattle.std.proofs.lemmas.List.{take_more}
use Rattle.std.proofs.lemmas.List.Sums.{sum_by_push, sum_by-drop_more, sum_by-take-drop, sum_by-take-le}
use Rattle.ids.specs.Named.{Name, name_cmp, item_in, put_in, without_in}
use Rattle.ids.specs.Names.{Grant}
use Rattle.ids.specs.Naming.{name_of_grant, name_of_record}
use Rattle.ids.specs.Ordered.{AreInOrder}
use Rattle.ids.specs.declared.work.Record.{Record}
use Rattle.victim_records.specs.Records.{record_in}
use Rattle.sub_rules.specs.Debts.{one_if}
use Rattle.sub_rules.proofs.Slots.{apart}
use Rattle.subcomputation.specs.Fitting.{same_once}
use Rattle.subcomputation.specs.Subs.{SubOf, has_record, host_in}
use Rattle.departure.specs.Links.{AreKept, AreTaken, HasMore, HasTwice, itself, same_name, times}
use Rattle.departure.proofs.LinkedCounts.{SameCounts, counts_from, same_from, times_first}
use Rattle.departure.proofs.LinkedNames.{absent, has, has_put, present, same_key, tells_name, times_left, times_put}

-- how often a name stands among one more
times_more : (n x d : Name) (names : List Name) (i : ℕ) → i < length names → x ≡ get_or names i d
    → times same_name n (take (i + 1) names) ≡ times same_name n (take i names) + one_if (same_name n x)
times_more n x d names i within is =
    let test = λ (y : Name). one_if (same_name n y) in
    ap (λ (ys : List Name). sum_by test ys)
    (take_more names i d within ∙ ap (λ (y : Name). take i names ++ y ∷ []) (sym is))
    ∙ sum_by_push test (take i names) x

none_there : (o : Option Name) → is_some o ≡ false → o ≡ None
none_there None is = refl
none_there (Some x) is = absurd cc

-- a name that is new is kept
pub kept_next : (names kept : List Name) (i : ℕ) (x d : Name) → i < length names → x ≡ get_or names i d
    → has x kept ≡ false → AreKept (take i names) kept → AreKept (take (i + 1) names) (put_in itself x kept)
kept_next names kept i x d within is new h = record {
  each = λ n. let before = h.each n in omega
      (arith, times_put n x kept (none_there (item_in itself x kept) new), times_more n x d names i within is);
  once = λ n. by_test n (same_name n x) refl;
}
  where
    by_test : (n : Name) (b : Bool) → same_name n x ≡ b → times same_name n (take (i + 1) names) ≤ 1
    by_test n true same =
        let here : one_if (same_name n x) ≡ 1 = rw same refl in
        let none : times same_name n kept ≡ 0 = rw (tells_name.exact n x same) (absent x kept new) in
        let before = h.each n in
        omega (arith, times_more n x d names i within is)
    by_test n false other =
        let here : one_if (same_name n x) ≡ 0 = rw other refl in
        let before = h.once n in
        omega (arith, times_more n x d names i within is)

-- one that is there already stands twice among all names
pub kept_twice : (names kept : List Name) (i : ℕ) (x d : Name) → i < length names → x ≡ get_or names i d
    → has x kept ≡ true → AreKept (take i names) kept → HasTwice names
kept_twice names kept i x d within is there h = record {
  name = x;
  twice =
      let before = h.each x in
      let some = present x kept there in
      let here : one_if (same_name x x) ≡ 1 = rw (tells_name.itself x) refl in
      omega (
        arith,
        times_more x x d names i within is,
        sum_by-take-le (λ (z : Name). one_if (same_name x z)) names (i + 1),
      );
}

-- how often a name stands among those from a place on
times_first_left : (n x d : Name) (names : List Name) (i : ℕ) → i < length names → x ≡ get_or names i d
    → times same_name n (drop i names) ≡ one_if (same_name n x) + times same_name n (drop (i + 1) names)
times_first_left n x d names i within is =
    let test = λ (y : Name). one_if (same_name n y) in
    sum_by-drop_more test names i d within ∙ ap (λ (y : Name). test y + sum_by test (drop (i + 1) names)) (sym is)

-- a name that is there is taken, where those behind it are
pub taken_next : (names before rest : List Name) (i : ℕ) (x d : Name) → i < length names → x ≡ get_or names i d
    → AreInOrder itself rest → has x rest ≡ true → AreTaken (drop (i + 1) names) before rest
    → AreTaken (drop i names) before (without_in itself x rest)
taken_next names before rest i x d within is order there h n = by_found (item_in itself x rest) refl there
  where
    by_found : (o : Option Name) → item_in itself x rest ≡ o → is_some o ≡ true
        → times same_name n (without_in itself x rest) + times same_name n (drop i names) ≡ times same_name n before
    by_found None found some = absurd cc
    by_found (Some y) found some =
        let so_far = h n in omega (arith, times_first_left n x d names i within is, times_left n x y rest order found)

-- one that isn't there stands more often among all names than among those that were there
pub taken_more : (names before rest : List Name) (i : ℕ) (x d : Name) → i < length names → x ≡ get_or names i d
    → has x rest ≡ false → AreTaken (drop (i + 1) names) before rest → HasMore names before
taken_more names before rest i x d within is none h = record {
  name = x;
  more =
      let so_far = h x in
      let gone = absent x rest none in
      let here : one_if (same_name x x) ≡ 1 = rw (tells_name.itself x) refl in
      omega (
        arith,
        times_first_left x x d names i within is,
        sum_by-take-drop (λ (z : Name). one_if (same_name x z)) names i,
      );
}

-- what a test of two lists answers
refuted : (left right : List Name) → (SameCounts same_name tells_name left right → ⊥)
    → same_once same_name left right ≡ false
refuted left right never = by_test (same_once same_name left right) refl
  where
    by_test : (b : Bool) → same_once same_name left right ≡ b → b ≡ false
    by_test true is = absurd (never (counts_from same_name tells_name left right is))
    by_test false is = refl

pub same_all : (left right kept : List Name) → AreKept left kept → AreTaken right kept []
    → same_once same_name left right ≡ true
same_all left right kept once taken =
    same_from same_name tells_name left right (record {
      equal = λ n. let here = once.each n in let gone = taken n in omega arith;
      once = once.once;
    })

pub same_left : (left right kept rest : List Name) (x : Name) → AreKept left kept → AreTaken right kept (x ∷ rest)
    → same_once same_name left right ≡ false
same_left left right kept rest x once taken =
    refuted left right (λ same. let here = once.each x in let gone = taken x in let equal =
    same.equal x in omega (arith, times_first same_name tells_name x rest))

-- once all of them were taken, nothing is left exactly where the lists have the same names
pub same_rest : (left right kept rest : List Name) → AreKept left kept → AreTaken right kept rest
    → (length rest == 0) ≡ same_once same_name left right
same_rest left right kept [] once taken = sym (same_all left right kept once taken)
same_rest left right kept (x ∷ rest) once taken =
    apart (length (x ∷ rest)) 0 (λ same. omega arith) ∙ sym (same_left left right kept rest x once taken)

pub same_more : (left right kept : List Name) → AreKept left kept → HasMore right kept
    → same_once same_name left right ≡ false
same_more left right kept once more =
    refuted left right (λ same. let here = once.each more.name in let equal = same.equal more.name in let above =
    more.more in omega arith)

pub same_twice : (left right : List Name) → HasTwice left → same_once same_name left right ≡ false
same_twice left right twice = refuted left right (λ same. let once = same.once twice.name in let above =
    twice.twice in omega arith)

-- whether a record's grant is the one that is looked for
record_first : (g : Grant) (r : Record) (records : List Record)
    → is_some (record_in g (r ∷ records))
    ≡ (same_name (name_of_grant g) (name_of_record r) || is_some (record_in g records))
record_first g r records = by_test (is_eq (name_cmp (name_of_grant g) (name_of_record r)))
    ∙ ap (λ (b : Bool). b || is_some (record_in g records)) (same_key (name_of_grant g) (name_of_record r))
  where
    by_test : (b : Bool) → is_some (cond b (Some r) (record_in g records)) ≡ (b || is_some (record_in g records))
    by_test true = refl
    by_test false = refl

or_turn : (a b c : Bool) → ((a || b) || c) ≡ (b || (a || c))
or_turn true true c = refl
or_turn true false c = refl
or_turn false true c = refl
or_turn false false c = refl

-- a record's grant is put, and the others have still to come
pub grant_put : (g : Grant) (r : Record) (held : List Name) (records : List Record)
    → (has (name_of_grant g) (put_in itself (name_of_record r) held) || is_some (record_in g records))
    ≡ (has (name_of_grant g) held || is_some (record_in g (r ∷ records)))
grant_put g r held records =
    ap (λ (b : Bool). b || is_some (record_in g records)) (has_put (name_of_grant g) (name_of_record r) held)
    ∙ or_turn (same_name (name_of_grant g) (name_of_record r)) (has (name_of_grant g) held)
    (is_some (record_in g records))
    ∙ ap (λ (b : Bool). has (name_of_grant g) held || b) (sym (record_first g r records))

or_assoc : (a b c : Bool) → ((a || b) || c) ≡ (a || (b || c))
or_assoc true b c = refl
or_assoc false b c = refl

-- the grants of a subcomputation's records are put, and other subcomputations have still to come
pub host_put : (g : Grant) (s : SubOf) (subs : List SubOf) (before : Bool)
    → ((before || is_some (record_in g s.content.records)) || is_some (host_in g subs))
    ≡ (before || is_some (host_in g (s ∷ subs)))
host_put g s subs before =
    or_assoc before (is_some (record_in g s.content.records)) (is_some (host_in g subs))
    ∙ ap (λ (b : Bool). before || b) (by_test (has_record g s))
  where
    by_test : (b : Bool) → (b || is_some (host_in g subs)) ≡ is_some (cond b (Some s) (host_in g subs))
    by_test true = refl
    by_test false = refl
