-- Names in a store: whether and how often a name is there.
use Rattle.std.proofs.Common.{◌≡◌, ℕ, suc, ◌+◌, ◌<◌, ◌||◌, Bool, true, false, cond, eqb, List, [], ◌∷◌, length, map, Some, None, IsTrue, refl, sym, ap, ◌∙◌, arith, Ordering, Less, Equal, Greater}
use Rattle.std.specs.List.{filter, list_all}
use Rattle.std.specs.Option.{is_some}
use Rattle.std.specs.Ordering.{is_eq, match_ordering}
use Rattle.std.proofs.lemmas.Bool.{eq-eqb, eqb-true}
use Rattle.std.proofs.lemmas.List.Sums.{sum_by-cons}
use Rattle.ids.specs.Named.{Name, name_cmp, item_in, put_in, without_in}
use Rattle.ids.specs.Ordered.{AreInOrder}
use Rattle.ids.proofs.NameOrder.{exact_names}
use Rattle.sub_rules.proofs.Sums.{equal_to_itself, sum_put_new, sum_left, found_name}
use Rattle.sub_rules.specs.Debts.{one_if}
use Rattle.subcomputation.specs.Fitting.{occurs_once, same_once}
use Rattle.departure.specs.Links.{itself, same_name, times}
use Rattle.departure.proofs.LinkedCounts.{both, Tells}

name_itself : (n : Name) → IsTrue (same_name n n)
name_itself n = rw (eq-eqb n.0 n.0 refl, eq-eqb n.1 n.1 refl) refl

pub tells_name : Tells same_name
tells_name = record {
  exact = λ a b same. let parts = both (eqb a.0 b.0) (eqb a.1 b.1) same in pair a b (eqb-true a.0 b.0 parts.0)
      (eqb-true a.1 b.1 parts.1);
  itself = name_itself;
}
  where
    pair : (a b : Name) → a.0 ≡ b.0 → a.1 ≡ b.1 → a ≡ b
    pair a b first second = ap (λ (k : ℕ). let name : Name = (k, a.1) in name) first
        ∙ ap (λ (k : ℕ). let name : Name = (b.0, k) in name) second

-- the order's test is that of names
pub same_key : (a b : Name) → is_eq (name_cmp a b) ≡ same_name a b
same_key a b = by_order (name_cmp a b) refl
  where
    other : (name_cmp a b ≡ Equal → ⊥) → (c : Bool) → same_name a b ≡ c → false ≡ c
    other apart true is = absurd (apart (ap (name_cmp a) (sym (tells_name.exact a b is)) ∙ equal_to_itself a))
    other apart false is = refl

    by_order : (r : Ordering) → name_cmp a b ≡ r → is_eq r ≡ same_name a b
    by_order Less is = other (λ equal. cc) (same_name a b) refl
    by_order Equal is = sym (name_itself b) ∙ ap (λ (n : Name). same_name n b) (sym (exact_names a b is))
    by_order Greater is = other (λ equal. cc) (same_name a b) refl

-- whether a name is there
abbrev pub has : Name → List Name → Bool
has n names = is_some (item_in itself n names)

pub has_cons : (n m : Name) (names : List Name) → has n (m ∷ names) ≡ (same_name n m || has n names)
has_cons n m names = by_test (is_eq (name_cmp n m)) ∙ ap (λ (b : Bool). b || has n names) (same_key n m)
  where
    by_test : (b : Bool) → is_some (cond b (Some m) (item_in itself n names)) ≡ (b || has n names)
    by_test true = refl
    by_test false = refl

-- a name that isn't there stands there no time, and one that is there stands there
pub absent : (n : Name) (names : List Name) → has n names ≡ false → times same_name n names ≡ 0
absent n [] none = refl
absent n (m ∷ names) none = by_test (absent n names) (same_name n m) refl (sym (has_cons n m names) ∙ none)
  where
    by_test : (has n names ≡ false → times same_name n names ≡ 0) → (b : Bool) → same_name n m ≡ b
        → (b || has n names) ≡ false → times same_name n (m ∷ names) ≡ 0
    by_test rest true is gone = absurd cc
    by_test rest false is gone =
        let here : one_if (same_name n m) ≡ 0 = rw is refl in
        let behind = rest gone in
        omega (arith, sum_by-cons (λ y. one_if (same_name n y)) m names)

pub present : (n : Name) (names : List Name) → has n names ≡ true → 0 < times same_name n names
present n [] there = absurd cc
present n (m ∷ names) there = by_test (present n names) (same_name n m) refl (sym (has_cons n m names) ∙ there)
  where
    by_test : (has n names ≡ true → 0 < times same_name n names) → (b : Bool) → same_name n m ≡ b
        → (b || has n names) ≡ true → 0 < times same_name n (m ∷ names)
    by_test rest true is at =
        let here : one_if (same_name n m) ≡ 1 = rw is refl in
        omega (arith, sum_by-cons (λ y. one_if (same_name n y)) m names)
    by_test rest false is at = let behind = rest at in omega (arith, sum_by-cons (λ y. one_if (same_name n y)) m names)

-- a new name is put there
pub times_put : (n m : Name) (names : List Name) → item_in itself m names ≡ None
    → times same_name n (put_in itself m names) ≡ times same_name n names + one_if (same_name n m)
times_put n m names new = sum_put_new itself (λ y. one_if (same_name n y)) m names new

-- one that is there is taken away
pub times_left : (n m x : Name) (names : List Name) → AreInOrder itself names → item_in itself m names ≡ Some x
    → times same_name n (without_in itself m names) + one_if (same_name n m) ≡ times same_name n names
times_left n m x names order there =
    let same : m ≡ x = found_name itself m x names there in
    ap (λ (y : Name). times same_name n (without_in itself m names) + one_if (same_name n y)) same
    ∙ sum_left itself (λ y. one_if (same_name n y)) m x names order there

or_swap : (a b c : Bool) → (a || (b || c)) ≡ (b || (a || c))
or_swap true true c = refl
or_swap true false c = refl
or_swap false true c = refl
or_swap false false c = refl

or_twice : (a c : Bool) → (a || c) ≡ (a || (a || c))
or_twice true c = refl
or_twice false c = refl

-- what is there once a name was put
pub has_put : (n m : Name) (names : List Name) → has n (put_in itself m names) ≡ (same_name n m || has n names)
has_put n m [] = has_cons n m []
has_put n m (y ∷ ys) = by_order (has_put n m ys) (name_cmp m y) refl
    ∙ ap (λ (b : Bool). same_name n m || b) (sym (has_cons n y ys))
  where
    by_order : has n (put_in itself m ys) ≡ (same_name n m || has n ys) → (r : Ordering) → name_cmp m y ≡ r
        → has n (match_ordering r (m ∷ y ∷ ys) (m ∷ ys) (y ∷ put_in itself m ys))
        ≡ (same_name n m || (same_name n y || has n ys))
    by_order rest Less is = has_cons n m (y ∷ ys) ∙ ap (λ (b : Bool). same_name n m || b) (has_cons n y ys)
    by_order rest Equal is =
        has_cons n m ys ∙ or_twice (same_name n m) (has n ys)
        ∙ ap (λ (z : Name). same_name n m || (same_name n z || has n ys)) (exact_names m y is)
    by_order rest Greater is =
        has_cons n y (put_in itself m ys) ∙ ap (λ (b : Bool). same_name n y || b) rest
        ∙ or_swap (same_name n y) (same_name n m) (has n ys)

module _ {A : Type 0} (same : A → A → Bool) (name : A → Name) (named : (a b : A)
    → same a b ≡ same_name (name a) (name b)) where
  passing : (test : A → Bool) (of_name : Name → Bool) → ((a : A) → test a ≡ of_name (name a)) → (xs : List A)
      → length (filter test xs) ≡ length (filter of_name (map name xs))
  passing test of_name alike [] = refl
  passing test of_name alike (x ∷ xs) = by_test (passing test of_name alike xs) (of_name (name x)) (alike x)
    where
      by_test : length (filter test xs) ≡ length (filter of_name (map name xs)) → (b : Bool) → test x ≡ b
          → length (cond (test x) (x ∷ filter test xs) (filter test xs))
          ≡ length (cond b (name x ∷ filter of_name (map name xs)) (filter of_name (map name xs)))
      by_test rest true is = rw is (ap suc rest)
      by_test rest false is = rw is rest

  all_passing : (test : A → Bool) (of_name : Name → Bool) → ((a : A) → test a ≡ of_name (name a)) → (xs : List A)
      → list_all test xs ≡ list_all of_name (map name xs)
  all_passing test of_name alike [] = refl
  all_passing test of_name alike (x ∷ xs) = rw (alike x, all_passing test of_name alike xs) refl

  -- lists have the same items, each once, where their names do
  pub once_by_names : (xs ys : List A) → same_once same xs ys ≡ same_once same_name (map name xs) (map name ys)
  once_by_names xs ys = rw (each xs ys, each ys xs) refl
    where
      each : (xs zs : List A) → list_all (occurs_once same zs) xs
          ≡ list_all (occurs_once same_name (map name zs)) (map name xs)
      each xs zs = all_passing (occurs_once same zs) (occurs_once same_name (map name zs))
          (λ a. ap (λ (k : ℕ). eqb k 1) (passing (same a) (same_name (name a)) (named a) zs)) xs
