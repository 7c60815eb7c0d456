-- The fold over faults gives the least of them.
use Rattle.std.proofs.Common.{◌≡◌, suc, refl, inl, inr, ◌⊎◌, arith, Bool, true, false, List, [], ◌∷◌, Option, Some, None, if◌then◌else◌, nat_lt, ◌==◌, ◌&&◌, ◌||◌}
use Rattle.std.specs.List.{All, Contains}
use Rattle.std.proofs.lemmas.List.Elements.{All-nil, All-cons}
use Rattle.std.proofs.lemmas.Bool.Decides.{nat_tests}
use Rattle.kind_check.specs.Faults.{Fault, IsNoLater, IsLeast, number_of_fault}
use Rattle.kind_check.specs.Least.{is_before, least_with}

-- a fault is no later than itself
no_later_self : (f : Fault) → IsNoLater f f
no_later_self f = inr (refl, omega arith)

-- the order of faults is transitive
no_later_trans : (f g h : Fault) → IsNoLater f g → IsNoLater g h → IsNoLater f h
no_later_trans f g h (inl a) (inl b) = inl (omega arith)
no_later_trans f g h (inl a) (inr b) = inl (omega (arith, b.0))
no_later_trans f g h (inr a) (inl b) = inl (omega (arith, a.0))
no_later_trans f g h (inr a) (inr b) = inr (cc, omega (arith, a.1, b.1))

-- what the test says of the order
before_true : (f g : Fault) → is_before f g ≡ true → IsNoLater f g
before_true f g e = by_tests (nat_lt f.0 g.0) (f.0 == g.0)
    (nat_lt (number_of_fault f.1) (number_of_fault g.1)) refl refl refl e
  where
    by_tests : (a b c : Bool) → nat_lt f.0 g.0 ≡ a → (f.0 == g.0) ≡ b
        → nat_lt (number_of_fault f.1) (number_of_fault g.1) ≡ c → (a || (b && c)) ≡ true → IsNoLater f g
    by_tests true b c ea eb ec e = inl (grind (arith, nat_tests))
    by_tests false true true ea eb ec e = inr (grind (arith, nat_tests), grind (arith, nat_tests))
    by_tests false true false ea eb ec e = absurd cc
    by_tests false false c ea eb ec e = absurd cc

-- and what its failing says
before_false : (f g : Fault) → is_before f g ≡ false → IsNoLater g f
before_false f g e = by_tests (nat_lt f.0 g.0) (f.0 == g.0)
    (nat_lt (number_of_fault f.1) (number_of_fault g.1)) refl refl refl e
  where
    by_tests : (a b c : Bool) → nat_lt f.0 g.0 ≡ a → (f.0 == g.0) ≡ b
        → nat_lt (number_of_fault f.1) (number_of_fault g.1) ≡ c → (a || (b && c)) ≡ false → IsNoLater g f
    by_tests true b c ea eb ec e = absurd cc
    by_tests false true true ea eb ec e = absurd cc
    by_tests false true false ea eb ec e = inr (grind (arith, nat_tests), grind (arith, nat_tests))
    by_tests false false c ea eb ec e = inl (grind (arith, nat_tests))

-- what is known of the least of a fault, if there is one, and others
record Kept (o : Option Fault) (fs : List Fault) (f : Fault) : Type 0 where
  from : (o ≡ Some f) ⊎ Contains fs f
  before : (g : Fault) → o ≡ Some g → IsNoLater f g
  all : All (IsNoLater f) fs

-- a list has its first fault
contains_head : (f : Fault) (fs : List Fault) → Contains (f ∷ fs) f
contains_head f fs = (0, omega arith, refl)

-- a list has the faults behind its first
contains_tail : (f g : Fault) (fs : List Fault) → Contains fs f → Contains (g ∷ fs) f
contains_tail f g fs c = (suc c.0, omega (arith, c.1), c.2)

-- the fold keeps what is known of the least
least_kept : (o : Option Fault) (fs : List Fault) (f : Fault) → least_with o fs ≡ Some f → Kept o fs f
least_kept o [] f e = record { from = inl e; before = λ g h. at_same g cc; all = All-nil (IsNoLater f) }
  where
    at_same : (g : Fault) → f ≡ g → IsNoLater f g
    at_same g e = rw (← e) (no_later_self f)
least_kept None (x ∷ fs) f e =
    let k = least_kept (Some x) fs f e in
    record {
      from = inr (found k.from);
      before = λ g h. absurd cc;
      all = All-cons (IsNoLater f) x fs (k.before x refl) k.all;
    }
  where
    found : (Some x ≡ Some f) ⊎ Contains fs f → Contains (x ∷ fs) f
    found (inl e) = let s : x ≡ f = cc in rw s (contains_head f fs)
    found (inr c) = contains_tail f x fs c
least_kept (Some g) (x ∷ fs) f e = at_test (is_before x g) refl
    (least_kept (if is_before x g then Some x else Some g) fs f e)
  where
    at_test : (t : Bool) → is_before x g ≡ t → Kept (if t then Some x else Some g) fs f → Kept (Some g) (x ∷ fs) f
    at_test true h k = record {
      from = inr (found k.from);
      before = λ y s. earlier_one y cc;
      all = All-cons (IsNoLater f) x fs (k.before x refl) k.all;
    }
      where
        found : (Some x ≡ Some f) ⊎ Contains fs f → Contains (x ∷ fs) f
        found (inl e) = let s : x ≡ f = cc in rw s (contains_head f fs)
        found (inr c) = contains_tail f x fs c

        earlier_one : (y : Fault) → g ≡ y → IsNoLater f y
        earlier_one y s = rw (← s) (no_later_trans f x g (k.before x refl) (before_true x g h))
    at_test false h k = record {
      from = found k.from;
      before = k.before;
      all = All-cons (IsNoLater f) x fs (no_later_trans f g x (k.before g refl) (before_false x g h)) k.all;
    }
      where
        found : (Some g ≡ Some f) ⊎ Contains fs f → (Some g ≡ Some f) ⊎ Contains (x ∷ fs) f
        found (inl e) = inl e
        found (inr c) = inr (contains_tail f x fs c)

-- what the fold gives is the least of the faults
pub least_is : (fs : List Fault) (f : Fault) → least_with None fs ≡ Some f → IsLeast fs f
least_is fs f e =
    let k = least_kept None fs f e in
    record { member = found k.from; least = k.all }
  where
    found : (None ≡ Some f) ⊎ Contains fs f → Contains fs f
    found (inl e) = absurd cc
    found (inr c) = c

-- a fault is kept
least_some : (g : Fault) (fs : List Fault) → least_with (Some g) fs ≡ None → ⊥
least_some g [] e = cc
least_some g (f ∷ fs) e = at_test (is_before f g) (least_some f fs) (least_some g fs) e
  where
    at_test : (t : Bool) → (least_with (Some f) fs ≡ None → ⊥) → (least_with (Some g) fs ≡ None → ⊥)
        → least_with (if t then Some f else Some g) fs ≡ None → ⊥
    at_test true a b e = a e
    at_test false a b e = b e

-- where the fold gives nothing there is no fault
pub least_none : (fs : List Fault) → least_with None fs ≡ None → fs ≡ []
least_none [] e = refl
least_none (f ∷ fs) e = absurd (least_some f fs e)
