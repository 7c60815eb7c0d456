-- A plan is carried out by one grant after another.
use Rattle.std.proofs.Common.{◌≡◌, ◌<◌, ℕ, suc, ◌+◌, List, [], ◌∷◌, length, get_or, drop, drop-cons, arith, map, Option, Some, None, IsSome, refl, sym, ap, subst, ◌∙◌, Less}
use Rattle.std.specs.List.{AllByRecursion}
use Rattle.std.proofs.lemmas.Map.Keys.{sorted_head}
use Rattle.ids.specs.Names.{Grant}
use Rattle.ids.specs.Named.{item_in, name_cmp, without_in}
use Rattle.ids.specs.Naming.{name_of_grant}
use Rattle.ids.specs.Ordered.{AreInOrder}
use Rattle.subcomputation.specs.Subs.{SubOf, name_of_sub, sub_in}
use Rattle.recovery.specs.Plans.{AreHeld, carried, carried_out, grant_of}
use Rattle.recovery.specs.declared.plan.Settled.{Settled}
use Rattle.recovery.proofs.Hosting.{apart_by_order}
use Rattle.recovery.proofs.Orders.{all_both, first_found, names_of, order_later, without_first}
use Rattle.recovery.proofs.Standing.{IsKept, carried_other, name_of_settled}

-- what is still to be carried out, by the grants to come
pub record IsCarrying (rest : List Grant) (xs : List Settled) (subs all : List SubOf) : Type 0 where
  pub grants : map grant_of xs ≡ rest
  pub order : AreInOrder name_of_settled xs
  pub held : AreHeld xs subs
  pub total : carried_out xs subs ≡ all

-- the first of them
pub record IsNext (g : Grant) (rest : List Grant) (xs : List Settled) (subs all : List SubOf) : Type 0 where
  pub next : Settled
  pub there : item_in name_of_settled (name_of_grant g) xs ≡ Some next
  pub kept : IsKept subs next
  pub after : IsCarrying rest (without_in name_of_settled (name_of_grant g) xs) (carried next subs) all

-- the first of the grants to come is that of the first that is settled
pub carries_next : (g : Grant) (rest : List Grant) (xs : List Settled) (subs all : List SubOf)
    → IsCarrying (g ∷ rest) xs subs all → IsNext g rest xs subs all
carries_next g rest [] subs all i = let none : [] ≡ g ∷ rest = i.grants in cc
carries_next g rest (x ∷ xs) subs all i =
    let grants : grant_of x ∷ map grant_of xs ≡ g ∷ rest = i.grants in
    let first : grant_of x ≡ g = cc in
    let others : map grant_of xs ≡ rest = cc in
    let name : name_of_settled x ≡ name_of_grant g = ap name_of_grant first in
    let gone : without_in name_of_settled (name_of_grant g) (x ∷ xs) ≡ xs =
    ap (λ n. without_in name_of_settled n (x ∷ xs)) (sym name) ∙ without_first name_of_settled x xs i.order in
    let held : AreHeld xs (carried x subs) =
    all_both (λ y. name_cmp (name_of_settled x) (name_of_settled y) ≡ Less) (IsKept subs) (IsKept (carried x subs))
    (λ y less kept. subst IsSome (sym (carried_other x (name_of_settled y) subs
    (apart_by_order (name_of_settled x) (name_of_settled y) less))) kept)
    xs (names_of name_of_settled (λ n. name_cmp (name_of_settled x) n ≡ Less) xs
    (sorted_head name_cmp (name_of_settled x) (map name_of_settled xs) i.order)) i.held.1 in
    record {
      next = x;
      there = ap (λ n. item_in name_of_settled n (x ∷ xs)) (sym name) ∙ first_found name_of_settled x xs;
      kept = i.held.0;
      after = record {
        grants = ap (map grant_of) gone ∙ others;
        order = subst (λ ys. AreInOrder name_of_settled ys) (sym gone) (order_later name_of_settled x xs i.order);
        held = subst (λ ys. AreHeld ys (carried x subs)) (sym gone) held;
        total = ap (λ ys. carried_out ys (carried x subs)) gone ∙ i.total;
      };
    }

-- the next is taken and carried out
pub carried_next : (g : Grant) (rest : List Grant) (xs ys : List Settled) (subs after all : List SubOf) (x : Settled)
    → IsCarrying (g ∷ rest) xs subs all → item_in name_of_settled (name_of_grant g) xs ≡ Some x
    → ys ≡ without_in name_of_settled (name_of_grant g) xs → after ≡ carried x subs → IsCarrying rest ys after all
carried_next g rest xs ys subs after all x i there gone now =
    let n : IsNext g rest xs subs all = carries_next g rest xs subs all i in
    let at : item_in name_of_settled (name_of_grant g) xs ≡ Some n.next = n.there in
    let same : n.next ≡ x = cc in
    subst (λ zs. IsCarrying rest zs after all) (sym gone)
    (subst (λ zs. IsCarrying rest (without_in name_of_settled (name_of_grant g) xs) zs all) (sym now)
    (subst (λ z. IsCarrying rest (without_in name_of_settled (name_of_grant g) xs) (carried z subs) all) same n.after))

-- what comes next is held
pub kept_next : (g : Grant) (rest : List Grant) (xs : List Settled) (subs all : List SubOf) (x : Settled)
    → IsCarrying (g ∷ rest) xs subs all → item_in name_of_settled (name_of_grant g) xs ≡ Some x → IsKept subs x
kept_next g rest xs subs all x i there =
    let n : IsNext g rest xs subs all = carries_next g rest xs subs all i in
    let at : item_in name_of_settled (name_of_grant g) xs ≡ Some n.next = n.there in
    let same : n.next ≡ x = cc in
    subst (IsKept subs) same n.kept

-- something comes next
pub nothing_next : {A : Type 0} (g : Grant) (rest : List Grant) (xs : List Settled) (subs all : List SubOf)
    → IsCarrying (g ∷ rest) xs subs all → item_in name_of_settled (name_of_grant g) xs ≡ None → A
nothing_next g rest xs subs all i none =
    let n : IsNext g rest xs subs all = carries_next g rest xs subs all i in
    let at : item_in name_of_settled (name_of_grant g) xs ≡ Some n.next = n.there in
    cc

-- at the end all is carried out
pub carries_all : (rest : List Grant) (xs : List Settled) (subs all : List SubOf) → rest ≡ []
    → IsCarrying rest xs subs all → subs ≡ all
carries_all rest [] subs all none i = i.total
carries_all rest (x ∷ xs) subs all none i = let some : grant_of x ∷ map grant_of xs ≡ rest = i.grants in cc

-- the next of the grants
pub next_of : (grants : List Grant) (i : ℕ) (g : Grant) → i < length grants → g ≡ get_or grants i g
    → drop i grants ≡ g ∷ drop (i + 1) grants
next_of grants i g within is =
    let more : suc i ≡ i + 1 = omega arith in
    drop-cons grants i g within ∙ ap (λ x. x ∷ drop (suc i) grants) (sym is) ∙ ap (λ k. g ∷ drop k grants) more
