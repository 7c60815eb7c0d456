-- What stands under each grant when some subcomputations are settled.
use Rattle.std.proofs.Common.{◌≡◌, List, [], ◌∷◌, ◌++◌, map, Option, Some, None, IsSome, refl, sym, ap, subst, ◌∙◌, append_assoc, append-nil}
use Rattle.std.specs.List.{AllByRecursion}
use Rattle.std.proofs.lemmas.List.{map-append}
use Rattle.ids.specs.Names.{Grant}
use Rattle.ids.specs.Named.{Name, item_in, put_in, without_in}
use Rattle.ids.specs.Naming.{name_of_grant}
use Rattle.ids.specs.Ordered.{AreInOrder}
use Rattle.ids.specs.declared.work.Record.{Record}
use Rattle.ids.proofs.Replacing.{put_is_found}
use Rattle.subcomputation.specs.Subs.{SubOf, name_of_sub, put_sub, sub_in, without_sub}
use Rattle.subcomputation.specs.declared.sub.ReadiedOf.{ReadiedOf}
use Rattle.subcomputation.specs.Recovering.{Recovery, ◌then◌, settled}
use Rattle.subcomputation.proofs.Others.{put_other, without_itself, without_other}
use Rattle.recovery.specs.Plans.{AreHeld, carried, carried_out, grant_of, stop_of}
use Rattle.recovery.specs.declared.plan.Draft.{Draft}
use Rattle.recovery.specs.declared.plan.Settled.{Settled}
use Rattle.recovery.specs.declared.plan.Settled.TheVariants.{Goes, Stays}
use Rattle.recovery.specs.declared.plan.Stopped.{Stopped}
use Rattle.recovery.proofs.Orders.{all_found, all_put, all_without, by_names, first_found, later_found, named, none_later, order_later, put_again, put_anew, put_order, same_items, without_order}

-- its name is that of its grant
abbrev pub name_of_settled : Settled → Name
name_of_settled x = name_of_grant (grant_of x)

-- the subcomputation that stands where one is settled
abbrev pub stays : Settled → Option SubOf
stays (Goes g) = None
stays (Stays s) = Some s

-- what stands where it is settled, else what stood there before
abbrev pub stands_by : Option Settled → Option SubOf → Option SubOf
stands_by None before = before
stands_by (Some x) before = stays x

-- the same name is that of the same grant
pub same_grant : (g h : Grant) → name_of_grant g ≡ name_of_grant h → g ≡ h
same_grant g h same =
    let minters : g.minter ≡ h.minter = ap (λ n. n.0) same in
    let numbers : g.number ≡ h.number = ap (λ n. n.1) same in
    ap (λ m. (record { minter = m; number = g.number })) minters
    ∙ ap (λ n. (record { minter = h.minter; number = n })) numbers

-- ---- one of them
pub carried_own : (x : Settled) (subs : List SubOf) → item_in name_of_sub (name_of_settled x) (carried x subs) ≡ stays x
carried_own (Goes g) subs = without_itself name_of_sub (name_of_grant g) subs
carried_own (Stays s) subs = put_is_found name_of_sub s subs

-- what stands under another name stays
pub carried_other : (x : Settled) (n : Name) (subs : List SubOf) → (n ≡ name_of_settled x → ⊥)
    → item_in name_of_sub n (carried x subs) ≡ item_in name_of_sub n subs
carried_other (Goes g) n subs other = without_other name_of_sub n (name_of_grant g) subs other
carried_other (Stays s) n subs other = put_other name_of_sub n s subs other

-- the order stays
pub carried_order : (x : Settled) (subs : List SubOf) → AreInOrder name_of_sub subs
    → AreInOrder name_of_sub (carried x subs)
carried_order (Goes g) subs order = without_order name_of_sub (name_of_grant g) subs order
carried_order (Stays s) subs order = put_order name_of_sub s subs order

-- ---- all of them
pub carried_out_order : (xs : List Settled) (subs : List SubOf) → AreInOrder name_of_sub subs
    → AreInOrder name_of_sub (carried_out xs subs)
carried_out_order [] subs order = order
carried_out_order (x ∷ xs) subs order = carried_out_order xs (carried x subs) (carried_order x subs order)

-- under each name, that which is settled, else that which stood there
pub stands : (xs : List Settled) (subs : List SubOf) (n : Name) → AreInOrder name_of_settled xs
    → item_in name_of_sub n (carried_out xs subs)
    ≡ stands_by (item_in name_of_settled n xs) (item_in name_of_sub n subs)
stands [] subs n order = refl
stands (x ∷ xs) subs n order =
    let rest : item_in name_of_sub n (carried_out xs (carried x subs))
    ≡ stands_by (item_in name_of_settled n xs) (item_in name_of_sub n (carried x subs)) =
    stands xs (carried x subs) n (order_later name_of_settled x xs order) in
    by_names n (name_of_settled x)
    (λ here.
    let none : item_in name_of_settled n xs ≡ None =
    ap (λ k. item_in name_of_settled k xs) here ∙ none_later name_of_settled x xs order in
    let some : item_in name_of_settled n (x ∷ xs) ≡ Some x =
    ap (λ k. item_in name_of_settled k (x ∷ xs)) here ∙ first_found name_of_settled x xs in
    rest ∙ ap (λ o. stands_by o (item_in name_of_sub n (carried x subs))) none
    ∙ ap (λ k. item_in name_of_sub k (carried x subs)) here
    ∙ carried_own x subs
    ∙ sym (ap (λ o. stands_by o (item_in name_of_sub n subs)) some))
    (λ other.
    rest ∙ ap (λ o. stands_by (item_in name_of_settled n xs) o) (carried_other x n subs other)
    ∙ sym (ap (λ o. stands_by o (item_in name_of_sub n subs)) (later_found name_of_settled n x xs other)))

-- of a grant
pub stands_at : (g : Grant) (xs : List Settled) (subs : List SubOf) → AreInOrder name_of_settled xs
    → sub_in g (carried_out xs subs) ≡ stands_by (item_in name_of_settled (name_of_grant g) xs) (sub_in g subs)
stands_at g xs subs order = stands xs subs (name_of_grant g) order

-- one more is the same as one more at the end
pub carried_more : (x : Settled) (xs : List Settled) (subs : List SubOf) → AreInOrder name_of_settled xs
    → AreInOrder name_of_sub subs → carried_out (put_in name_of_settled x xs) subs ≡ carried x (carried_out xs subs)
carried_more x xs subs order sorted =
    same_items name_of_sub (carried_out (put_in name_of_settled x xs) subs) (carried x (carried_out xs subs))
    (carried_out_order (put_in name_of_settled x xs) subs sorted)
    (carried_order x (carried_out xs subs) (carried_out_order xs subs sorted))
    (λ n.
    let more : item_in name_of_sub n (carried_out (put_in name_of_settled x xs) subs)
    ≡ stands_by (item_in name_of_settled n (put_in name_of_settled x xs)) (item_in name_of_sub n subs) =
    stands (put_in name_of_settled x xs) subs n (put_order name_of_settled x xs order) in
    by_names n (name_of_settled x)
    (λ here.
    let some : item_in name_of_settled n (put_in name_of_settled x xs) ≡ Some x =
    ap (λ k. item_in name_of_settled k (put_in name_of_settled x xs)) here ∙ put_is_found name_of_settled x xs in
    more ∙ ap (λ o. stands_by o (item_in name_of_sub n subs)) some
    ∙ sym (ap (λ k. item_in name_of_sub k (carried x (carried_out xs subs))) here
    ∙ carried_own x (carried_out xs subs)))
    (λ other.
    more ∙ ap (λ o. stands_by o (item_in name_of_sub n subs)) (put_other name_of_settled n x xs other)
    ∙ sym (carried_other x n (carried_out xs subs) other ∙ stands xs subs n order)))

-- the same where the one before it was taken away first
pub carried_anew : (x : Settled) (n : Name) (xs : List Settled) (subs : List SubOf) → n ≡ name_of_settled x
    → AreInOrder name_of_settled xs → AreInOrder name_of_sub subs
    → carried_out (put_in name_of_settled x (without_in name_of_settled n xs)) subs ≡ carried x (carried_out xs subs)
carried_anew x n xs subs here order sorted =
    ap (λ k. carried_out (put_in name_of_settled x (without_in name_of_settled k xs)) subs) here
    ∙ ap (λ ys. carried_out ys subs) (put_anew name_of_settled x xs order)
    ∙ carried_more x xs subs order sorted

-- ---- what is settled is held
abbrev pub IsKept : List SubOf → Settled → Type 0
IsKept subs x = IsSome (sub_in (grant_of x) subs)

-- one more that is held
pub held_more : (x : Settled) (xs : List Settled) (subs : List SubOf) → IsKept subs x → AreHeld xs subs
    → AreHeld (put_in name_of_settled x xs) subs
held_more x xs subs here held = all_put name_of_settled (IsKept subs) x xs here held

-- and in the place of another
pub held_anew : (x : Settled) (n : Name) (xs : List Settled) (subs : List SubOf) → IsKept subs x → AreHeld xs subs
    → AreHeld (put_in name_of_settled x (without_in name_of_settled n xs)) subs
held_anew x n xs subs here held = all_put name_of_settled (IsKept subs) x (without_in name_of_settled n xs) here
    (all_without name_of_settled (IsKept subs) n xs held)

-- something is there
some_there : {A : Type 0} (a : A) (o : Option A) → o ≡ Some a → IsSome o
some_there a None is = cc
some_there a (Some b) is = refl

-- what stands under a grant was held under it
pub held_where_stands : (g : Grant) (s : SubOf) (xs : List Settled) (subs : List SubOf) → AreInOrder name_of_settled xs
    → AreHeld xs subs → sub_in g (carried_out xs subs) ≡ Some s → IsSome (sub_in g subs)
held_where_stands g s xs subs order held there =
    by_settled (item_in name_of_settled (name_of_grant g) xs) refl (sym (stands xs subs (name_of_grant g) order)
    ∙ there)
  where
    by_settled : (o : Option Settled) → item_in name_of_settled (name_of_grant g) xs ≡ o
        → stands_by o (sub_in g subs) ≡ Some s → IsSome (sub_in g subs)
    by_settled None is at = some_there s (sub_in g subs) at
    by_settled (Some x) is at =
        let kept : IsKept subs x = all_found name_of_settled (IsKept subs) (name_of_grant g) x xs held is in
        subst (λ n. IsSome (item_in name_of_sub n subs)) (sym (named name_of_settled (name_of_grant g) x xs is)) kept

-- ---- a draft follows a recovery, from a draft before it on
pub record Follows (subs : List SubOf) (base d : Draft) (r : Recovery) : Type 0 where
  pub held : AreHeld d.settled subs
  pub left : carried_out d.settled subs ≡ r.subs
  pub stopped : d.stopped ≡ base.stopped ++ map stop_of r.stopped
  pub again : d.again ≡ base.again ++ r.again

-- what one part of it leads to
abbrev pub IsStep : List SubOf → Draft → Draft → Recovery → Type 0
IsStep subs d e r = (carried_out e.settled subs ≡ r.subs) × (e.stopped ≡ d.stopped ++ map stop_of r.stopped)
    × (e.again ≡ d.again ++ r.again) × AreHeld e.settled subs

-- a draft follows one more part
pub follows_more : (subs : List SubOf) (base d e : Draft) (r : Recovery) (f : List SubOf → Recovery)
    → Follows subs base d r → IsStep subs d e (f r.subs) → Follows subs base e (r then f)
follows_more subs base d e r f follows step =
    record {
      held = step.3;
      left = step.0;
      stopped =
          step.1 ∙ ap (λ xs. xs ++ map stop_of (f r.subs).stopped) follows.stopped
          ∙ append_assoc base.stopped (map stop_of r.stopped) (map stop_of (f r.subs).stopped)
          ∙ ap (λ xs. base.stopped ++ xs) (sym (map-append stop_of r.stopped (f r.subs).stopped));
      again =
          step.2 ∙ ap (λ xs. xs ++ (f r.subs).again) follows.again
          ∙ append_assoc base.again r.again (f r.subs).again;
    }

-- a draft follows nothing from itself on
pub follows_none : (subs : List SubOf) (base : Draft) → AreHeld base.settled subs
    → Follows subs base base (settled (carried_out base.settled subs))
follows_none subs base held =
    record {
      held = held;
      left = refl;
      stopped = sym (append-nil base.stopped);
      again = sym (append-nil base.again);
    }

-- ---- parts of a recovery
pub then_assoc : (r : Recovery) (f h : List SubOf → Recovery) → r then (λ subs. f subs then h) ≡ (r then f) then h
then_assoc r f h =
    let s = f r.subs in
    let t = h s.subs in
    ap (λ xs. (record { subs = t.subs; stopped = xs; again = r.again ++ (s.again ++ t.again) }))
    (sym (append_assoc r.stopped s.stopped t.stopped))
    ∙ ap (λ xs. (record { subs = t.subs; stopped = (r.stopped ++ s.stopped) ++ t.stopped; again = xs }))
    (sym (append_assoc r.again s.again t.again))

-- a part that does nothing
pub then_none : (r : Recovery) → r then settled ≡ r
then_none r =
    ap (λ xs. (record { subs = r.subs; stopped = xs; again = r.again ++ [] })) (append-nil r.stopped)
    ∙ ap (λ xs. (record { subs = r.subs; stopped = r.stopped; again = xs })) (append-nil r.again)

-- ---- what a part does to a draft
pub step_put : (subs : List SubOf) (d e : Draft) (x : Settled) (m : List Record) (b : List ReadiedOf)
    → AreInOrder name_of_settled d.settled → AreInOrder name_of_sub subs → AreHeld d.settled subs → IsKept subs x
    → e.settled ≡ put_in name_of_settled x d.settled → e.stopped ≡ d.stopped ++ map stop_of m → e.again ≡ d.again ++ b
    → IsStep subs d e (record { subs = carried x (carried_out d.settled subs); stopped = m; again = b })
step_put subs d e x m b order sorted held kept put stopped again = (
  ap (λ xs. carried_out xs subs) put
      ∙ carried_more x d.settled subs order sorted,
  stopped,
  again,
  subst (λ xs. AreHeld xs subs) (sym put) (held_more x d.settled subs kept held),
)

-- the same where the one before it was taken away first
pub step_anew : (subs : List SubOf) (d e : Draft) (x : Settled) (n : Name) (m : List Record) (b : List ReadiedOf)
    → n ≡ name_of_settled x → AreInOrder name_of_settled d.settled → AreInOrder name_of_sub subs
    → AreHeld d.settled subs → IsKept subs x
    → e.settled ≡ put_in name_of_settled x (without_in name_of_settled n d.settled)
    → e.stopped ≡ d.stopped ++ map stop_of m → e.again ≡ d.again ++ b
    → IsStep subs d e (record { subs = carried x (carried_out d.settled subs); stopped = m; again = b })
step_anew subs d e x n m b here order sorted held kept put stopped again = (
  ap (λ xs. carried_out xs subs) put
      ∙ carried_anew x n d.settled subs here order sorted,
  stopped,
  again,
  subst (λ xs. AreHeld xs subs) (sym put) (held_anew x n d.settled subs kept held),
)

-- nothing changes
pub step_none : (subs : List SubOf) (d e : Draft) → AreHeld d.settled subs → e ≡ d
    → IsStep subs d e (settled (carried_out d.settled subs))
step_none subs d e held same =
    subst (λ x. IsStep subs d x (settled (carried_out d.settled subs))) (sym same)
    (refl, sym (append-nil d.stopped), sym (append-nil d.again), held)
