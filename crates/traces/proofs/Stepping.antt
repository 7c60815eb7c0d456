-- Steps of a merge.
use Rattle.std.proofs.Common.{◌≡◌, ℕ, true, List, [], ◌∷◌, ◌++◌, length, Option, None, Some, refl, sym, ap, subst, ◌∙◌, get_or, ltb}
use Rattle.event_script.specs.declared.event.Event.{Event}
use Rattle.event_script.specs.declared.event.Event.TheVariants.{AtNode}
use Rattle.event_script.specs.declared.event.NodeEvent.{NodeEvent}
use Rattle.event_script.specs.declared.event.NodeEvent.TheVariants as node
use Rattle.std.specs.List.{slice_get}
use Rattle.std.proofs.lemmas.Bool.{ltb-true}
use Rattle.std.proofs.lemmas.Option.{slice_get_read}
use Rattle.std.specs.Option.{unwrap_or}
use Rattle.traces.specs.Merges.{ActorOf, Comes, Does, Leads, MergeOf, Moves, stays, goes}
use Rattle.traces.specs.declared.line.TraceLine.{TraceLine}
use Rattle.traces.specs.declared.line.TraceLine.TheVariants.{Did}
use Rattle.traces.specs.declared.seat.Seat.{Seat}

pub leads_on : {m n o : MergeOf} → Leads m n → Leads n o → Leads m o
leads_on first stays = first
leads_on first (goes led move) = goes (leads_on first led) move

-- a node's own event that is no delivery
pub own_event : (m : MergeOf) (a p : ℕ) (e : NodeEvent) (at then : Option Seat) (es : List Event)
    → ((k : ℕ) → e ≡ node.Deliver k → ⊥)
    → Does e at then es → Comes m a (Did (AtNode p e)) at then es
own_event m a p (node.Deliver k) at then es not does = absurd (not k refl)
own_event m a p node.Resend at then es not does = does
own_event m a p (node.Exec f) at then es not does = does
own_event m a p (node.Whole f t) at then es not does = does
own_event m a p (node.Ask v) at then es not does = does
own_event m a p (node.Depart h) at then es not does = does

pub some_same : {A : Type 0} (a b : A) → Some a ≡ Some b → a ≡ b
some_same a b e = ap (λ o. unwrap_or o a) e

-- the actor whose next line this is, as it stands
pub same_front : (actors : List ActorOf) (a : ℕ) (actor : ActorOf) (l x : TraceLine) (ls : List TraceLine)
    (at : Option Seat)
    → slice_get actors a ≡ Some actor → slice_get actors a ≡ Some (record { lines = l ∷ ls; stands = at })
    → slice_get actor.lines 0 ≡ Some x
    → (x ≡ l) × (actor.stands ≡ at)
same_front actors a actor l x ls at is was front =
    let one : actor ≡ record { lines = l ∷ ls; stands = at } =
    some_same actor (record { lines = l ∷ ls; stands = at }) (sym is ∙ was) in
    let first : slice_get actor.lines 0 ≡ Some l = ap (λ (b : ActorOf). slice_get b.lines 0) one in
    (some_same x l (sym front ∙ first), ap (λ (b : ActorOf). b.stands) one)

-- who has a first line has a next one
front_is : (ls : List TraceLine) (x : TraceLine) → slice_get ls 0 ≡ Some x → (rest : List TraceLine) × (ls ≡ x ∷ rest)
front_is [] x there = absurd cc
front_is (l ∷ ls) x there = (ls, ap (λ (y : TraceLine). y ∷ ls) (some_same l x there))

pub next_is : (actors : List ActorOf) (a : ℕ) (actor : ActorOf) (x : TraceLine) → slice_get actors a ≡ Some actor
    → slice_get actor.lines 0 ≡ Some x
    → (l : TraceLine) × (ls : List TraceLine) × (at : Option Seat)
    × (slice_get actors a ≡ Some (record { lines = l ∷ ls; stands = at }))
next_is actors a actor x is front =
    let f = front_is actor.lines x front in
    (x, f.0, actor.stands, is ∙ ap (λ (ls : List TraceLine). Some (record { lines = ls; stands = actor.stands })) f.1)

-- what is found at a place
pub got : {A : Type 0} (xs ys : List A) (i : ℕ) (x : A) → xs ≡ ys → true ≡ ltb i (length xs) → x ≡ get_or xs i x
    → slice_get ys i ≡ Some x
got xs ys i x same within is =
    sym (ap (λ (zs : List _). slice_get zs i) same)
    ∙ slice_get_read xs (length xs) i x refl (ltb-true i (length xs) (sym within)) is

pub comes_same : (m : MergeOf) (a : ℕ) (x l : TraceLine) (own at then : Option Seat) (es : List Event) → x ≡ l
    → own ≡ at → Comes m a x own then es → Comes m a l at then es
comes_same m a x l own at then es p q h =
    subst (λ (o : Option Seat). Comes m a l o then es) q (subst (λ (y : TraceLine). Comes m a y own then es) p h)
