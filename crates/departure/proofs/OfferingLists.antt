-- Offers one after another.
use Rattle.std.proofs.Common.{◌≡◌, ◌||◌, Bool, true, false, List, [], ◌∷◌, refl, ap, ◌∙◌}
use Rattle.std.specs.List.{list_any}
use Rattle.subcomputation.specs.Subs.{SubOf}
use Rattle.departure.specs.Offers.{offer, is_last_hop, is_too_big}
use Rattle.departure.specs.Freezing.{AreMovable, wholes}
use Rattle.departure.specs.declared.freezing.Move.{Move}

-- what holds of none of a list holds neither of its first nor of the others
pub none_first : {X : Type 0} (test : X → Bool) (x : X) (xs : List X) → list_any test (x ∷ xs) ≡ false
    → (test x ≡ false) × (list_any test xs ≡ false)
none_first test x xs none = by_tests (test x) (list_any test xs) none
  where
    by_tests : (a b : Bool) → (a || b) ≡ false → (a ≡ false) × (b ≡ false)
    by_tests true b is = absurd cc
    by_tests false b is = (refl, is)

-- where none has moved for the last time and no Offer is too big, all can be offered; and the
-- reverse
pub movable : (m : Move) (subs : List SubOf) → list_any is_last_hop subs ≡ false
    → list_any is_too_big (wholes m subs) ≡ false → AreMovable m subs
movable m [] hops sizes = tt
movable m (s ∷ subs) hops sizes =
    let hop = none_first is_last_hop s subs hops in
    let size = none_first is_too_big (offer m.job m.from m.heir s) (wholes m subs) sizes in
    (record { hop = hop.0; size = size.0 }, movable m subs hop.1 size.1)

pub no_last_hop : (m : Move) (subs : List SubOf) → AreMovable m subs → list_any is_last_hop subs ≡ false
no_last_hop m [] all = refl
no_last_hop m (s ∷ subs) all = ap (λ b. b || list_any is_last_hop subs) all.0.hop ∙ no_last_hop m subs all.1

pub none_too_big : (m : Move) (subs : List SubOf) → AreMovable m subs → list_any is_too_big (wholes m subs) ≡ false
none_too_big m [] all = refl
none_too_big m (s ∷ subs) all = ap (λ b. b || list_any is_too_big (wholes m subs)) all.0.size
    ∙ none_too_big m subs all.1
