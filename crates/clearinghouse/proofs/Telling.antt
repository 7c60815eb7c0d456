-- What is told of who is listed stands as it is kept.
use Rattle.std.proofs.Common.{◌≡◌, ℕ, List, [], ◌∷◌, map, IsTrue, refl, ap}
use Rattle.std.specs.List.{AllByRecursion}
use Rattle.codec.specs.Rosters.{has_another}
use Rattle.ids.specs.Naming.{name_of_member}
use Rattle.ids.specs.Ordered.{AreInOrder}
use Rattle.clearinghouse.specs.House.{member_of, name_of_enlisted}
use Rattle.clearinghouse.specs.Laws.{IsListing}
use Rattle.clearinghouse.specs.declared.parts.Enlisted.{Enlisted}

same_names : (ws : List Enlisted) → map name_of_member (map member_of ws) ≡ map name_of_enlisted ws
same_names [] = refl
same_names (w ∷ ws) = ap (λ ns. name_of_enlisted w ∷ ns) (same_names ws)

pub told_rising : (version : ℕ) (ws : List Enlisted) → IsListing version ws
    → AreInOrder name_of_member (map member_of ws)
told_rising version ws is = rw (same_names ws) is.rising

each_told : (ws : List Enlisted) → AllByRecursion (λ w. IsTrue (has_another w.incarnation w.status)) ws
    → AllByRecursion (λ m. IsTrue (has_another m.incarnation m.status)) (map member_of ws)
each_told [] h = h
each_told (w ∷ ws) h = (h.0, each_told ws h.1)

pub told_heirs : (version : ℕ) (ws : List Enlisted) → IsListing version ws
    → AllByRecursion (λ m. IsTrue (has_another m.incarnation m.status)) (map member_of ws)
told_heirs version ws is = each_told ws is.heirs
