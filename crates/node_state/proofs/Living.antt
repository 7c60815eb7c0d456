-- The parts of Offers that are left where those of dead senders go.
use Rattle.std.proofs.Common.{◌≡◌, Bool, true, false, List, [], ◌∷◌, cond, map, not, refl, ap, ◌∙◌, Less, Greater}
use Rattle.std.specs.List.{AllByRecursion, filter}
use Rattle.std.specs.Ordering.{is_eq, ordering_reverse}
use Rattle.std.proofs.lemmas.Map.Keys.{sorted_head, sorted_tail}
use Rattle.ids.specs.Members.{status_in}
use Rattle.ids.specs.Named.{Name, name_cmp, without_in}
use Rattle.ids.specs.Ordered.{AreInOrder}
use Rattle.ids.specs.declared.member.Member.{Member}
use Rattle.ids.proofs.NameOrder.{equal_to_itself, names_total}
use Rattle.node_state.specs.Assemblies.{AssemblyOf, name_of_assembly, of_living, shows_dead, without_all}

-- a name that stands before another
abbrev Before : Name → Name → Type 0
Before m n = name_cmp m n ≡ Less

-- what stands behind a name doesn't go with it
behind_stay : (n : Name) (xs : List AssemblyOf) → AllByRecursion (Before n) (map name_of_assembly xs)
    → without_in name_of_assembly n xs ≡ xs
behind_stay n [] behind = refl
behind_stay n (y ∷ ys) behind =
    ap (λ o. cond (not (is_eq o)) (y ∷ without_in name_of_assembly n ys) (without_in name_of_assembly n ys)) behind.0
    ∙ ap (λ zs. y ∷ zs) (behind_stay n ys behind.1)

-- what stands before names stays where those go
before_stays : (ns : List Name) (y : AssemblyOf) (ys : List AssemblyOf)
    → AllByRecursion (Before (name_of_assembly y)) ns → without_all ns (y ∷ ys) ≡ y ∷ without_all ns ys
before_stays [] y ys behind = refl
before_stays (n ∷ ns) y ys behind =
    let greater : name_cmp n (name_of_assembly y) ≡ Greater =
    names_total.antisymm n (name_of_assembly y) ∙ ap ordering_reverse behind.0 in
    ap (λ o. without_all ns (cond (not (is_eq o)) (y ∷ without_in name_of_assembly n ys)
    (without_in name_of_assembly n ys))) greater
    ∙ before_stays ns y (without_in name_of_assembly n ys) behind.1

-- the first goes with its name, and takes no other with it
first_goes : (y : AssemblyOf) (ys : List AssemblyOf)
    → AllByRecursion (Before (name_of_assembly y)) (map name_of_assembly ys)
    → without_in name_of_assembly (name_of_assembly y) (y ∷ ys) ≡ ys
first_goes y ys behind =
    ap (λ o. cond (not (is_eq o)) (y ∷ without_in name_of_assembly (name_of_assembly y) ys)
    (without_in name_of_assembly (name_of_assembly y) ys)) (equal_to_itself (name_of_assembly y))
    ∙ behind_stay (name_of_assembly y) ys behind

module _ (dead : AssemblyOf → Bool) where
  abbrev living : List AssemblyOf → List AssemblyOf
  living xs = filter (λ a. not (dead a)) xs

  abbrev names : List AssemblyOf → List Name
  names xs = map name_of_assembly (filter dead xs)

  -- what holds of all names holds of those
  of_names : (P : Name → Type 0) (xs : List AssemblyOf) → AllByRecursion P (map name_of_assembly xs)
      → AllByRecursion P (names xs)
  of_names P [] all = tt
  of_names P (y ∷ ys) all = by_dead (of_names P ys all.1) (dead y)
    where
      by_dead : AllByRecursion P (names ys) → (b : Bool)
          → AllByRecursion P (map name_of_assembly (cond b (y ∷ filter dead ys) (filter dead ys)))
      by_dead rest true = (all.0, rest)
      by_dead rest false = rest

  -- the names of some go, and so do these
  others_stay : (xs : List AssemblyOf) → AreInOrder name_of_assembly xs → without_all (names xs) xs ≡ living xs
  others_stay [] order = refl
  others_stay (y ∷ ys) order =
      by_dead (others_stay ys (sorted_tail name_cmp (name_of_assembly y) (map name_of_assembly ys) order))
      (sorted_head name_cmp (name_of_assembly y) (map name_of_assembly ys) order)
      (dead y)
    where
      by_dead : without_all (names ys) ys ≡ living ys
          → AllByRecursion (Before (name_of_assembly y)) (map name_of_assembly ys)
          → (b : Bool) → without_all (map name_of_assembly (cond b (y ∷ filter dead ys) (filter dead ys))) (y ∷ ys)
          ≡ cond (not b) (y ∷ living ys) (living ys)
      by_dead rest behind true = ap (without_all (names ys)) (first_goes y ys behind) ∙ rest
      by_dead rest behind false = before_stays (names ys) y ys (of_names (Before (name_of_assembly y)) ys behind)
          ∙ ap (λ zs. y ∷ zs) rest

-- those of the living are left
pub living_left : (members : List Member) (xs : List AssemblyOf) → AreInOrder name_of_assembly xs
    → without_all (map name_of_assembly (filter (λ a. shows_dead (status_in a.from members)) xs)) xs
    ≡ of_living members xs
living_left members xs order = others_stay (λ a. shows_dead (status_in a.from members)) xs order
