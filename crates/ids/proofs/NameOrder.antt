-- The order of names.
use Rattle.std.proofs.Common.{◌≡◌, refl, Ordering, Less, Equal, Greater}
use Rattle.std.specs.Cmp.{nat_cmp_total}
use Rattle.std.specs.Ordering.{nat_cmp, ordering_reverse}
use Rattle.std.specs.Cmp.{IsTotalOrder}
use Rattle.std.proofs.lemmas.Cmp.{on_total, then_total}
use Rattle.std.proofs.lemmas.Map.Lookups.{CmpEqualImpliesEq, exact_pairs, exact_unsigned}
use Rattle.ids.specs.Named.{Name, name_cmp}

pub exact_names : CmpEqualImpliesEq name_cmp
exact_names = exact_pairs nat_cmp nat_cmp exact_unsigned exact_unsigned

pub names_total : IsTotalOrder name_cmp
names_total = then_total (on_total (λ (n : Name). n.0) nat_cmp_total) (on_total (λ (n : Name). n.1) nat_cmp_total)

-- a name is equal to itself
pub equal_to_itself : (n : Name) → name_cmp n n ≡ Equal
equal_to_itself n = by_order (name_cmp n n) (names_total.antisymm n n)
  where
    by_order : (r : Ordering) → r ≡ ordering_reverse r → r ≡ Equal
    by_order Less h = cc
    by_order Equal h = refl
    by_order Greater h = cc
