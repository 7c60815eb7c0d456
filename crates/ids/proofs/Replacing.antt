-- What is found among items that stand by rising name.
use Rattle.std.proofs.Common.{◌≡◌, Option, Some, None, sym, Bor, List}
use Rattle.std.specs.Option.{IfSome, option_copied}
use Rattle.ids.specs.Named.{Name, name_cmp, put_in, item_in}
use Rattle.ids.proofs.NameOrder.{exact_names, names_total}
use Rattle.ids.proofs.KeyedLaws.{found_in, put_found}

-- an item that is found has the name
pub name_found : {X : Type 0} (name : X → Name) (n : Name) (xs : List X) (o : Option (Bor X))
    → option_copied o ≡ item_in name n xs → IfSome o (λ x. name x.now ≡ n)
name_found name n xs None same = tt
name_found name n xs (Some x) same = sym (exact_names n (name x.now) (found_in name name_cmp n x.now xs (sym same)))

-- an item that was put is found
pub put_is_found : {X : Type 0} (name : X → Name) (x : X) (xs : List X)
    → item_in name (name x) (put_in name x xs) ≡ Some x
put_is_found name x xs = put_found name name_cmp names_total x xs
