-- Each of a list is covered by what is done for each.
use Rattle.std.proofs.Common.{◌≡◌, List, [], ◌∷◌, map, ◌⊎◌, inl, inr, Some, refl, sym, ap, ◌∙◌, Ordering, Less, Equal, Greater}
use Rattle.std.specs.List.{flat_map}
use Rattle.std.specs.Ordering.{match_ordering}
use Rattle.ids.specs.Names.{Grant}
use Rattle.ids.specs.Naming.{name_of_grant}
use Rattle.ids.specs.Named.{name_cmp, put_in}
use Rattle.ids.proofs.NameOrder.{exact_names}
use Rattle.ids.specs.declared.work.Record.{Record}
use Rattle.victim_records.specs.Records.{record_in}
use Rattle.subcomputation.specs.Recovering.{ordered, record_grants, their_records}
use Rattle.subcomputation.specs.Subs.{SubOf, grants_of_subs, sub_in}
use Rattle.table_laws.specs.Tables.{◌∈◌}
use Rattle.table_laws.proofs.Among.{found_among}
use Rattle.table_laws.proofs.Lists.{early, later}
use Rattle.content_laws.proofs.Apart.{grant_named, own_grant}
use Rattle.actor_laws.proofs.node_moves.Members.{own_sub}

-- what is made of an item is among what is made
pub made : {X Y : Type 0} (f : X → Y) (x : X) (xs : List X) → x ∈ xs → f x ∈ map f xs
made f x [] m = absurd m
made f x (y ∷ ys) (inl e) = inl (ap f e)
made f x (y ∷ ys) (inr m) = inr (made f x ys m)

pub all_made : {X Y : Type 0} (f : X → List Y) (x : X) (y : Y) (xs : List X) → x ∈ xs → y ∈ f x → y ∈ flat_map f xs
all_made f x y [] m k = absurd m
all_made f x y (z ∷ zs) (inl e) k = early (f z) (flat_map f zs) y (rw e at k)
all_made f x y (z ∷ zs) (inr m) k = later (f z) (flat_map f zs) y (all_made f x y zs m k)

-- grants that are put in their order stay
put_there : (g h : Grant) (gs : List Grant) → (h ≡ g) ⊎ (h ∈ gs) → h ∈ put_in name_of_grant g gs
put_there g h [] (inl e) = inl e
put_there g h [] (inr m) = absurd m
put_there g h (k ∷ ks) m = by_order (put_there g h ks) (name_cmp (name_of_grant g) (name_of_grant k)) refl m
  where
    by_order : ((h ≡ g) ⊎ (h ∈ ks) → h ∈ put_in name_of_grant g ks) → (o : Ordering)
        → name_cmp (name_of_grant g) (name_of_grant k) ≡ o → (h ≡ g) ⊎ (h ∈ (k ∷ ks))
        → h ∈ match_ordering o (g ∷ k ∷ ks) (g ∷ ks) (k ∷ put_in name_of_grant g ks)
    by_order rest Less is m = m
    by_order rest Equal is (inl e) = inl e
    by_order rest Equal is (inr (inl e)) =
        inl (e ∙ sym (grant_named g k (exact_names (name_of_grant g) (name_of_grant k) is)))
    by_order rest Equal is (inr (inr m)) = inr m
    by_order rest Greater is (inl e) = inr (rest (inl e))
    by_order rest Greater is (inr (inl e)) = inl e
    by_order rest Greater is (inr (inr m)) = inr (rest (inr m))

ordered_there : (g : Grant) (gs : List Grant) → g ∈ gs → g ∈ ordered gs
ordered_there g [] m = absurd m
ordered_there g (h ∷ gs) (inl e) = put_there h g (ordered gs) (inl e)
ordered_there g (h ∷ gs) (inr m) = put_there h g (ordered gs) (inr (ordered_there g gs m))

-- each record of a subcomputation is among theirs
pub record_covered : (g k : Grant) (s : SubOf) (r : Record) (grants : List Grant) (subs : List SubOf) → g ∈ grants
    → sub_in g subs ≡ Some s → record_in k s.content.records ≡ Some r → k ∈ their_records grants subs
record_covered g k s r grants subs m there at =
    let own : k ≡ r.grant = own_grant k r s.content.records at in
    let listed : r.grant ∈ map (λ (x : Record). x.grant) s.content.records =
    made (λ (x : Record). x.grant) r s.content.records (found_among _ r s.content.records at) in
    let here : k ∈ record_grants (sub_in g subs) = rw (own, there) listed in
    ordered_there k (flat_map (λ h. record_grants (sub_in h subs)) grants)
    (all_made (λ h. record_grants (sub_in h subs)) g k grants m here)

-- and each subcomputation's grant among all
pub grant_covered : (g : Grant) (s : SubOf) (subs : List SubOf) → sub_in g subs ≡ Some s → g ∈ grants_of_subs subs
grant_covered g s subs there =
    let own : g ≡ s.grant = own_sub g s subs there in
    rw own (made (λ (x : SubOf). x.grant) s subs (found_among _ s subs there))
