use Rattle.std.proofs.Common.{◌≡◌, ap, ◌∙◌, ◌++◌, ◌∷◌, map}
use Rattle.std.specs.Map.Iter.{deref}
use Rattle.std.specs.List.Sorted.{IsStrictlySortedBy}
use Rattle.std.proofs.lemmas.Map.Iter.{rest_more}
use Rattle.ids.specs.Named.{put_in, name_cmp}
use Rattle.ids.proofs.Keeping.{items_rise}
use Rattle.ids.proofs.NameOrder.{names_total}
use Rattle.ids.proofs.RisingLaws as rising
use Rattle.ids.proofs.sorted_map.SortedMapClone.clone.Goals as goal

pub loop-item-preserved : goal.loop-item-preserved
loop-item-preserved g c =
    let name = g.X.Named.name_of in
    let split : c.loop-item.item-iterator ≡ c.in-Some.item.now ∷ c.next.new.self =
    rest_more deref _ _ _ _ c.in-Some.is c.next.ensures.steps in
    let rises : IsStrictlySortedBy name_cmp (map name c.args.self.now) =
    rw c.self.view_is at (items_rise name c.self.inside.items c.self.inside.entries.items c.self.invariant) in
    let all : c.loop-item.items ++ c.in-Some.item.now ∷ c.next.new.self ≡ c.args.self.now =
    rw split at c.loop-item.invariant in
    let same : c.in_ok-clone.field-0 ≡ c.in-Some.item.now = g.met.X.Exact.exact _ _ c.in_ok-clone.ensures.cases in
    ap (λ items. items ++ c.next.new.self) (c.in_ok-put.ensures.ok ∙ ap (λ x. put_in name x c.loop-item.items) same)
    ∙ rising.put_next name name_cmp names_total c.loop-item.items c.in-Some.item.now c.next.new.self c.args.self.now all
    rises
