use Rattle.std.proofs.Common.{◌≡◌, ◌+◌, [], ◌∷◌, ◌++◌, ap, ◌∙◌, sym, arith, append_assoc}
use Rattle.std.specs.Vec.Iter.{into_iter_items, into_iter_len}
use Rattle.ids.specs.Stored.{items_at}
use Rattle.ids.proofs.Keeping.{after_push}
use Rattle.ids.proofs.sorted_map.push_all.Goals as goal

pub loop-item-preserved : goal.loop-item-preserved
loop-item-preserved g c =
    let rest = into_iter_items c.next.new.self in
    let split : into_iter_items c.loop-item.item-iterator ≡ c.in-Some.item ∷ rest = c.in-Some.ensures.steps.0 in
    let fewer : into_iter_len c.next.new.self + 1 ≡ into_iter_len c.loop-item.item-iterator =
    c.in-Some.ensures.steps.1 in
    let s = c.loop-item.items in
    let t = c.insert_reserved-key.new.self in
    let es = c.loop-item.entries.items in
    let here = c.loop-item.invariant in
    let push = after_push g.X.Named.name_of c.name-name.result s t es c.insert_reserved-key.result c.in-Some.item here.0
    (sym c.name-name.ensures) c.insert_reserved-key.ensures.was_vacant c.insert_reserved-key.ensures.updates
    c.insert_reserved-key.ensures.len in (
      rw c.push_reserved.ensures.items push.filled,
      ap (λ ys. items_at t ys ++ rest) c.push_reserved.ensures.items
          ∙ ap (λ xs. xs ++ rest) push.list
          ∙ append_assoc (items_at s es) (c.in-Some.item ∷ []) rest
          ∙ ap (λ ys. items_at s es ++ ys) (sym split)
          ∙ here.1,
      omega (arith, here.2),
      omega (arith, here.3),
    )
