use Rattle.std.proofs.Common.{◌≡◌, true, false, Option, sym, ap, ◌∙◌}
use Rattle.std.specs.Option.{is_some}
use Rattle.ids.specs.Named.{Name}
use Rattle.departure.proofs.LinkedLists.{copied_some}
use Rattle.departure.proofs.LinkedNames.{has}
use Rattle.departure.proofs.LinkedStores.{kept_next, kept_twice}
use Rattle.departure.proofs.accepting.kept.Goals as goal

pub returns-then-is_some : goal.returns-then-is_some
returns-then-is_some c =
    let there : has c.name.result c.loop-name.kept ≡ true =
    ap (λ (o : Option Name). is_some o) (sym c.get.ensures.same) ∙ copied_some c.get.result ∙ sym c.is_some.ensures
    ∙ c.if-is_some.true in
    kept_twice c.args.names.now c.loop-name.kept c.loop-name.name-index c.name.result c.name-item.result
    c.loop-name-test.true (c.name.ensures ∙ c.name-item.is) there c.loop-name.invariant

pub loop-name-preserved : goal.loop-name-preserved
loop-name-preserved c =
    let none : has c.name.result c.loop-name.kept ≡ false =
    ap (λ (o : Option Name). is_some o) (sym c.get.ensures.same) ∙ copied_some c.get.result ∙ sym c.is_some.ensures
    ∙ c.if-is_some.false in
    let new : has c.name-item.result c.loop-name.kept ≡ false =
    ap (λ (n : Name). has n c.loop-name.kept) (sym c.name.ensures) ∙ none in
    rw c.in_ok-put.ensures.ok (kept_next c.args.names.now c.loop-name.kept c.loop-name.name-index c.name-item.result
    c.name-item.result c.loop-name-test.true c.name-item.is new c.loop-name.invariant)
