use Rattle.std.proofs.Common.{◌≡◌, ◌<◌, ◌≤◌, ◌+◌, ◌-◌, ℕ, true, false, Option, length, drop, sym, ap, subst, ◌∙◌, arith}
use Rattle.std.proofs.lemmas.List.{drop_all}
use Rattle.std.specs.Option.{is_some}
use Rattle.ids.specs.Named.{Name}
use Rattle.departure.specs.Links.{AreTaken, same_name, times}
use Rattle.departure.proofs.LinkedNames.{has}
use Rattle.departure.proofs.LinkedStores.{taken_more, taken_next}
use Rattle.departure.proofs.accepting.take_each.Goals as goal

behind : (left : ℕ) → 0 < left → left ≡ (left - 1) + 1
behind left some = omega arith

within : (left n : ℕ) → 0 < left → left ≤ n → left - 1 < n
within left n some few = omega arith

pub loop-left-init : goal.loop-left-init
loop-left-init c =
    let names = c.args.names.now in (
      omega arith,
      λ n. let none : times same_name n (drop (length names) names) ≡ 0 =
          ap (times same_name n) (drop_all (length names) names (omega arith)) in omega (arith, none),
    )

pub returns-then-is_none : goal.returns-then-is_none
returns-then-is_none c =
    let some = c.loop-left-test.true in
    let before : AreTaken (drop ((c.loop-left.left - 1) + 1) c.args.names.now) c.args.rest.now c.loop-left.rest =
    subst (λ (k : ℕ). AreTaken (drop k c.args.names.now) c.args.rest.now c.loop-left.rest)
    (behind c.loop-left.left some) c.loop-left.invariant.1 in
    let none : has c.name.result c.loop-left.rest ≡ false =
    ap (λ (o : Option Name). is_some o) (sym c.take.ensures.same) ∙ c.if-is_none.ensures in
    taken_more c.args.names.now c.args.rest.now c.loop-left.rest
    (c.loop-left.left - 1) c.name.result c.index-names-left.result
    (within c.loop-left.left _ some c.loop-left.invariant.0) (c.name.ensures ∙ c.index-names-left.is) none before

pub loop-left-preserved : goal.loop-left-preserved
loop-left-preserved c =
    let some = c.loop-left-test.true in
    let before : AreTaken (drop ((c.loop-left.left - 1) + 1) c.args.names.now) c.args.rest.now c.loop-left.rest =
    subst (λ (k : ℕ). AreTaken (drop k c.args.names.now) c.args.rest.now c.loop-left.rest)
    (behind c.loop-left.left some) c.loop-left.invariant.1 in
    let there : has c.name.result c.loop-left.rest ≡ true =
    ap (λ (o : Option Name). is_some o) (sym c.take.ensures.same) ∙ c.if-is_none.ensures in
    let less = within c.loop-left.left _ some c.loop-left.invariant.0 in (
      omega (arith, less),
      rw c.take.ensures.gone
          (taken_next c.args.names.now c.args.rest.now c.loop-left.rest
          (c.loop-left.left - 1) c.name.result c.index-names-left.result less (c.name.ensures
          ∙ c.index-names-left.is) c.law_stand_in_order.ensures there before),
    )

pub returns : goal.returns
returns c =
    let none : c.loop-left.left ≡ 0 = omega (arith, c.loop-left-test.false) in
    subst (λ (k : ℕ). AreTaken (drop k c.args.names.now) c.args.rest.now c.loop-left.rest) none c.loop-left.invariant.1
