use Rattle.std.proofs.Common.{rules}
use Rattle.std.proofs.lemmas.List.Sorted.{answers_always}
use Rattle.heirs.proofs.Looking.{below, order_told}
use Rattle.heirs.proofs.bearers.following.are_rising.Goals as goal

pub returns : goal.returns
returns c = order_told c.args.members.now c.is_sorted_by.result
    (c.is_sorted_by.ensures.cases below (answers_always _ _ _ (λ f a r g called. search rules)))
