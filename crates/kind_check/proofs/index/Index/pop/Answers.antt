use Rattle.std.proofs.Common.{arith}
use Rattle.kind_check.proofs.FirstPlaces.{first_gone, later_gone, is_last, isnt_last}
use Rattle.kind_check.proofs.index.Index.pop.Goals as goal
use Rattle.kind_check.proofs.index.Index.pop.Goals.{in-Some-get, in-None}

pub invariant_of-self-then-is_first : goal.invariant_of-self-then-is_first
invariant_of-self-then-is_first c = first_gone _ _ _ _ c.in-Some.name c.self.invariant c.in-Some.ensures.items
    (elim c.match-get.branch [
      | in-Some-get w ↦ is_last _ w.in-Some-get.first.now c.len-place.result _ c.match-get.is_first
          w.in-Some-get.ensures.value w.is_first-is c.if-is_first.true (omega arith)
      | in-None w ↦ absurd (cc (w.is_first-is, c.if-is_first.true))
    ])
    c.remove.ensures.updates.0

pub invariant_of-self-else-is_first : goal.invariant_of-self-else-is_first
invariant_of-self-else-is_first c = later_gone _ _ _ c.in-Some.name c.self.invariant c.in-Some.ensures.items
    (elim c.match-get.branch [
      | in-Some-get w ↦ isnt_last _ w.in-Some-get.first.now c.len-place.result _ c.match-get.is_first
          w.in-Some-get.ensures.value w.is_first-is c.if-is_first.false (omega arith)
      | in-None w ↦ λ h. cc w.in-None.ensures.value
    ])
