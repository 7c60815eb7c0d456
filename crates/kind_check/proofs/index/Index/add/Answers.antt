use Rattle.std.proofs.Common.{sym, arith}
use Rattle.kind_check.proofs.FirstPlaces.{known_added, new_added}
use Rattle.kind_check.proofs.index.Index.add.Goals as goal

pub invariant_of-self-then-is_known : goal.invariant_of-self-then-is_known
invariant_of-self-then-is_known c = known_added _ _ _ c.args.name c.self.invariant c.in_ok-push.ensures.items
    (sym c.if-is_known.ensures)

pub invariant_of-self-in-Ok : goal.invariant_of-self-in-Ok
invariant_of-self-in-Ok c = new_added _ _ _ _ c.args.name c.len-place.result c.self.invariant c.in_ok-push.ensures.items
    (sym c.if-is_known.ensures) (omega arith) c.in-Ok.ensures.updates.0
