use Rattle.node_state.proofs.Keeping.{starting_parts}
use Rattle.node_state.proofs.node.Parts.new.Goals as goal

pub invariant_of-result : goal.invariant_of-result
invariant_of-result c = rw c.new.ensures
    (rw c.new-2.ensures (rw c.new-3.ensures
    (rw c.new-4.ensures (rw c.new-5.ensures
    (rw c.new-6.ensures (rw c.new-7.ensures (starting_parts c.args.incarnation)))))))
