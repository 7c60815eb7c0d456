use Rattle.node_state.proofs.Keeping.{ended_fields, ended_view}
use Rattle.node_state.proofs.node.Parts.end.Goals as goal

pub invariant_of-self : goal.invariant_of-self
invariant_of-self c = rw c.new.ensures
    (rw c.clear.ensures (rw c.new-2.ensures
    (rw c.new-3.ensures (rw c.new-4.ensures
    (rw c.new-5.ensures (rw c.new-6.ensures
    (ended_fields c.self.inside.incarnation c.self.inside.minted c.self.inside.asker)))))))

pub returns : goal.returns
returns c = rw c.new.ensures (rw c.clear.ensures
    (rw c.new-2.ensures (rw c.new-3.ensures
    (rw c.new-4.ensures (rw c.new-5.ensures (rw c.new-6.ensures (ended_view _ c.args.self.now c.self.view_is)))))))
