use Rattle.std.proofs.Common.{ap, ◌∙◌}
use Rattle.node_state.specs.Node.{put_confirmed}
use Rattle.node_state.specs.Parts.{PartsOf}
use Rattle.node_state.proofs.Keeping.{confirmed_view}
use Rattle.node_state.proofs.node.Parts.confirm.Goals as goal

pub returns-clause-ok : goal.returns-clause-ok
returns-clause-ok c =
    confirmed_view _ c.args.self.now c.put.new.self
    (put_confirmed c.args.confirmed c.args.self.now.node.confirmed) c.self.view_is
    (c.in_ok-put.ensures.ok ∙ ap (λ (v : PartsOf). put_confirmed c.args.confirmed v.node.confirmed) c.self.view_is)
    (rw (← c.self.view_is) c.self.invariant)
