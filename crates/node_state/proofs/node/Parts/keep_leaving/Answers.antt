use Rattle.std.proofs.Common.{ap}
use Rattle.node_state.specs.Parts.{IsLeaving, PartsOf}
use Rattle.node_state.proofs.Keeping.{kept_leaving, kept_leaving_view}
use Rattle.node_state.proofs.node.Parts.keep_leaving.Goals as goal

pub invariant_of-self : goal.invariant_of-self
invariant_of-self c =
    let leaving : IsLeaving c.self.inside.state =
    rw (← ap (λ (v : PartsOf). v.node.state) c.self.view_is) at c.requires in
    kept_leaving _ c.args.roster c.args.heir c.self.invariant leaving

pub returns : goal.returns
returns c = kept_leaving_view _ c.args.self.now c.args.roster c.args.heir c.self.view_is
    (rw (← c.self.view_is) c.self.invariant) c.requires
