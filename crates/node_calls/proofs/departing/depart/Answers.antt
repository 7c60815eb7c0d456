use Rattle.std.proofs.Common.{◌≡◌, false, nat_eq, rules}
use Rattle.departure.specs.Freezing.{AreMovable}
use Rattle.node_state.specs.Node.{NodeOf}
use Rattle.node_state.specs.Parts.{IsMember}
use Rattle.node_steps.specs.Moves.{move_to}
use Rattle.node_steps.proofs.Standing.{has_roster}
use Rattle.node_calls.proofs.departing.depart.Goals as goal

pub invariant_of-node : goal.invariant_of-node
invariant_of-node c =
    let old : NodeOf = c.node.inside.parts.node in
    let member : IsMember old.state = search rules in
    let has = has_roster old.state member in
    let other : nat_eq c.args.heir old.incarnation ≡ false = search rules in
    let movable : AreMovable (move_to c.node.inside.job.now c.args.heir old) old.subs = search rules in
    rw (c.leave.ensures has.roster has.is)
    (record {
      leaving = record { other = other; movable = movable };
      short = c.node.invariant.short;
      fits = c.node.invariant.fits;
      rising = rw has.is at c.node.invariant.rising;
    })
