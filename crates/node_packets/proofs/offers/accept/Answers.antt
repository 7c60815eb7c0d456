use Rattle.std.proofs.Common.{◌≡◌, false, [], ◌∷◌, ◌++◌, map, ◌∙◌, refl, ap, rules}
use Rattle.recovery.specs.Plans.{stop_of}
use Rattle.recovery.specs.Told.{AreForeign, all_in, those}
use Rattle.subcomputation.specs.Fitting.{Fits}
use Rattle.subcomputation.specs.Recovering.{recovered}
use Rattle.subcomputation.specs.Subs.{ready_frames}
use Rattle.node_state.specs.Parts.{IsMember, ready_of, with_posts}
use Rattle.node_steps.specs.Moves.{stops}
use Rattle.node_packets.proofs.Arriving.{Beside, came_to, came_view, fits_if, sent_of}
use Rattle.node_steps.proofs.Keeping.{FitsIf, came}
use Rattle.node_packets.proofs.offers.accept.Goals as goal

pub invariant_of-node-2 : goal.invariant_of-node-2
invariant_of-node-2 c =
    let member : IsMember c.node.inside.parts.node.state = search rules in
    let program : Fits c.node.inside.job.now.program c.args.sub.content = search rules in
    let fits : FitsIf c.node.inside.job.now.program c.in_ok-alone.alone.after =
    fits_if c.node.inside.job.now.program c.in_ok-alone.alone.after
    (c.in_ok-alone.ensures.fits c.node.inside.job.now.program program) in
    rw c.in_ok-accept.ensures.ok (came c.node.inside.job.now c.node.inside.parts.node _ c.in_ok-alone.alone.after
    c.node.inside.parts.posts _ c.node.invariant member refl refl refl fits)

pub returns : goal.returns
returns c = λ r at.
    let law : Beside = c.recovery_alone_is_recovery_beside.ensures in
    let foreign : AreForeign c.args.sub.content.records c.args.node.now.node.subs = search rules in
    let left : those c.in_ok-alone.alone.after ≡ (recovered r.members (c.args.sub.grant ∷ []) (c.args.sub ∷ [])).subs =
    search rules in
    let stopped : c.in_ok-alone.alone.stopped
    ≡ map stop_of (recovered r.members (c.args.sub.grant ∷ []) (c.args.sub ∷ [])).stopped = search rules in
    let ready : all_in c.args.sub.grant c.in_ok-alone.alone.ready
    ≡ ready_frames c.args.sub ++ (recovered r.members (c.args.sub.grant ∷ []) (c.args.sub ∷ [])).again =
    search rules in
    let sent : c.send_stops.new.sent ≡ c.args.before ++ map (stops c.args.node.now.job) c.in_ok-alone.alone.stopped =
    search rules in
    let ok : c.accept.new.self ≡ with_posts (came_to c.args.sub c.in_ok-alone.alone.after c.node.inside.parts.node)
    (ready_of c.args.sub.grant c.in_ok-alone.alone.ready) c.node.inside.parts.posts = search rules in (
      c.sends.ensures ∙ ap (λ bytes. record { sent = bytes; fills = []; ignored = false }) (sent
          ∙ ap (λ bytes. c.args.before ++ bytes)
          (sent_of r c.args.sub c.in_ok-alone.alone.after c.in_ok-alone.alone.ready c.args.node.now.job
          c.args.node.now.node c.in_ok-alone.alone.stopped law c.requires.absent foreign stopped)),
      came_view r c.args.sub c.in_ok-alone.alone.after c.in_ok-alone.alone.ready _ c.args.node.now c.accept.new.self law
          c.node.view_is ok c.requires.absent foreign left ready,
    )
