use Rattle.std.proofs.Common.{◌≡◌, true, [], ◌∷◌, Some, None, rules}
use Rattle.departure.specs.Offers.{accepted, offered}
use Rattle.subcomputation.specs.Subs.{sub_in}
use Rattle.node_state.specs.Node.{hop_in}
use Rattle.node_steps.specs.Cases.{is_above}
use Rattle.node_steps.specs.Choosing.{own_candidate}
use Rattle.node_steps.specs.Meeting.{MeetsBehind, comes}
use Rattle.node_steps.specs.Moves.{acknowledges}
use Rattle.node_packets.proofs.Arriving.{fits_here, offer_taken, taken_by}
use Rattle.node_steps.proofs.Standing.{has_roster}
use Rattle.node_packets.proofs.Returning.{meets_behind}
use Rattle.node_packets.proofs.offers.member_offer.Goals as goal

pub accept-requires-clause-absent : goal.accept-requires-clause-absent
accept-requires-clause-absent c =
    let is : accepted c.args.node.now.job.program c.args.node.now.node.incarnation c.args.node.now.node.subs
    c.args.offer ≡ Some c.in-Some.sub = search rules in
    let taken = taken_by c.args.node.now.job.program c.args.node.now.node.incarnation c.args.node.now.node.subs
    c.args.offer c.in-Some.sub is in
    let absent : sub_in c.args.offer.grant c.args.node.now.node.subs ≡ None = search rules in
    rw taken.same absent

pub accept-requires-clause-here : goal.accept-requires-clause-here
accept-requires-clause-here c =
    let is : accepted c.args.node.now.job.program c.args.node.now.node.incarnation c.args.node.now.node.subs
    c.args.offer ≡ Some c.in-Some.sub = search rules in
    fits_here c.args.node.now.job.program c.args.node.now.node.incarnation c.args.node.now.node.subs c.args.offer
    c.in-Some.sub (taken_by c.args.node.now.job.program c.args.node.now.node.incarnation c.args.node.now.node.subs
    c.args.offer c.in-Some.sub is)

pub returns-in-Some : goal.returns-in-Some
returns-in-Some c =
    let is : accepted c.args.node.now.job.program c.args.node.now.node.incarnation c.args.node.now.node.subs
    c.args.offer ≡ Some c.in-Some.sub = search rules in
    let taken = taken_by c.args.node.now.job.program c.args.node.now.node.incarnation c.args.node.now.node.subs
    c.args.offer c.in-Some.sub is in
    let has = has_roster c.args.node.now.node.state c.requires.member in
    let above : is_above c.args.offer.hop (hop_in c.args.offer.grant c.args.node.now.node.seen) ≡ true = search rules in
    let absent : sub_in c.args.offer.grant c.args.node.now.node.subs ≡ None = search rules in
    let sent : c.in_ok-sent.sent ≡ acknowledges c.args.node.now.job c.args.offer c.args.node.now.node ∷ [] =
    search rules in
    let told : MeetsBehind (acknowledges c.args.node.now.job c.args.offer c.args.node.now.node ∷ [])
    (comes c.args.node.now.job has.roster c.in-Some.sub c.args.node.now.node) c.accept.result c.args.node.now
    c.accept.new.node = rw sent at (c.accept.ensures has.roster has.is) in
    rw (offer_taken c.args.node.now.job
    (own_candidate c.args.node.now.posts) c.args.offer c.args.node.now.node has.roster has.is above absent
    taken.fits)
    (meets_behind (acknowledges c.args.node.now.job c.args.offer c.args.node.now.node)
    (comes c.args.node.now.job has.roster (offered c.args.offer) c.args.node.now.node) c.accept.result
    c.args.node.now c.accept.new.node (rw taken.same at told))
