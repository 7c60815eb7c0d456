use Rattle.std.proofs.Common.{◌≡◌, ◌∙◌, [], ◌∷◌, Some, sym, ap, rules}
use Rattle.ids.specs.Names.{Grant}
use Rattle.sub_rules.specs.Changes.{closed_in}
use Rattle.victim_records.specs.Records.{record_in}
use Rattle.subcomputation.specs.Subs.{host_in, sub_in}
use Rattle.subcomputation.specs.Told.{changed_by, changed_of, changed_of_some}
use Rattle.node_state.specs.Parts.{HasNoNewRecord}
use Rattle.node_steps.specs.Choosing.{own_candidate}
use Rattle.node_steps.specs.Meeting.{IsNode, MeetsAround, changes_of}
use Rattle.node_steps.specs.Moves.{save_of}
use Rattle.node_state.specs.declared.parts.State.TheVariants.{Member}
use Rattle.node_steps.proofs.Changing.{may_change}
use Rattle.node_packets.proofs.Returning.{ack_of, meets_around, result_known}
use Rattle.node_packets.proofs.outcomes.member_result.Goals as goal

pub change-requires : goal.change-requires
change-requires c =
    let host = c.in-Some.host.now in
    let held : sub_in host.grant c.args.node.now.node.subs ≡ Some host = search rules in
    let there : sub_in c.grant-held.result c.args.node.now.node.subs ≡ Some host =
    ap (λ (g : Grant). sub_in g c.args.node.now.node.subs) c.grant-held.ensures ∙ held in
    let none : HasNoNewRecord c.args.node.now.node host = search rules in
    let is : IsNode c.args.node.now = rw (← c.node.view_is) c.node.invariant in
    may_change c.args.node.now c.grant-held.result host c.in-Some-2.prepared c.requires there (sym c.grant-held.ensures)
    (rw c.in-Some-2.is at c.in_ok-prepared.ensures.may) (rw c.in-Some-2.is at c.in_ok-prepared.ensures.ready)
    (rw c.in-Some-2.is at c.in_ok-prepared.ensures.records) none
    (rw c.in-Some-2.is at (c.in_ok-prepared.ensures.fits c.args.node.now.job.program (is.fits host.grant host held)))

pub returns : goal.returns
returns c =
    let job = c.args.node.now.job in
    let node = c.args.node.now.node in
    let sub = c.in-Some.host.now in
    let record-of = c.in-Some-get.record.now in
    let roster = c.in-Member.roster in
    let changed = changed_of sub c.in-Some-2.prepared in
    let member : node.state ≡ Member roster = search rules in
    let host : host_in c.args.outcome.grant node.subs ≡ Some sub = search rules in
    let found : record_in c.args.outcome.grant sub.content.records ≡ Some record-of = search rules in
    let held : sub_in sub.grant node.subs ≡ Some sub = search rules in
    let there : sub_in c.grant-held.result node.subs ≡ Some sub =
    ap (λ (g : Grant). sub_in g node.subs) c.grant-held.ensures ∙ held in
    let is : Some changed ≡ changed_by sub
    (closed_in c.args.outcome.outcome sub.content (record_in c.args.outcome.grant sub.content.records)) =
    ap (changed_of_some sub) (sym c.in-Some-2.is) ∙ c.in_ok-prepared.ensures.change in
    let sent : c.in_ok-sent.sent ≡ ack_of job c.args.outcome ∷ [] = search rules in
    let last : c.in_ok-last.last ≡ save_of job node.incarnation roster record-of.task.place c.args.outcome.outcome =
    c.in_ok-last.ensures in
    let around : MeetsAround (ack_of job c.args.outcome ∷ [])
    (save_of job node.incarnation roster record-of.task.place c.args.outcome.outcome)
    (changes_of job changed node) c.change.result c.args.node.now c.change.new.self =
    rw (sent, last) at (c.change.ensures sub there) in
    rw (result_known job (own_candidate c.args.node.now.posts) roster c.args.outcome node sub record-of changed member
    host found is) (meets_around (ack_of job c.args.outcome)
    (save_of job node.incarnation roster record-of.task.place c.args.outcome.outcome)
    (changes_of job changed node) c.change.result c.args.node.now c.change.new.self around)
