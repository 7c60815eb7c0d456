use Rattle.std.proofs.Common.{◌≡◌, ◌∷◌, subst, sym, ◌∙◌}
use Rattle.std.specs.Map.Iter.{deref}
use Rattle.std.proofs.lemmas.Map.Iter.{rest_more}
use Rattle.recovery.proofs.Recording.{IsRecording, next_hosted, next_recorded, recording_all, recording_begins}
use Rattle.recovery.proofs.plan.settle_records.Goals as goal

pub loop-hosted-init : goal.loop-hosted-init
loop-hosted-init c =
    subst (λ xs. IsRecording c.args.roster.now.members.now c.args.subs.now c.args.draft.now c.args.hosts.now xs
    c.args.draft.now) (sym (c.into_iter-hosted-iterator.ensures.into_iter_gives ∙ c.values-hosted-items.ensures))
    (recording_begins c.args.roster.now.members.now c.args.subs.now c.args.draft.now c.args.hosts.now
    c.law_stand_in_order-2.ensures c.requires.held c.requires.hosts)

pub loop-hosted-preserved : goal.loop-hosted-preserved
loop-hosted-preserved c =
    let split : c.loop-hosted.hosted-iterator ≡ c.in-Some.hosted.now ∷ c.next.new.self =
    rest_more deref _ _ _ _ c.in-Some.is c.next.ensures.steps in
    let i : IsRecording c.args.roster.now.members.now c.args.subs.now c.args.draft.now c.args.hosts.now
    (c.in-Some.hosted.now ∷ c.next.new.self) c.loop-hosted.draft =
    subst (λ xs. IsRecording c.args.roster.now.members.now c.args.subs.now c.args.draft.now c.args.hosts.now xs
    c.loop-hosted.draft) split c.loop-hosted.invariant in
    next_recorded c.args.roster.now.members.now c.args.subs.now c.args.draft.now c.args.hosts.now c.in-Some.hosted.now
    c.next.new.self c.loop-hosted.draft c.settle_record.new.self c.law_stand_in_order.ensures i
    (c.in_ok-settle_record.ensures i.follows.held
    (next_hosted c.args.roster.now.members.now c.args.subs.now c.args.draft.now c.args.hosts.now
    c.in-Some.hosted.now c.next.new.self c.loop-hosted.draft i))

pub returns : goal.returns
returns c = recording_all c.args.roster.now.members.now c.args.subs.now c.args.draft.now c.args.hosts.now
    c.loop-hosted.hosted-iterator c.loop-hosted.draft c.in-None.ensures.steps.0 c.loop-hosted.invariant
