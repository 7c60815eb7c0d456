use Rattle.std.proofs.Common.{◌≡◌, ◌∷◌, Some, ap, subst, sym, ◌∙◌, refl}
use Rattle.std.specs.Map.Iter.{deref}
use Rattle.std.proofs.lemmas.Map.Iter.{rest_more}
use Rattle.ids.specs.Members.{resolve}
use Rattle.recovery.proofs.Settling.{IsSettling, settling_all, settling_goes, settling_none, settling_stays, settling_waits}
use Rattle.recovery.proofs.Workers.{not_apart}
use Rattle.recovery.proofs.plan.settle_subs.Goals as goal

pub loop-sub-init : goal.loop-sub-init
loop-sub-init c =
    settling_none c.args.roster.now.members.now c.args.subs.now c.into_iter-sub-iterator.result
    (record { settled = c.new.result; stopped = c.new-2.result; again = c.new-3.result })
    (c.into_iter-sub-iterator.ensures.into_iter_gives
    ∙ c.values-sub-items.ensures) c.law_stand_in_order.ensures c.new.ensures c.new-2.ensures c.new-3.ensures

pub loop-sub-preserved-in-Continue-1 : goal.loop-sub-preserved-in-Continue-1
loop-sub-preserved-in-Continue-1 c =
    let split : c.loop-sub.sub-iterator ≡ c.in-Some.sub.now ∷ c.next.new.self =
    rest_more deref _ _ _ _ c.in-Some.is c.next.ensures.steps in
    let i : IsSettling c.args.roster.now.members.now c.args.subs.now
    (c.in-Some.sub.now ∷ c.next.new.self) c.loop-sub.draft =
    subst (λ xs. IsSettling c.args.roster.now.members.now c.args.subs.now xs c.loop-sub.draft) split
    c.loop-sub.invariant in
    settling_goes c.args.roster.now.members.now c.args.subs.now c.in-Some.sub.now c.next.new.self c.loop-sub.draft
    c.drop_sub.new.self i
    (ap (λ x. resolve c.args.roster.now.members.now x.parent) (sym c.content.ensures.same) ∙ sym c.in-None-host.ensures)
    c.in_ok-drop_sub-in-None-host.ensures.settled c.in_ok-drop_sub-in-None-host.ensures.stopped
    c.in_ok-drop_sub-in-None-host.ensures.again

pub loop-sub-preserved-then-ne : goal.loop-sub-preserved-then-ne
loop-sub-preserved-then-ne c =
    let split : c.loop-sub.sub-iterator ≡ c.in-Some.sub.now ∷ c.next.new.self =
    rest_more deref _ _ _ _ c.in-Some.is c.next.ensures.steps in
    let i : IsSettling c.args.roster.now.members.now c.args.subs.now
    (c.in-Some.sub.now ∷ c.next.new.self) c.loop-sub.draft =
    subst (λ xs. IsSettling c.args.roster.now.members.now c.args.subs.now xs c.loop-sub.draft) split
    c.loop-sub.invariant in
    settling_waits c.args.roster.now.members.now c.args.subs.now c.in-Some.sub.now c.next.new.self c.loop-sub.draft
    c.rename_host.new.self i c.in-Some-host.host
    (ap (λ x. resolve c.args.roster.now.members.now x.parent) (sym c.content.ensures.same) ∙ sym c.in-Some-host.ensures)
    c.in_ok-rename_host-in-Some-host.ensures.settled c.in_ok-rename_host-in-Some-host.ensures.stopped
    c.in_ok-rename_host-in-Some-host.ensures.again

pub loop-sub-preserved : goal.loop-sub-preserved
loop-sub-preserved c =
    let split : c.loop-sub.sub-iterator ≡ c.in-Some.sub.now ∷ c.next.new.self =
    rest_more deref _ _ _ _ c.in-Some.is c.next.ensures.steps in
    let i : IsSettling c.args.roster.now.members.now c.args.subs.now
    (c.in-Some.sub.now ∷ c.next.new.self) c.loop-sub.draft =
    subst (λ xs. IsSettling c.args.roster.now.members.now c.args.subs.now xs c.loop-sub.draft) split
    c.loop-sub.invariant in
    settling_stays c.args.roster.now.members.now c.args.subs.now c.in-Some.sub.now c.next.new.self c.loop-sub.draft
    c.loop-sub.draft i
    (ap (λ x. resolve c.args.roster.now.members.now x.parent) (sym c.content.ensures.same) ∙ sym c.in-Some-host.ensures
    ∙ ap Some (not_apart c.in-Some-host.host c.content.result.now.parent c.if-ne.ensures)
    ∙ ap (λ x. Some x.parent) c.content.ensures.same)
    refl

pub returns : goal.returns
returns c = settling_all c.args.roster.now.members.now c.args.subs.now c.loop-sub.sub-iterator c.loop-sub.draft
    c.in-None.ensures.steps.0 c.loop-sub.invariant
