use Rattle.std.proofs.Common.{Some, ap, refl, sym, ◌∙◌}
use Rattle.recovery.proofs.Recording.{recorded_again, recorded_heir, recorded_none, recorded_same}
use Rattle.recovery.proofs.Workers.{not_apart}
use Rattle.recovery.proofs.plan.Draft.settle_record.Goals as goal

pub returns-in_default : goal.returns-in_default
returns-in_default c = recorded_none c.args.roster.now.members.now c.args.subs.now c.args.self.now c.args.self.now
    c.args.hosted.now c.law_stand_in_order.ensures c.law_stand_in_order-2.ensures c.in_default.ensures.holder refl

pub returns-in-None : goal.returns-in-None
returns-in-None c = recorded_again c.args.roster.now.members.now c.args.subs.now c.args.self.now c.redo.new.self
    c.args.hosted.now c.law_stand_in_order.ensures c.law_stand_in_order-2.ensures c.redo.result c.in-Some.holder
    c.in-Some.ensures.holder (sym c.in-None.ensures) c.redo.ensures

pub returns-in-Some-holder : goal.returns-in-Some-holder
returns-in-Some-holder c = recorded_heir c.args.roster.now.members.now c.args.subs.now c.args.self.now
    c.rename_holder.new.self c.args.hosted.now c.law_stand_in_order.ensures c.law_stand_in_order-2.ensures
    c.rename_holder.result c.in-Some.holder c.in-Some-holder.heir c.in-Some.ensures.holder
    (sym c.in-Some-holder.ensures) c.rename_holder.ensures

pub returns-in-Some-2 : goal.returns-in-Some-2
returns-in-Some-2 c =
    recorded_same c.args.roster.now.members.now c.args.subs.now c.args.self.now c.args.self.now c.args.hosted.now
    c.law_stand_in_order.ensures c.law_stand_in_order-2.ensures c.in-Some.holder c.in-Some.ensures.holder
    c.in-Some.ensures.order
    (sym c.in-Some-holder.ensures ∙ ap Some (not_apart c.in-Some-holder.heir c.in-Some.holder c.if-ne.ensures)) refl
