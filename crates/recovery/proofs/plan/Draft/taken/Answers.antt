use Rattle.std.proofs.Common.{◌≡◌, Some, IfOk, ap, subst, sym, ◌∙◌}
use Rattle.ids.specs.Named.{item_in}
use Rattle.subcomputation.specs.Subs.{name_of_sub, sub_in}
use Rattle.recovery.proofs.Standing.{name_of_settled, stands_at, stands_by}
use Rattle.recovery.proofs.plan.Draft.taken.Goals as goal

pub returns-in-Some-Stays-clause-sub : goal.returns-in-Some-Stays-clause-sub
returns-in-Some-Stays-clause-sub c =
    ap Some c.in-Some-Stays.sub-is
    ∙ sym (stands_at c.args.grant c.args.self.now.settled c.args.subs.now c.law_stand_in_order.ensures
    ∙ ap (λ o. stands_by o (sub_in c.args.grant c.args.subs.now))
    (ap (λ n. item_in name_of_settled n c.args.self.now.settled) (sym c.name_of.ensures)
    ∙ sym c.in-Some-Stays.ensures.same ∙ ap Some c.in-Some-Stays.field-0-is))

pub returns-in-Some-Goes-clause-sub : goal.returns-in-Some-Goes-clause-sub
returns-in-Some-Goes-clause-sub c =
    sym (stands_at c.args.grant c.args.self.now.settled c.args.subs.now c.law_stand_in_order.ensures
    ∙ ap (λ o. stands_by o (sub_in c.args.grant c.args.subs.now))
    (ap (λ n. item_in name_of_settled n c.args.self.now.settled) (sym c.name_of.ensures)
    ∙ sym c.in-Some-Goes.ensures.same ∙ ap Some c.in-Some-Goes.field-0-is))

pub returns-in-None-clause-sub : goal.returns-in-None-clause-sub
returns-in-None-clause-sub c =
    subst (λ p. IfOk c.copy_of.result (λ o. o ≡ p))
    (sym (stands_at c.args.grant c.args.self.now.settled c.args.subs.now c.law_stand_in_order.ensures
    ∙ ap (λ o. stands_by o (sub_in c.args.grant c.args.subs.now))
    (ap (λ n. item_in name_of_settled n c.args.self.now.settled) (sym c.name_of.ensures)
    ∙ sym c.in-None.ensures.same)))
    c.copy_of.ensures
