use Rattle.std.proofs.Common.{Some, ap, sym, ◌∙◌}
use Rattle.ids.specs.Named.{item_in}
use Rattle.subcomputation.specs.Subs.{name_of_sub, sub_in}
use Rattle.recovery.proofs.Standing.{name_of_settled, stands_at, stands_by}
use Rattle.recovery.proofs.plan.Draft.standing.Goals as goal

pub returns-in-Some-Stays : goal.returns-in-Some-Stays
returns-in-Some-Stays c =
    ap Some c.in-Some-Stays.sub-is
    ∙ sym (stands_at c.args.grant c.args.self.now.settled c.args.subs.now c.law_stand_in_order.ensures
    ∙ ap (λ o. stands_by o (sub_in c.args.grant c.args.subs.now))
    (ap (λ n. item_in name_of_settled n c.args.self.now.settled) (sym c.name_of.ensures)
    ∙ sym c.in-Some-Stays.ensures.same ∙ ap Some c.in-Some-Stays.field-0-is))

pub returns-in-Some-Goes : goal.returns-in-Some-Goes
returns-in-Some-Goes c =
    sym (stands_at c.args.grant c.args.self.now.settled c.args.subs.now c.law_stand_in_order.ensures
    ∙ ap (λ o. stands_by o (sub_in c.args.grant c.args.subs.now))
    (ap (λ n. item_in name_of_settled n c.args.self.now.settled) (sym c.name_of.ensures)
    ∙ sym c.in-Some-Goes.ensures.same ∙ ap Some c.in-Some-Goes.field-0-is))

pub returns-in-None : goal.returns-in-None
returns-in-None c =
    c.get-in-None.ensures.same ∙ ap (λ n. item_in name_of_sub n c.args.subs.now) c.name_of-in-None.ensures
    ∙ sym (stands_at c.args.grant c.args.self.now.settled c.args.subs.now c.law_stand_in_order.ensures
    ∙ ap (λ o. stands_by o (sub_in c.args.grant c.args.subs.now))
    (ap (λ n. item_in name_of_settled n c.args.self.now.settled) (sym c.name_of.ensures)
    ∙ sym c.in-None.ensures.same))
