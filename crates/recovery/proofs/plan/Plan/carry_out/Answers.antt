use Rattle.std.proofs.Common.{◌≡◌, ◌∷◌, ◌+◌, drop, ap, subst, sym, ◌∙◌}
use Rattle.std.proofs.lemmas.List.{drop_all}
use Rattle.ids.specs.Named.{item_in, without_in}
use Rattle.recovery.specs.Plans.{carried_out}
use Rattle.recovery.proofs.Carrying.{IsCarrying, carried_next, carries_all, kept_next, next_of, nothing_next}
use Rattle.recovery.proofs.Standing.{name_of_settled}
use Rattle.recovery.proofs.plan.Plan.carry_out.Goals as goal
use Rattle.recovery.proofs.plan.Plan.carry_out.Goals.{in-Some, in_default}

pub carry-requires : goal.carry-requires
carry-requires c =
    let i : IsCarrying (c.grant-item.result ∷ drop (c.loop-grant.grant-index + 1) c.as_slice-grant-items.result.now)
    c.loop-grant.settled c.loop-grant.subs (carried_out c.args.self.settled c.args.subs.now) =
    subst (λ gs. IsCarrying gs c.loop-grant.settled c.loop-grant.subs
    (carried_out c.args.self.settled c.args.subs.now))
    (next_of c.as_slice-grant-items.result.now c.loop-grant.grant-index c.grant-item.result c.loop-grant-test.true
    c.grant-item.is) c.loop-grant.invariant in
    kept_next c.grant-item.result (drop (c.loop-grant.grant-index + 1) c.as_slice-grant-items.result.now)
    c.loop-grant.settled c.loop-grant.subs (carried_out c.args.self.settled c.args.subs.now) c.in-Some.next i
    (ap (λ n. item_in name_of_settled n c.loop-grant.settled) (sym c.name_of.ensures) ∙ sym c.in-Some.ensures.same)

pub loop-grant-preserved : goal.loop-grant-preserved
loop-grant-preserved c =
    let i : IsCarrying (c.grant-item.result ∷ drop (c.loop-grant.grant-index + 1) c.as_slice-grant-items.result.now)
    c.loop-grant.settled c.loop-grant.subs (carried_out c.args.self.settled c.args.subs.now) =
    subst (λ gs. IsCarrying gs c.loop-grant.settled c.loop-grant.subs
    (carried_out c.args.self.settled c.args.subs.now))
    (next_of c.as_slice-grant-items.result.now c.loop-grant.grant-index c.grant-item.result c.loop-grant-test.true
    c.grant-item.is) c.loop-grant.invariant in
    elim c.match-take.branch [
      | in-Some w ↦
          carried_next c.grant-item.result (drop (c.loop-grant.grant-index + 1) c.as_slice-grant-items.result.now)
          c.loop-grant.settled c.take.new.self c.loop-grant.subs c.match-take.subs
          (carried_out c.args.self.settled c.args.subs.now) w.in-Some.next i
          (ap (λ n. item_in name_of_settled n c.loop-grant.settled) (sym c.name_of.ensures)
          ∙ sym w.in-Some.ensures.same)
          (c.take.ensures.gone ∙ ap (λ n. without_in name_of_settled n c.loop-grant.settled) c.name_of.ensures)
          (w.subs-is ∙ w.carry.ensures)
      | in_default w ↦ nothing_next c.grant-item.result
          (drop (c.loop-grant.grant-index + 1) c.as_slice-grant-items.result.now) c.loop-grant.settled c.loop-grant.subs
          (carried_out c.args.self.settled c.args.subs.now) i
          (ap (λ n. item_in name_of_settled n c.loop-grant.settled) (sym c.name_of.ensures) ∙ sym c.take.ensures.same
          ∙ w.in_default.is)
    ]

pub returns : goal.returns
returns c =
    carries_all (drop c.loop-grant.grant-index c.as_slice-grant-items.result.now) c.loop-grant.settled c.loop-grant.subs
    (carried_out c.args.self.settled c.args.subs.now)
    (drop_all c.loop-grant.grant-index c.as_slice-grant-items.result.now c.loop-grant-test.false) c.loop-grant.invariant
