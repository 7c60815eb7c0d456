use Rattle.std.proofs.Common.{Err, ap, sym, ◌∙◌}
use Rattle.departure.proofs.OfferingLists.{movable}
use Rattle.departure.proofs.OfferingRefusals.{has_no_heir, is_big, is_pending, is_spent, may_go, may_lack_memory}
use Rattle.departure.proofs.freezing.Move.freeze_all.Goals as goal

pub returns-then-is_pending-clause-answer : goal.returns-then-is_pending-clause-answer
returns-then-is_pending-clause-answer c =
    is_pending c.args.self.now c.args.members.now c.args.subs.now c.args.is_pending c.if-is_pending.true

pub returns-then-lacks_heir-clause-answer : goal.returns-then-lacks_heir-clause-answer
returns-then-lacks_heir-clause-answer c =
    has_no_heir c.args.self.now c.args.members.now c.args.subs.now c.args.is_pending c.if-is_pending.false
    (sym c.lacks_heir.ensures ∙ c.if-lacks_heir.true)

pub returns-then-has_last_hop-clause-answer : goal.returns-then-has_last_hop-clause-answer
returns-then-has_last_hop-clause-answer c =
    is_spent c.args.self.now c.args.members.now c.args.subs.now c.args.is_pending c.if-is_pending.false
    (sym c.lacks_heir.ensures ∙ c.if-lacks_heir.false) (sym c.has_last_hop.ensures ∙ c.if-has_last_hop.true)

pub returns-in-Ok-clause-answer : goal.returns-in-Ok-clause-answer
returns-in-Ok-clause-answer c = (
  may_go c.args.self.now c.args.members.now c.args.subs.now c.args.is_pending c.if-is_pending.false
      (sym c.lacks_heir.ensures ∙ c.if-lacks_heir.false) (sym c.has_last_hop.ensures
      ∙ c.if-has_last_hop.false) c.in-Ok.ensures.small,
  c.in-Ok.ensures.ok,
)

pub returns-in-Ok-clause-movable : goal.returns-in-Ok-clause-movable
returns-in-Ok-clause-movable c = movable c.args.self.now c.args.subs.now (sym c.has_last_hop.ensures
    ∙ c.if-has_last_hop.false) c.in-Ok.ensures.small

pub returns-in-Err-TooBig-clause-answer : goal.returns-in-Err-TooBig-clause-answer
returns-in-Err-TooBig-clause-answer c =
    is_big c.args.self.now c.args.members.now c.args.subs.now c.args.is_pending c.if-is_pending.false
    (sym c.lacks_heir.ensures ∙ c.if-lacks_heir.false) (sym c.has_last_hop.ensures
    ∙ c.if-has_last_hop.false) (c.in-Err-TooBig.ensures.big (ap Err c.in-Err-TooBig.field-0-is))

pub returns-in-Err-Memory-clause-answer : goal.returns-in-Err-Memory-clause-answer
returns-in-Err-Memory-clause-answer c =
    may_lack_memory c.args.self.now c.args.members.now c.args.subs.now c.args.is_pending c.if-is_pending.false
    (sym c.lacks_heir.ensures ∙ c.if-lacks_heir.false) (sym c.has_last_hop.ensures ∙ c.if-has_last_hop.false)
