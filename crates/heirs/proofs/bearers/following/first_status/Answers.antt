use Rattle.std.proofs.Common.{sym, ◌∙◌}
use Rattle.heirs.proofs.Looking.{said_at, said_behind, said_nowhere}
use Rattle.heirs.proofs.bearers.following.first_status.Goals as goal

pub loop-member-preserved : goal.loop-member-preserved
loop-member-preserved c =
    said_behind c.args.worker c.args.members.now c.loop-member.member-index c.loop-member.invariant c.member-item.result
    c.loop-member-test.true c.member-item.is
    (λ same. c.if-word.false (c.word.ensures.same ∙ same ∙ sym c.word-in-loop-member.ensures.same))

pub returns-then-word : goal.returns-then-word
returns-then-word c =
    said_at c.args.worker c.args.members.now c.loop-member.member-index c.loop-member.invariant c.member-item.result
    c.loop-member-test.true c.member-item.is
    (sym c.word.ensures.same ∙ c.if-word.true ∙ c.word-in-loop-member.ensures.same)

pub returns : goal.returns
returns c = said_nowhere c.args.worker c.args.members.now c.loop-member.member-index c.loop-member.invariant
    c.loop-member-test.false
