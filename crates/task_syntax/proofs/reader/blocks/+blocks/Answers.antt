-- A block's end, and the block.
use Rattle.std.proofs.Common.{◌-◌, arith}
use Rattle.std.proofs.lemmas.Result.{IfOk-weaker}
use Rattle.task_syntax.specs.Parts.{branches, sends, continues}
use Rattle.task_syntax.specs.Meeting.{block_part, branches_part, end_part, here, behind, both, valued, one, other, in_one, in_other}
use Rattle.task_syntax.proofs.Meeting.{failed, met_more, lacks_stands, begins_offset, block_meets, block_reads_parts, block_no_brace, block_too_deep}
use Rattle.task_syntax.proofs.Reading.{begins_at, block_reads}
use Rattle.task_syntax.proofs.reader.blocks.+blocks.Goals as goal

pub block-returns-clause-read : goal.block-returns-clause-read
block-returns-clause-read t c =
    block_reads (omega arith) c.in_ok-inside.ensures.ok c.in_ok-lets.ensures.read c.in_ok-end.ensures.read
    c.in_ok-close.ensures.ok

pub block-returns-clause-parts : goal.block-returns-clause-parts
block-returns-clause-parts t c =
    block_reads_parts _ _ (omega arith)
    (both c.in_ok-inside.ensures.ok (both c.in_ok-lets.ensures.parts
    (both c.in_ok-end.ensures.parts (begins_at c.in_ok-close.ensures.ok))))

pub block-returns-in_err-inside-clause-met : goal.block-returns-in_err-inside-clause-met
block-returns-in_err-inside-clause-met t c =
    failed _ _ _ c.from_residual.ensures.1 (λ m. block_no_brace _ c.in_err-inside.ensures.err)

pub block-returns-then-deep-eq0-clause-met : goal.block-returns-then-deep-eq0-clause-met
block-returns-then-deep-eq0-clause-met t c =
    λ m. rw c.offset.ensures (block_too_deep _ (omega arith) (begins_offset c.in_ok-inside.ensures.ok))

pub block-returns-in_err-lets-clause-met : goal.block-returns-in_err-lets-clause-met
block-returns-in_err-lets-clause-met t c =
    failed _ _ _ c.from_residual-in_err-lets.ensures.1
    (λ m. block_meets _ (c.args.deep - 1) (omega arith)
    (behind c.in_ok-inside.ensures.ok (here (c.in_err-lets.ensures.met m))))

pub block-returns-in_err-end-clause-met : goal.block-returns-in_err-end-clause-met
block-returns-in_err-end-clause-met t c =
    failed _ _ _ c.from_residual-in_err-end.ensures.1
    (λ m. block_meets _ _ (omega arith)
    (behind c.in_ok-inside.ensures.ok (behind c.in_ok-lets.ensures.parts (here (c.in_err-end.ensures.met m)))))

pub block-returns-in_err-close-clause-met : goal.block-returns-in_err-close-clause-met
block-returns-in_err-close-clause-met t c =
    failed _ _ _ c.from_residual-in_err-close.ensures.1
    (λ m. block_meets _ _ (omega arith)
    (behind c.in_ok-inside.ensures.ok (behind c.in_ok-lets.ensures.parts
    (behind c.in_ok-end.ensures.parts c.in_err-close.ensures.err))))

pub branches-returns-clause-read : goal.branches-returns-clause-read
branches-returns-clause-read t c =
    branches c.in_ok-rest.ensures.ok c.in_ok-condition.ensures.read
    (rw (← c.in_ok-new.ensures.ok) at c.in_ok-yes.ensures.read) c.in_ok-rest-2.ensures.ok
    (rw (← c.in_ok-new-2.ensures.ok) at c.in_ok-no.ensures.read)

pub branches-returns-in_err-rest-clause-met : goal.branches-returns-in_err-rest-clause-met
branches-returns-in_err-rest-clause-met t c =
    failed _ _ _ c.from_residual.ensures.1 (λ m. here c.in_err-rest.ensures.err)

pub branches-returns-in_err-condition-clause-met : goal.branches-returns-in_err-condition-clause-met
branches-returns-in_err-condition-clause-met t c =
    failed _ _ _ c.from_residual-in_err-condition.ensures.1
    (λ m. behind c.in_ok-rest.ensures.ok (here (c.in_err-condition.ensures.met m)))

pub branches-returns-in_err-yes-clause-met : goal.branches-returns-in_err-yes-clause-met
branches-returns-in_err-yes-clause-met t c =
    failed _ _ _ c.from_residual-in_err-yes.ensures.1
    (λ m. behind c.in_ok-rest.ensures.ok
    (behind (valued c.in_ok-condition.ensures.read c.in_ok-condition.ensures.stops)
    (here (c.in_err-yes.ensures.met m))))

pub branches-returns-in_err-rest-2-clause-met : goal.branches-returns-in_err-rest-2-clause-met
branches-returns-in_err-rest-2-clause-met t c =
    failed _ _ _ c.from_residual-in_err-rest-2.ensures.1
    (λ m. behind c.in_ok-rest.ensures.ok
    (behind (valued c.in_ok-condition.ensures.read c.in_ok-condition.ensures.stops)
    (behind c.in_ok-yes.ensures.parts (here c.in_err-rest-2.ensures.err))))

pub branches-returns-in_err-no-clause-met : goal.branches-returns-in_err-no-clause-met
branches-returns-in_err-no-clause-met t c =
    failed _ _ _ c.from_residual-in_err-no.ensures.1
    (λ m. behind c.in_ok-rest.ensures.ok
    (behind (valued c.in_ok-condition.ensures.read c.in_ok-condition.ensures.stops)
    (behind c.in_ok-yes.ensures.parts (behind c.in_ok-rest-2.ensures.ok (c.in_err-no.ensures.met m)))))

pub branches-returns-clause-parts : goal.branches-returns-clause-parts
branches-returns-clause-parts t c = both c.in_ok-rest.ensures.ok
    (both (valued c.in_ok-condition.ensures.read c.in_ok-condition.ensures.stops)
    (both c.in_ok-yes.ensures.parts (both c.in_ok-rest-2.ensures.ok c.in_ok-no.ensures.parts)))

pub ending-returns-then-begins-clause-parts : goal.ending-returns-then-begins-clause-parts
ending-returns-then-begins-clause-parts t c =
    IfOk-weaker _ _ _ (λ x r. one c.if-begins.ensures r) c.branches.ensures.parts

pub ending-returns-then-begins-clause-met : goal.ending-returns-then-begins-clause-met
ending-returns-then-begins-clause-met t c =
    let inside = block_part c.args.inside in
    met_more ((branches_part inside).meets c.args.tokens.now) ((end_part inside).meets c.args.tokens.now)
    (λ e h. in_one c.if-begins.ensures h) c.branches.result c.branches.ensures.met

pub ending-returns-then-begins-2-clause-read : goal.ending-returns-then-begins-2-clause-read
ending-returns-then-begins-2-clause-read t c = sends c.in_ok-continuation.ensures.read

pub ending-returns-then-begins-2-clause-parts : goal.ending-returns-then-begins-2-clause-parts
ending-returns-then-begins-2-clause-parts t c =
    other (lacks_stands c.if-begins.ensures) (one c.if-begins-2.ensures c.in_ok-continuation.ensures.parts)

pub ending-returns-in_err-continuation-clause-met : goal.ending-returns-in_err-continuation-clause-met
ending-returns-in_err-continuation-clause-met t c =
    failed _ _ _ c.from_residual.ensures.1
    (λ m. in_other (lacks_stands c.if-begins.ensures)
    (in_one c.if-begins-2.ensures (c.in_err-continuation.ensures.met m)))

pub ending-returns-clause-read : goal.ending-returns-clause-read
ending-returns-clause-read t c = continues c.in_ok-thread.ensures.read c.in_ok-uses.ensures.read

pub ending-returns-clause-parts : goal.ending-returns-clause-parts
ending-returns-clause-parts t c =
    other (lacks_stands c.if-begins.ensures)
    (other (lacks_stands c.if-begins-2.ensures) (both c.in_ok-thread.ensures.parts c.in_ok-uses.ensures.parts))

pub ending-returns-in_err-thread-clause-met : goal.ending-returns-in_err-thread-clause-met
ending-returns-in_err-thread-clause-met t c =
    failed _ _ _ c.from_residual-in_err-thread.ensures.1
    (λ m. in_other (lacks_stands c.if-begins.ensures)
    (in_other (lacks_stands c.if-begins-2.ensures) (here (c.in_err-thread.ensures.met m))))

pub ending-returns-in_err-uses-clause-met : goal.ending-returns-in_err-uses-clause-met
ending-returns-in_err-uses-clause-met t c =
    failed _ _ _ c.from_residual-in_err-uses.ensures.1
    (λ m. in_other (lacks_stands c.if-begins.ensures)
    (in_other (lacks_stands c.if-begins-2.ensures)
    (behind c.in_ok-thread.ensures.parts (c.in_err-uses.ensures.met m))))
