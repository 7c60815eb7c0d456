use Rattle.std.proofs.Common.{None}
use Rattle.std.proofs.lemmas.Result.{err_from_is_err_and}
use Rattle.packet_fields.specs.Format.{items}
use Rattle.packet_fields.specs.Fields as field
use Rattle.packet_fields.proofs.Loop.{ends, goes_on}
use Rattle.packet_fields.proofs.read.frames_of.Goals as goal

pub returns-in_err-item : goal.returns-in_err-item
returns-in_err-item c =
    let p = err_from_is_err_and c.from_residual-in_err-item.result c.from_residual-in_err-item.ensures.1 in
    let total = (items field.number_of_frame (field.frame c.args.next.now) None c.args.count).read c.args.input.now in
    rw (p.1, p.2) (ends field.number_of_frame
    (field.frame c.args.next.now) c.loop.last c.in_err-item.field-0.0 c.loop.frames c.args.count c.loop.counter
    c.loop.input total c.loop-test.true c.in_err-item.ensures c.loop.invariant)

pub loop-preserved : goal.loop-preserved
loop-preserved c =
    let total = (items field.number_of_frame (field.frame c.args.next.now) None c.args.count).read c.args.input.now in
    rw c.in_ok-push.ensures.ok (goes_on field.number_of_frame
    (field.frame c.args.next.now) c.loop.last c.loop.frames c.args.count c.loop.counter c.loop.input
    c.in_ok-item.item c.frame.new.input total c.loop-test.true c.in_ok-item.ensures c.loop.invariant)
