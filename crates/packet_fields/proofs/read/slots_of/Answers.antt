use Rattle.std.proofs.lemmas.Result.{err_from_is_err_and}
use Rattle.packet_fields.specs.declared.fault.ReadError.TheVariants as errors
use Rattle.packet_fields.specs.Format.{plain}
use Rattle.packet_fields.specs.Fields as field
use Rattle.packet_fields.proofs.Loop.{ends_plain, goes_on_plain}
use Rattle.packet_fields.proofs.read.slots_of.Goals as goal

pub returns-in_err-next : goal.returns-in_err-next
returns-in_err-next c =
    let p = err_from_is_err_and c.from_residual-in_err-next.result c.from_residual-in_err-next.ensures.1 in
    rw (p.1, p.2) (ends_plain field.slot
    (errors.Fault c.in_err-next.field-0.0) c.loop.slots c.args.count c.loop.counter c.loop.input
    ((plain field.slot c.args.count).read c.args.input.now) c.loop-test.true c.in_err-next.ensures c.loop.invariant)

pub loop-preserved : goal.loop-preserved
loop-preserved c =
    rw c.in_ok-push.ensures.ok (goes_on_plain field.slot c.loop.slots c.args.count c.loop.counter c.loop.input
    c.in_ok-next.next c.slot.new.input
    ((plain field.slot c.args.count).read c.args.input.now) c.loop-test.true c.in_ok-next.ensures c.loop.invariant)
