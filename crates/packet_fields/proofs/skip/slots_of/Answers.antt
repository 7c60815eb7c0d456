use Rattle.std.proofs.lemmas.Result.{err_from_is_err_and}
use Rattle.packet_fields.specs.Format.{end_of, plain}
use Rattle.packet_fields.specs.Fields as field
use Rattle.packet_fields.proofs.Skipping.{skips_item, stops_at}
use Rattle.packet_fields.proofs.skip.slots_of.Goals as goal

pub returns-in_err-slot : goal.returns-in_err-slot
returns-in_err-slot c =
    let p = err_from_is_err_and c.from_residual.result c.from_residual.ensures.1 in
    let total = end_of ((plain field.slot c.args.count).read c.args.input.now) in
    rw (p.1, p.2) (stops_at field.slot c.in_err-slot.field-0.0 c.args.count c.loop.counter c.loop.input total
    c.loop-test.true c.in_err-slot.ensures c.loop.invariant)

pub loop-preserved : goal.loop-preserved
loop-preserved c =
    let total = end_of ((plain field.slot c.args.count).read c.args.input.now) in
    skips_item field.slot c.args.count c.loop.counter c.loop.input c.in_ok-slot.field-0 c.slot.new.input total
    c.loop-test.true c.in_ok-slot.ensures c.loop.invariant
