use Rattle.std.proofs.Common.{None, ap}
use Rattle.std.proofs.lemmas.Result.{err_from_is_err_and}
use Rattle.saved_values.specs.Saved.{place_of}
use Rattle.packet_fields.specs.Format.{end_of, items, keeping}
use Rattle.packet_fields.specs.Fields as field
use Rattle.packet_fields.proofs.Skipping.{skips_behind, stops}
use Rattle.packet_fields.proofs.skip.saved_of.Goals as goal

pub returns-in_err-item : goal.returns-in_err-item
returns-in_err-item c =
    let p = err_from_is_err_and c.from_residual.result c.from_residual.ensures.1 in
    let total = end_of ((items place_of field.saved_value None c.args.count).read c.args.input.now) in
    rw (p.1, p.2) (stops place_of field.saved_value c.loop.last c.in_err-item.field-0.0 c.args.count c.loop.counter
    c.loop.input total c.loop-test.true (ap (keeping place_of) c.in_err-item.ensures) c.loop.invariant)

pub loop-preserved : goal.loop-preserved
loop-preserved c =
    let total = end_of ((items place_of field.saved_value None c.args.count).read c.args.input.now) in
    skips_behind place_of field.saved_value c.loop.last c.args.count c.loop.counter c.loop.input c.in_ok-item.item
    c.saved_value.new.input total c.loop-test.true c.in_ok-item.ensures c.loop.invariant
