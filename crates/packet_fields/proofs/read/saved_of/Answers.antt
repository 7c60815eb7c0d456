use Rattle.std.proofs.Common.{None}
use Rattle.std.proofs.lemmas.Result.{err_from_is_err_and}
use Rattle.saved_values.specs.Saved.{place_of}
use Rattle.packet_fields.specs.declared.fault.ReadError.TheVariants as errors
use Rattle.packet_fields.specs.Format.{items}
use Rattle.packet_fields.specs.Fields as field
use Rattle.packet_fields.proofs.Loop.{ends, goes_on}
use Rattle.packet_fields.proofs.read.saved_of.Goals as goal

pub returns-in_err-item : goal.returns-in_err-item
returns-in_err-item c =
    let p = err_from_is_err_and c.from_residual-in_err-item.result c.from_residual-in_err-item.ensures.1 in
    rw (p.1, p.2) (ends place_of field.saved_value c.loop.last
    (errors.Fault c.in_err-item.field-0.0) c.loop.values c.args.count c.loop.counter c.loop.input
    ((items place_of field.saved_value None c.args.count).read c.args.input.now) c.loop-test.true
    c.in_err-item.ensures c.loop.invariant)

pub loop-preserved : goal.loop-preserved
loop-preserved c =
    rw c.in_ok-push.ensures.ok (goes_on place_of field.saved_value c.loop.last c.loop.values c.args.count c.loop.counter
    c.loop.input c.in_ok-item.item c.saved_value.new.input
    ((items place_of field.saved_value None c.args.count).read c.args.input.now) c.loop-test.true
    c.in_ok-item.ensures c.loop.invariant)
