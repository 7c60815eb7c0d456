use Rattle.std.proofs.lemmas.Result.{err_from_is_err_and}
use Rattle.packet_fields.specs.Format.{end_of, plain}
use Rattle.packet_fields.specs.Fields as field
use Rattle.packet_fields.proofs.Skipping.{skips_item, stops_at}
use Rattle.packet_fields.proofs.skip.numbers_of.Goals as goal

pub returns-in_err-signed : goal.returns-in_err-signed
returns-in_err-signed c =
    let p = err_from_is_err_and c.from_residual.result c.from_residual.ensures.1 in
    let total = end_of ((plain field.signed c.args.count).read c.args.input.now) in
    rw (p.1, p.2) (stops_at field.signed c.in_err-signed.field-0.0 c.args.count c.loop.counter c.loop.input total
    c.loop-test.true c.in_err-signed.ensures c.loop.invariant)

pub loop-preserved : goal.loop-preserved
loop-preserved c =
    let total = end_of ((plain field.signed c.args.count).read c.args.input.now) in
    skips_item field.signed c.args.count c.loop.counter c.loop.input c.in_ok-signed.field-0 c.signed.new.self total
    c.loop-test.true c.in_ok-signed.ensures c.loop.invariant
