use Rattle.std.proofs.Common.{None}
use Rattle.std.proofs.lemmas.Result.{err_from_is_err_and}
use Rattle.packet_fields.specs.Format.{end_of, items}
use Rattle.packet_fields.specs.Fields as field
use Rattle.packet_fields.proofs.Skipping.{skips_on, stops}
use Rattle.packet_fields.proofs.skip.records_of.Goals as goal

pub returns-in_err-grant : goal.returns-in_err-grant
returns-in_err-grant c =
    let p = err_from_is_err_and c.from_residual.result c.from_residual.ensures.1 in
    let total = end_of ((items field.grant_of_record (field.stolen c.args.next.now) None c.args.count).read
    c.args.input.now) in
    rw (p.1, p.2) (stops field.grant_of_record (field.stolen c.args.next.now) c.loop.last c.in_err-grant.field-0.0
    c.args.count c.loop.counter c.loop.input total c.loop-test.true c.in_err-grant.ensures c.loop.invariant)

pub loop-preserved : goal.loop-preserved
loop-preserved c =
    let total = end_of ((items field.grant_of_record (field.stolen c.args.next.now) None c.args.count).read
    c.args.input.now) in
    skips_on field.grant_of_record (field.stolen c.args.next.now) c.loop.last c.args.count c.loop.counter c.loop.input
    c.in_ok-grant.grant c.stolen.new.input total c.loop-test.true c.in_ok-grant.ensures c.loop.invariant
