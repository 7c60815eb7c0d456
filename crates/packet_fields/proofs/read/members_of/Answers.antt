use Rattle.std.proofs.Common.{None}
use Rattle.std.proofs.lemmas.Result.{err_from_is_err_and}
use Rattle.packet_fields.specs.declared.fault.ReadError.TheVariants as errors
use Rattle.packet_fields.specs.Format.{items}
use Rattle.packet_fields.specs.Fields as field
use Rattle.packet_fields.proofs.Loop.{ends, goes_on}
use Rattle.packet_fields.proofs.read.members_of.Goals as goal

pub returns-in_err-incarnation : goal.returns-in_err-incarnation
returns-in_err-incarnation c =
    let p = err_from_is_err_and c.from_residual-in_err-incarnation.result c.from_residual-in_err-incarnation.ensures.1
    in
    rw (p.1, p.2) (ends field.name_of_member field.member c.loop.last
    (errors.Fault c.in_err-incarnation.field-0.0) c.loop.members c.args.count c.loop.counter c.loop.input
    ((items field.name_of_member field.member None c.args.count).read c.args.input.now) c.loop-test.true
    c.in_err-incarnation.ensures c.loop.invariant)

pub loop-preserved : goal.loop-preserved
loop-preserved c =
    rw c.in_ok-push.ensures.ok (goes_on field.name_of_member field.member c.loop.last c.loop.members c.args.count
    c.loop.counter c.loop.input c.in_ok-incarnation.field-0 c.member.new.input
    ((items field.name_of_member field.member None c.args.count).read c.args.input.now) c.loop-test.true
    c.in_ok-incarnation.ensures c.loop.invariant)
