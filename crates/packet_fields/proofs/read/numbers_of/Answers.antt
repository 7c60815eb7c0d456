use Rattle.std.proofs.Common.{rules, w64, FitsSigned}
use Rattle.std.proofs.lemmas.Int.{to_z-of_z}
use Rattle.std.proofs.lemmas.Result.{err_from_is_err_and}
use Rattle.packet_fields.specs.declared.fault.ReadError.TheVariants as errors
use Rattle.packet_fields.specs.Format.{plain}
use Rattle.packet_fields.specs.Fields as field
use Rattle.packet_fields.proofs.Loop.{ends_plain, goes_on_plain}
use Rattle.packet_fields.proofs.read.numbers_of.Goals as goal

pub returns-in_err-next : goal.returns-in_err-next
returns-in_err-next c =
    let p = err_from_is_err_and c.from_residual-in_err-next.result c.from_residual-in_err-next.ensures.1 in
    rw (p.1, p.2) (ends_plain field.signed
    (errors.Fault c.in_err-next.field-0.0) c.loop.numbers c.args.count c.loop.counter c.loop.input
    ((plain field.signed c.args.count).read c.args.input.now) c.loop-test.true c.in_err-next.ensures
    c.loop.invariant)

pub loop-preserved : goal.loop-preserved
loop-preserved c =
    let v = c.in_ok-next.next in
    let fits : FitsSigned w64 v = search rules in
    rw (c.in_ok-push.ensures.ok, to_z-of_z w64 v fits)
    (goes_on_plain field.signed c.loop.numbers c.args.count c.loop.counter c.loop.input v c.signed.new.self
    ((plain field.signed c.args.count).read c.args.input.now) c.loop-test.true c.in_ok-next.ensures
    c.loop.invariant)
