use Rattle.std.proofs.Common.{◌≡◌, ◌-◌}
use Rattle.packet_fields.specs.Format.{end_of, plain}
use Rattle.packet_fields.specs.Fields as field
use Rattle.packet_fields.proofs.skip.numbers_of.Given as goal

abbrev pub invariant-loop : goal.invariant-loop
invariant-loop l = end_of ((plain field.signed (l.count - l.counter)).read l.input)
    ≡ end_of ((plain field.signed l.count).read l.fn.input)
