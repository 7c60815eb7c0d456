use Rattle.std.proofs.Common.{◌≡◌, ◌-◌, None}
use Rattle.packet_fields.specs.Format.{end_of, items}
use Rattle.packet_fields.specs.Fields as field
use Rattle.packet_fields.proofs.skip.members_of.Given as goal

abbrev pub invariant-loop : goal.invariant-loop
invariant-loop l = end_of ((items field.name_of_member field.member l.last (l.count - l.counter)).read l.input)
    ≡ end_of ((items field.name_of_member field.member None l.count).read l.fn.input)
