use Rattle.std.proofs.Common.{◌≡◌, ◌-◌, None}
use Rattle.packet_fields.specs.Format.{items}
use Rattle.packet_fields.specs.Fields as field
use Rattle.packet_fields.proofs.Loop.{with_front}
use Rattle.packet_fields.proofs.read.members_of.Given as goal

abbrev pub invariant-loop : goal.invariant-loop
invariant-loop l = with_front l.members
    ((items field.name_of_member field.member l.last (l.count - l.counter)).read l.input)
    ≡ (items field.name_of_member field.member None l.count).read l.fn.input
