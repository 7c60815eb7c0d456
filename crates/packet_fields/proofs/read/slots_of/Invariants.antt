use Rattle.std.proofs.Common.{◌≡◌, ◌-◌}
use Rattle.packet_fields.specs.Format.{plain}
use Rattle.packet_fields.specs.Fields as field
use Rattle.packet_fields.proofs.Loop.{with_front}
use Rattle.packet_fields.proofs.read.slots_of.Given as goal

abbrev pub invariant-loop : goal.invariant-loop
invariant-loop l = with_front l.slots ((plain field.slot (l.count - l.counter)).read l.input)
    ≡ (plain field.slot l.count).read l.fn.input
