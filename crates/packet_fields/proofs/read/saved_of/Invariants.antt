use Rattle.std.proofs.Common.{◌≡◌, ◌-◌, None}
use Rattle.saved_values.specs.Saved.{place_of}
use Rattle.packet_fields.specs.Format.{items}
use Rattle.packet_fields.specs.Fields as field
use Rattle.packet_fields.proofs.Loop.{with_front}
use Rattle.packet_fields.proofs.read.saved_of.Given as goal

abbrev pub invariant-loop : goal.invariant-loop
invariant-loop l = with_front l.values ((items place_of field.saved_value l.last (l.count - l.counter)).read l.input)
    ≡ (items place_of field.saved_value None l.count).read l.fn.input
