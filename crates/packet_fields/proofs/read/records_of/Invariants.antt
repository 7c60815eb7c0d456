use Rattle.std.proofs.Common.{◌≡◌, ◌-◌, None}
use Rattle.packet_fields.specs.Format.{items}
use Rattle.packet_fields.specs.Fields as field
use Rattle.packet_fields.proofs.Loop.{with_front}
use Rattle.packet_fields.proofs.read.records_of.Given as goal

abbrev pub invariant-loop : goal.invariant-loop
invariant-loop l = with_front l.records
    ((items field.grant_of_record (field.stolen l.next) l.last (l.count - l.counter)).read l.input)
    ≡ (items field.grant_of_record (field.stolen l.next) None l.count).read l.fn.input
