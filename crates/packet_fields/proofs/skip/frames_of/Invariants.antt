use Rattle.std.proofs.Common.{◌≡◌, ◌-◌, None}
use Rattle.packet_fields.specs.Format.{end_of, items}
use Rattle.packet_fields.specs.Fields as field
use Rattle.packet_fields.proofs.skip.frames_of.Given as goal

abbrev pub invariant-loop : goal.invariant-loop
invariant-loop l = end_of ((items field.number_of_frame (field.frame l.next) l.last (l.count - l.counter)).read l.input)
    ≡ end_of ((items field.number_of_frame (field.frame l.next) None l.count).read l.fn.input)
