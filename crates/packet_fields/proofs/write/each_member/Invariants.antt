use Rattle.std.proofs.Common.{◌≡◌, ◌++◌, take, None}
use Rattle.std.specs.List.{flat_map}
use Rattle.packet_fields.specs.Fields as field
use Rattle.packet_fields.proofs.write.each_member.Given as goal

abbrev pub invariant-loop-value : goal.invariant-loop-value
invariant-loop-value l = l.out.items
    ≡ l.fn.out.items ++ flat_map (field.member None).write (take l.value-index l.members)
