use Rattle.std.proofs.Common.{◌≡◌, None, drop}
use Rattle.std.specs.List.{list_all}
use Rattle.packet_fields.specs.Fields as field
use Rattle.codec.proofs.packet.see_saved.Given as goal

abbrev pub invariant-loop-value : goal.invariant-loop-value
invariant-loop-value l = list_all (field.saved_value None).fits (drop l.value-index l.values)
    ≡ list_all (field.saved_value None).fits l.values
