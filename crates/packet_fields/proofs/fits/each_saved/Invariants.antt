use Rattle.std.proofs.Common.{◌≡◌, None, length, drop}
use Rattle.saved_values.specs.Saved.{place_of}
use Rattle.packet_fields.specs.Format.{items}
use Rattle.packet_fields.specs.Fields as field
use Rattle.packet_fields.proofs.fits.each_saved.Given as goal

abbrev pub invariant-loop-value : goal.invariant-loop-value
invariant-loop-value l =
    (items place_of field.saved_value l.last (length (drop l.value-index l.values))).fits (drop l.value-index l.values)
    ≡ (items place_of field.saved_value None (length l.values)).fits l.values
