use Rattle.std.proofs.Common.{◌≡◌, None, length, drop}
use Rattle.packet_fields.specs.Format.{items}
use Rattle.packet_fields.specs.Fields as field
use Rattle.packet_fields.proofs.fits.each_frame.Given as goal

abbrev pub invariant-loop-value : goal.invariant-loop-value
invariant-loop-value l =
    (items field.number_of_frame (field.frame l.next) l.last (length (drop l.value-index l.frames))).fits
    (drop l.value-index l.frames)
    ≡ (items field.number_of_frame (field.frame l.next) None (length l.frames)).fits l.frames
