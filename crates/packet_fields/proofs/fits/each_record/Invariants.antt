use Rattle.std.proofs.Common.{◌≡◌, None, length, drop}
use Rattle.packet_fields.specs.Format.{items}
use Rattle.packet_fields.specs.Fields as field
use Rattle.packet_fields.proofs.fits.each_record.Given as goal

abbrev pub invariant-loop-value : goal.invariant-loop-value
invariant-loop-value l =
    (items field.grant_of_record (field.stolen l.next) l.last (length (drop l.value-index l.records))).fits
    (drop l.value-index l.records)
    ≡ (items field.grant_of_record (field.stolen l.next) None (length l.records)).fits l.records
