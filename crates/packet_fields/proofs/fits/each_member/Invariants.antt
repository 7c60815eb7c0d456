use Rattle.std.proofs.Common.{◌≡◌, None, length, drop}
use Rattle.packet_fields.specs.Format.{items}
use Rattle.packet_fields.specs.Fields as field
use Rattle.packet_fields.proofs.fits.each_member.Given as goal

abbrev pub invariant-loop-value : goal.invariant-loop-value
invariant-loop-value l =
    (items field.name_of_member field.member l.last (length (drop l.value-index l.members))).fits
    (drop l.value-index l.members)
    ≡ (items field.name_of_member field.member None (length l.members)).fits l.members
