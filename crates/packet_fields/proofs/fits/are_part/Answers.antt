-- Bytes are below 256, by their type.
use Rattle.std.proofs.Common.{◌∙◌, arith}
use Rattle.packet_fields.proofs.Parts.{part_fits}
use Rattle.packet_fields.proofs.fits.are_part.Goals as goal

pub returns : goal.returns
returns c = c.allows_part.ensures ∙ part_fits c.args.pieces c.args.number c.args.bytes.now
    (λ i. omega (arith, c.type_inv.bytes i))
