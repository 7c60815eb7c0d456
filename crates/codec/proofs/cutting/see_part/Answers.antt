-- Bytes are below 256, by their type.
use Rattle.std.proofs.Common.{sym, ◌∙◌, arith}
use Rattle.packet_fields.proofs.Parts.{part_fits}
use Rattle.codec.proofs.cutting.see_part.Goals as goal

pub returns : goal.returns
returns c = sym (part_fits c.args.pieces c.args.number c.args.bytes.now (λ i. omega (arith, c.type_inv.bytes i)))
    ∙ c.requires
