-- The bytes that were copied are those of the part.
use Rattle.std.proofs.Common.{◌≡◌, ◌+◌, ◌*◌, min, length, ◌∙◌, arith}
use Rattle.codec.proofs.Parting.{part_range}
use Rattle.codec.proofs.cutting.part_at.Goals as goal

pub returns : goal.returns
returns c =
    let end : c.min-end.result ≡ min (length c.args.bytes.now) (c.args.number * 65536 + 65536) =
    omega (arith, c.min-end.ensures, c.from-start.ensures) in
    c.from_vec.ensures ∙ c.in_ok-extend_from_slice.ensures.items
    ∙ rw (c.in_ok-part.ensures.items, c.from-start.ensures)
    (part_range c.args.number c.min-end.result c.args.bytes.now end)
