-- A piece of an offer that can be written can be written too.
use Rattle.std.proofs.Common.{◌≡◌, ◌<◌, ◌≤◌, ℕ, true, length, sym, ap, subst, ◌∙◌}
use Rattle.packet_fields.specs.Fields as field
use Rattle.codec.specs.Pieces.{packet_of_piece, part_at, parts_of}
use Rattle.codec.specs.Table.{PacketOf, is_packet, packet}
use Rattle.codec.proofs.Parting.{part_allowed, part_fits_so, piece_made, piece_whole}
use Rattle.codec.proofs.cutting.send_piece.Goals as goal

pub see_part-requires : goal.see_part-requires
see_part-requires c = rw (c.pieces_of-pieces.ensures, c.as_slice.ensures, c.in_ok-part.ensures)
    (part_allowed c.args.number c.args.bytes.now c.requires.number)

pub invariant_of-piece : goal.invariant_of-piece
invariant_of-piece c =
    let p : PacketOf = c.args.packet.now in
    let i : ℕ = c.args.number in
    let pieces = c.pieces_of-pieces.ensures ∙ ap parts_of c.requires.bytes in
    let part = c.in_ok-part.ensures ∙ ap (part_at i) c.requires.bytes in
    let fits : (field.part (parts_of (packet.write p)) i).fits (part_at i (packet.write p)) ≡ true =
    part_fits_so c.pieces_of-pieces.result i c.as_slice.result.now c.args.bytes.now
    (packet.write p) c.pieces_of-pieces.ensures (c.as_slice.ensures
    ∙ c.in_ok-part.ensures) c.requires.bytes c.see_part.ensures in
    let whole : is_packet (packet_of_piece p c.args.offer.now i) ≡ true =
    piece_whole p c.args.offer.now i c.requires.body c.requires.packet
    (subst (λ bytes. 65536 < length bytes) c.requires.bytes c.requires.many)
    (subst (λ bytes. length bytes ≤ 1073741824) c.requires.bytes c.requires.few)
    (subst (λ bytes. i < parts_of bytes) c.requires.bytes c.requires.number) fits in
    subst (λ q. is_packet q ≡ true) (sym
    (piece_made p c.args.offer.now i c.job.result c.to.result c.pieces_of-pieces.result c.in_ok-part.part
    c.job.ensures c.to.ensures pieces part)) whole
