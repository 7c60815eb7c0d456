-- The pieces that were added, and those that are still to come.
use Rattle.std.proofs.Common.{◌≡◌, ◌-◌, ◌++◌, ap, ◌∙◌, arith}
use Rattle.codec.specs.Pieces.{parts_of, pieces_from}
use Rattle.codec.proofs.Parting.{no_more, one_more}
use Rattle.codec.proofs.cutting.send_pieces.Goals as goal

pub loop-number-init : goal.loop-number-init
loop-number-init c =
    let all : c.pieces_of-pieces.result - 0 ≡ c.pieces_of-pieces.result = omega arith in
    (omega arith, ap (λ n. c.args.sent.now ++ pieces_from c.args.packet.now c.args.offer.now 0 n) all)

pub loop-number-preserved : goal.loop-number-preserved
loop-number-preserved c = (
  omega (arith, c.loop-number-test.true),
  one_more c.args.packet.now c.args.offer.now c.loop-number.number c.pieces_of-pieces.result c.loop-number.sent
      c.send_piece.new.sent _ c.loop-number-test.true c.loop-number.invariant.1 c.in_ok-send_piece.ensures,
)

pub returns : goal.returns
returns c =
    no_more c.args.packet.now c.args.offer.now c.loop-number.number c.pieces_of-pieces.result c.loop-number.sent _
    c.loop-number-test.false c.loop-number.invariant.1
    ∙ ap (λ n. c.args.sent.now ++ pieces_from c.args.packet.now c.args.offer.now 0 n) (c.pieces_of-pieces.ensures
    ∙ ap parts_of c.requires.bytes)
