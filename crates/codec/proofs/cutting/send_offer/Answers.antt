-- An offer goes whole or in its pieces.
use Rattle.std.proofs.Common.{◌≤◌, [], ◌++◌, ◌∷◌, length, refl, sym, ap, subst, ◌∙◌, arith}
use Rattle.codec.specs.Table.{Spells}
use Rattle.codec.proofs.Parting.{cut_small}
use Rattle.codec.proofs.TableLaws.{is_written, packet_fits}
use Rattle.codec.proofs.cutting.send_offer.Goals as goal

pub of_bytes-requires : goal.of_bytes-requires
of_bytes-requires c = (
  c.args.packet.now,
  is_written c.args.packet.now [] c.in_ok-bytes.bytes.items refl c.in_ok-bytes.ensures
      (packet_fits c.args.packet.now c.requires.packet) (omega (arith, c.len-2.ensures, c.if-len-gt-PART_BYTES.false)),
)

pub returns-in_ok-push-clause-ok : goal.returns-in_ok-push-clause-ok
returns-in_ok-push-clause-ok c =
    let few : length c.in_ok-bytes.bytes.items ≤ 65536 = omega (arith, c.len-2.ensures, c.if-len-gt-PART_BYTES.false) in
    let spells : Spells c.in_ok-bytes.bytes.items c.args.packet.now =
    is_written c.args.packet.now [] c.in_ok-bytes.bytes.items refl c.in_ok-bytes.ensures
    (packet_fits c.args.packet.now c.requires.packet) (omega (arith, few)) in
    let whole = cut_small c.args.packet.now c.args.offer.now c.requires.body
    (subst (λ bytes. length bytes ≤ 65536) c.in_ok-bytes.ensures few) in
    c.in_ok-push.ensures.ok ∙ ap (λ p. c.args.sent.now ++ (p ∷ [])) (c.of_bytes.ensures c.args.packet.now spells)
    ∙ ap (λ ps. c.args.sent.now ++ ps) (sym whole)
