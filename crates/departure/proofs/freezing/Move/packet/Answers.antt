use Rattle.std.proofs.Common.{◌≡◌, true, Some, refl, sym, ◌∙◌}
use Rattle.codec.specs.Table.{is_packet}
use Rattle.departure.specs.Offers.{offer}
use Rattle.departure.proofs.Offering.{moves_on, offered_fits, packet_made}
use Rattle.departure.proofs.freezing.Move.packet.Goals as goal

pub unwrap-requires : goal.unwrap-requires
unwrap-requires c =
    let m = c.args.self.now in
    let s = c.args.sub.now in
    let fits : is_packet (offer m.job m.from m.heir s) ≡ true =
    offered_fits m.job m.from m.heir s c.law_job_is_a_number.ensures (sym c.worker.ensures.fits
    ∙ c.worker.ensures.always) c.word.ensures.worker (moves_on s.hop c.requires.hop) c.law_sub_is_typed.ensures
    (c.law_what_fits_is_few.ensures s.content c.requires.fits) c.in_ok-offer.ensures.frames
    c.in_ok-offer.ensures.records in
    let made = packet_made m.job m.from m.heir c.actor-heir.result s c.in_ok-offer.offer c.of.result c.of.ensures
    (c.actor-heir.ensures ∙ c.worker-2.ensures) c.in_ok-offer.ensures.same fits in
    rw made refl

pub returns : goal.returns
returns c =
    let m = c.args.self.now in
    let s = c.args.sub.now in
    let fits : is_packet (offer m.job m.from m.heir s) ≡ true =
    offered_fits m.job m.from m.heir s c.law_job_is_a_number.ensures (sym c.worker.ensures.fits
    ∙ c.worker.ensures.always) c.word.ensures.worker (moves_on s.hop c.requires.hop) c.law_sub_is_typed.ensures
    (c.law_what_fits_is_few.ensures s.content c.requires.fits) c.in_ok-offer.ensures.frames
    c.in_ok-offer.ensures.records in
    let made : c.of.result ≡ Some (offer m.job m.from m.heir s) =
    packet_made m.job m.from m.heir c.actor-heir.result s c.in_ok-offer.offer c.of.result c.of.ensures
    (c.actor-heir.ensures ∙ c.worker-2.ensures) c.in_ok-offer.ensures.same fits in
    let same : Some c.unwrap.result ≡ Some (offer m.job m.from m.heir s) = sym c.unwrap.ensures ∙ made in
    cc
