-- All but offers go as they are, and are short.
use Rattle.std.proofs.Common.{◌≡◌, true, ◌++◌, sym, ap, ◌∙◌}
use Rattle.codec.specs.Table.{is_short}
use Rattle.codec.proofs.Parting.{cut_short, other_short, short_few}
use Rattle.codec.proofs.cutting.send_cut.Goals as goal

pub returns-in_ok-send-in_default : goal.returns-in_ok-send-in_default
returns-in_ok-send-in_default c =
    let short : is_short c.args.packet.now.body ≡ true =
    other_short c.args.packet.now.body (λ o same. c.in_default.not-Offer o (c.body.ensures.body ∙ same)) in
    record {
      ok = c.in_ok-send-in_default.ensures.ok
          ∙ ap (λ ps. c.args.sent.now ++ ps) (sym (cut_short c.args.packet.now short));
      few = short_few c.args.packet.now c.body.ensures.packet short;
      big = λ wrong. absurd cc;
    }
