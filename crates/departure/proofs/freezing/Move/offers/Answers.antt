use Rattle.std.proofs.Common.{◌≡◌, true, false, Err, ap, sym, ◌∙◌}
use Rattle.departure.proofs.OfferingLists.{no_last_hop, none_too_big}
use Rattle.departure.proofs.freezing.Move.offers.Goals as goal

pub spelled-requires-clause-hops : goal.spelled-requires-clause-hops
spelled-requires-clause-hops c = no_last_hop c.args.self.now c.args.subs.now c.requires.movable

pub unreachable-requires : goal.unreachable-requires
unreachable-requires c =
    let big = c.in-Err-TooBig.ensures.big (ap Err c.in-Err-TooBig.field-0-is) in
    let same : true ≡ false = sym big ∙ none_too_big c.args.self.now c.args.subs.now c.requires.movable in
    cc
