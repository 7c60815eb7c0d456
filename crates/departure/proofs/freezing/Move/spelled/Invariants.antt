use Rattle.std.proofs.Common.{◌≡◌, ◌++◌, false}
use Rattle.std.specs.List.{list_any}
use Rattle.departure.specs.Offers.{is_last_hop, is_too_big}
use Rattle.departure.specs.Freezing.{AllFit, offers, wholes}
use Rattle.departure.proofs.freezing.Move.spelled.Given as goal

abbrev pub invariant-loop-sub : goal.invariant-loop-sub
invariant-loop-sub l = record {
  sent : l.sent ++ offers l.self l.sub-iterator ≡ offers l.self l.subs;
  size : list_any is_too_big (wholes l.self l.sub-iterator) ≡ list_any is_too_big (wholes l.self l.subs);
  fits : AllFit l.checked l.sub-iterator;
  hops : list_any is_last_hop l.sub-iterator ≡ false;
}
