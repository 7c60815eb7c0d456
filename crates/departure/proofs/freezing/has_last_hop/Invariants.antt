use Rattle.std.proofs.Common.{◌≡◌}
use Rattle.std.specs.List.{list_any}
use Rattle.departure.specs.Offers.{is_last_hop}
use Rattle.departure.proofs.freezing.has_last_hop.Given as goal

abbrev pub invariant-loop-sub : goal.invariant-loop-sub
invariant-loop-sub l = list_any is_last_hop l.sub-iterator ≡ list_any is_last_hop l.subs
