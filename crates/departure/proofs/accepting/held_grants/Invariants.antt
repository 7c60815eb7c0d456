use Rattle.std.proofs.Common.{◌≡◌, ◌||◌}
use Rattle.std.specs.Option.{is_some}
use Rattle.ids.specs.Names.{Grant}
use Rattle.ids.specs.Naming.{name_of_grant}
use Rattle.subcomputation.specs.Subs.{host_in}
use Rattle.departure.proofs.LinkedNames.{has}
use Rattle.departure.proofs.accepting.held_grants.Given as goal

abbrev pub invariant-loop-sub : goal.invariant-loop-sub
invariant-loop-sub l = (g : Grant) → (has (name_of_grant g) l.held || is_some (host_in g l.sub-iterator))
    ≡ is_some (host_in g l.subs)
