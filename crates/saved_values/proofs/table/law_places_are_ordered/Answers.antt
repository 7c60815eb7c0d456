use Rattle.saved_values.proofs.Places.{place_same}
use Rattle.saved_values.proofs.Values.{places_total}
use Rattle.saved_values.proofs.table.law_places_are_ordered.Goals as goal

pub returns-clause-order : goal.returns-clause-order
returns-clause-order c = places_total

pub returns-clause-same : goal.returns-clause-same
returns-clause-same c = place_same
