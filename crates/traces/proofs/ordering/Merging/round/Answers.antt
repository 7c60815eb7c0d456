use Rattle.std.proofs.Common.{sym}
use Rattle.traces.specs.Merges.{stays}
use Rattle.traces.proofs.Stepping.{leads_on}
use Rattle.traces.proofs.ordering.Merging.round.Goals as goal

pub loop-a-init : goal.loop-a-init
loop-a-init c = record { led = stays; kept = c.requires }

pub loop-a-preserved : goal.loop-a-preserved
loop-a-preserved c = record {
  led = leads_on c.loop-a.invariant.led c.in_ok-go_on.ensures.moves;
  kept = c.in_ok-go_on.ensures.kept;
}
