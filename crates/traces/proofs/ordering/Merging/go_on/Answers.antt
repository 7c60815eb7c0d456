use Rattle.std.proofs.Common.{sym}
use Rattle.traces.specs.Merges.{stays}
use Rattle.traces.proofs.Stepping.{leads_on}
use Rattle.traces.proofs.ordering.Merging.go_on.Goals as goal

pub loop-init : goal.loop-init
loop-init c = record { led = stays; kept = c.requires }

pub returns-then-not-branch-clause-moves : goal.returns-then-not-branch-clause-moves
returns-then-not-branch-clause-moves c = leads_on c.loop.invariant.led c.in_ok-step.ensures.moves

pub loop-preserved : goal.loop-preserved
loop-preserved c = record {
  led = leads_on c.loop.invariant.led c.in_ok-step.ensures.moves;
  kept = c.in_ok-step.ensures.kept;
}
