use Rattle.std.proofs.Common.{◌≡◌, length}
use Rattle.event_script.specs.Words.{lines}
use Rattle.traces.specs.Lines.{said_by, trace}
use Rattle.traces.proofs.Reading.{behind}
use Rattle.traces.proofs.trace.Trace.read.Given as goal

-- what the lines said and what those that are left say is what all of them say
abbrev pub invariant-loop-line : goal.invariant-loop-line
invariant-loop-line l = behind l.lines.items (said_by l.left) ≡ trace l.text

abbrev pub decreases-loop-line : goal.decreases-loop-line
decreases-loop-line l = length l.left
