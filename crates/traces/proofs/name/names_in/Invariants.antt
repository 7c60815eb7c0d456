use Rattle.std.proofs.Common.{◌≡◌, ◌++◌, length}
use Rattle.traces.specs.Names.{names_in, names_of_lines}
use Rattle.traces.proofs.name.names_in.Given as goal

-- the names that were read and those of the lines that are left are those of the text
abbrev pub invariant-loop-line : goal.invariant-loop-line
invariant-loop-line l = l.names.items ++ names_of_lines l.left ≡ names_in l.text

abbrev pub decreases-loop-line : goal.decreases-loop-line
decreases-loop-line l = length l.left
