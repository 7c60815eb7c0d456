use Rattle.std.proofs.Common.{◌≡◌, take}
use Rattle.kind_check.specs.Places.{hole_names}
use Rattle.kind_check.proofs.tables.Uses.new.Given as goal

abbrev pub invariant-loop-each : goal.invariant-loop-each
invariant-loop-each l = l.holes ≡ hole_names (take l.each-index l.all)
