use Rattle.std.proofs.Common.{◌++◌, ◌≤◌, ◌+◌, List, drop}
use Rattle.kind_check.specs.declared.code.SlotCode.{SlotCode}
use Rattle.kind_check.specs.Resolves.{ResolvesSlots}
use Rattle.kind_check.proofs.resolve.slots.Given as goal

-- what resolves the rest makes these codes resolve all
abbrev pub invariant-loop-argument : goal.invariant-loop-argument
invariant-loop-argument l = record {
  slots : (rest : List SlotCode) → ResolvesSlots l.threads.all.now l.names l.uses.all.now l.hole
      (drop l.argument-index l.argument-items) rest
      → ResolvesSlots l.threads.all.now l.names l.uses.all.now 1 l.arguments (l.slots ++ rest);
  hole : l.hole ≤ l.argument-index + 1;
}
