use Rattle.std.proofs.Common.{◌≡◌, ◌++◌, drop}
use Rattle.sub_rules.specs.Resuming.{resumed_slots}
use Rattle.sub_rules.proofs.resuming.resumed_slots.Given as goal

abbrev pub invariant-loop-slot : goal.invariant-loop-slot
invariant-loop-slot g l = l.resumed.items
    ++ resumed_slots (g.K.Knows.known_of l.known) l.place (drop l.slot-index l.slots)
    ≡ resumed_slots (g.K.Knows.known_of l.known) l.place l.slots
