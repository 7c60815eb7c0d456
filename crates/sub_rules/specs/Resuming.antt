-- A turn where values of kids are known already: their slots are given these values, and they have
-- no kid.
use Rattle.std.specs.Prelude.{ℕ, ℤ, List, ◌∷◌, map, Option, None, Some}
use Rattle.kind_check.specs.declared.turn.Kid.{Kid}
use Rattle.kind_check.specs.declared.turn.Slot.{Slot}
use Rattle.kind_check.specs.declared.turn.Slot.TheVariants.{Filled, Awaits}
use Rattle.kind_check.specs.declared.turn.Turn.{Turn}
use Rattle.kind_check.specs.declared.turn.Turn.TheVariants.{Sends, Joins}

-- what is known of values: that of the task at a place
abbrev pub Known : Type 0
Known = List ℕ → Option ℤ

abbrev pub nothing_known : Known
nothing_known place = None

-- the slot of a kid, whose value may be known
abbrev pub slot_by : Kid → Option ℤ → Slot
slot_by kid None = Awaits kid
slot_by kid (Some v) = Filled v

-- a slot of a join at a place
abbrev pub resumed_slot : Known → List ℕ → Slot → Slot
resumed_slot known place (Filled v) = Filled v
resumed_slot known place (Awaits kid) = slot_by kid (known (kid.hole ∷ place))

abbrev pub resumed_slots : Known → List ℕ → List Slot → List Slot
resumed_slots known place slots = map (resumed_slot known place) slots

-- the turn of a frame at a place
abbrev pub resumed : Known → List ℕ → Turn → Turn
resumed known place (Sends v) = Sends v
resumed known place (Joins t slots) = Joins t (resumed_slots known place slots)
