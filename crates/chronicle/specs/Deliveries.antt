-- A packet that is looked for, and comes in the same turn of the lock.
use Rattle.std.specs.Prelude.{ℕ, List, [], ◌∷◌, Option, None, Some}
use Rattle.event_script.specs.declared.event.Event.{Event}
use Rattle.event_script.specs.declared.event.Event.TheVariants.{AtNode, AtHouse}
use Rattle.event_script.specs.declared.event.HouseEvent.TheVariants as house
use Rattle.event_script.specs.declared.event.NodeEvent.TheVariants as node
use Rattle.chronicle.specs.declared.chronicle.Delivery.{Delivery}
use Rattle.chronicle.specs.declared.chronicle.Delivery.TheVariants.{Came, Looked}
use Rattle.chronicle.specs.declared.kept.Entry.{Entry}
use Rattle.chronicle.specs.History.{entry}

-- a packet of a number comes to the node of a place, or where there is no place to the
-- clearinghouse
abbrev pub delivery : Option ℕ → ℕ → Event
delivery (Some p) index = AtNode p (node.Deliver index)
delivery None index = AtHouse (house.Deliver index)

-- what was told of it, if a packet came
abbrev pub told_in : Option ℕ → Delivery → Option Entry
told_in place (Came arrived committed) = Some (entry (delivery place arrived.index) committed.told)
told_in place (Looked seen) = None

-- the entries that come to the history by it: one or none
abbrev pub entered : Option ℕ → Delivery → List Entry
entered place (Came arrived committed) = entry (delivery place arrived.index) committed.told ∷ []
entered place (Looked seen) = []
