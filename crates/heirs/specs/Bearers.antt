-- Who has the work of each worker of a roster, as a table.
use Rattle.std.specs.Prelude.{ℕ, List, Option, None, Some}
use Rattle.ids.specs.Named.{Name, item_in}
use Rattle.heirs.specs.declared.bearers.Bearing.{Bearing}

abbrev pub name_of_bearing : Bearing → Name
name_of_bearing b = (b.worker, 0)

-- who has a worker's work by what the table says of it: itself where it isn't there
abbrev pub said_of : ℕ → Option Bearing → Option ℕ
said_of i None = Some i
said_of i (Some b) = b.bearer

abbrev pub bearer_in : ℕ → List Bearing → Option ℕ
bearer_in i table = said_of i (item_in name_of_bearing (i, 0) table)
