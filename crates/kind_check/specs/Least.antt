-- The least of faults that are met one after another.
use Rattle.std.specs.Prelude.{Bool, nat_lt, ◌==◌, ◌&&◌, ◌||◌, if◌then◌else◌, List, [], ◌∷◌, Option, Some, None}
use Rattle.kind_check.specs.Faults.{Fault, number_of_fault}

-- whether f stands before g: at a smaller offset, or at the same with a smaller number
abbrev pub is_before : Fault → Fault → Bool
is_before f g = nat_lt f.0 g.0 || (f.0 == g.0 && nat_lt (number_of_fault f.1) (number_of_fault g.1))

-- the least fault so far, if there is one, and one more
abbrev pub earlier : Option Fault → Fault → Option Fault
earlier None f = Some f
earlier (Some g) f = if is_before f g then Some f else Some g

-- the least fault so far, if there is one, and further ones
abbrev pub least_with : Option Fault → List Fault → Option Fault
least_with least [] = least
least_with least (f ∷ fs) = least_with (earlier least f) fs
