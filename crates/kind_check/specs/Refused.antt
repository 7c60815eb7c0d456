-- What is said of a refused program.
use Rattle.std.specs.Prelude.{ℕ, List}
use Rattle.ids.specs.declared.error_numbers.TheConstants.{MEMORY}
use Rattle.kind_check.specs.declared.checked.KindError.{KindError}
use Rattle.kind_check.specs.declared.checked.KindError.TheVariants as error
use Rattle.kind_check.specs.Faults.{Fault, IsLeast, number_of_fault}

-- the answer is the least fault; nothing is said when out of memory
abbrev pub RefusedFor : List Fault → KindError → Type 0
RefusedFor fs (error.Fault kind at) = IsLeast fs (at, kind)
RefusedFor fs error.Memory = Unit {0}

-- the number of a refusal
abbrev pub number_of_error : KindError → ℕ
number_of_error (error.Fault kind at) = number_of_fault kind
number_of_error error.Memory = MEMORY
