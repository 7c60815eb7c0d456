-- The numbers of errors.
use Rattle.std.specs.Prelude.{ℕ}
use Rattle.ids.specs.declared.error_numbers.TheConstants.{RUN_TURNS_SPENT, SPENT, MEMORY}
use Rattle.one_node.specs.declared.fault.RunFault.{RunFault}
use Rattle.one_node.specs.declared.fault.RunFault.TheVariants.{TurnsSpent, NumbersSpent, Memory}

abbrev pub number_of_error : RunFault → ℕ
number_of_error TurnsSpent = RUN_TURNS_SPENT
number_of_error NumbersSpent = SPENT
number_of_error Memory = MEMORY
