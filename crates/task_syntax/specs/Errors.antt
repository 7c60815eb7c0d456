-- The numbers of refusals.
use Rattle.std.specs.Prelude.{ℕ}
use Rattle.ids.specs.declared.error_numbers.TheConstants.{UNEXPECTED, TOO_LONG, TOO_DEEP_NEST, NUMBER_RANGE, NOT_ASCII, MEMORY}
use Rattle.task_syntax.specs.declared.error.ParseError.{ParseError}
use Rattle.task_syntax.specs.declared.error.ParseError.TheVariants.{Unexpected, TooLong, TooDeepNest, NumberRange, NotAscii, Memory}
use Rattle.task_syntax.specs.declared.error.PrintError.{PrintError}
use Rattle.task_syntax.specs.declared.error.PrintError.TheVariants as print

-- of a text
abbrev pub number_of_error : ParseError → ℕ
number_of_error (Unexpected at) = UNEXPECTED
number_of_error (TooLong at) = TOO_LONG
number_of_error (TooDeepNest at) = TOO_DEEP_NEST
number_of_error (NumberRange at) = NUMBER_RANGE
number_of_error (NotAscii at) = NOT_ASCII
number_of_error Memory = MEMORY

-- of a program that is printed
abbrev pub number_of_print_error : PrintError → ℕ
number_of_print_error print.TooLong = TOO_LONG
number_of_print_error print.Memory = MEMORY
