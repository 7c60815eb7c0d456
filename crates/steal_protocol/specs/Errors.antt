-- The numbers of errors.
use Rattle.std.specs.Prelude.{ℕ}
use Rattle.ids.specs.declared.error_numbers.TheConstants.{BUSY, SPENT}
use Rattle.steal_protocol.specs.declared.asker.AskError.{AskError}
use Rattle.steal_protocol.specs.declared.asker.AskError.TheVariants.{Busy, Spent}

abbrev pub number_of_error : AskError → ℕ
number_of_error Busy = BUSY
number_of_error Spent = SPENT
