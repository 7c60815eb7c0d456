-- The numbers of errors.
use Rattle.std.specs.Prelude.{ℕ}
use Rattle.ids.specs.declared.error_numbers.TheConstants.{PENDING, OFFER_TOO_BIG, HOP_SPENT, NO_HEIR, MEMORY}
use Rattle.departure.specs.declared.freezing.FreezeError.{FreezeError}
use Rattle.departure.specs.declared.freezing.FreezeError.TheVariants.{Pending, TooBig, HopSpent, NoHeir, Memory}

abbrev pub number_of_error : FreezeError → ℕ
number_of_error Pending = PENDING
number_of_error TooBig = OFFER_TOO_BIG
number_of_error HopSpent = HOP_SPENT
number_of_error NoHeir = NO_HEIR
number_of_error Memory = MEMORY
