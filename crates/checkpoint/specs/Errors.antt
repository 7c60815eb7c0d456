-- The numbers of errors.
use Rattle.std.specs.Prelude.{ℕ}
use Rattle.ids.specs.declared.error_numbers.TheConstants.{SPENT, JOB_MISMATCH, DAMAGED, DEVICE, STORE_VERSION}
use Rattle.checkpoint.specs.declared.record.StoreError.{StoreError}
use Rattle.checkpoint.specs.declared.record.StoreError.TheVariants.{Spent, JobMismatch, Damaged, Device, Version}

abbrev pub number_of_error : StoreError → ℕ
number_of_error Spent = SPENT
number_of_error JobMismatch = JOB_MISMATCH
number_of_error Damaged = DAMAGED
number_of_error Device = DEVICE
number_of_error Version = STORE_VERSION
