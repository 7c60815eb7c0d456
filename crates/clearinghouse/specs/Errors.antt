-- The numbers of errors.
use Rattle.std.specs.Prelude.{ℕ}
use Rattle.ids.specs.declared.error_numbers.TheConstants.{SPENT, JOB_MISMATCH, DAMAGED, DEVICE, STORE_VERSION, ROSTER_FULL, MEMORY}
use Rattle.packet_fields.specs.Faults.{number_of_fault}
use Rattle.checkpoint.specs.declared.record.StoreError.{StoreError}
use Rattle.checkpoint.specs.declared.record.StoreError.TheVariants as store
use Rattle.clearinghouse.specs.declared.error.HouseError.{HouseError}
use Rattle.clearinghouse.specs.declared.error.HouseError.TheVariants.{Bytes, Spent, JobMismatch, Damaged, Device, Version, RosterFull, Memory}
use Rattle.clearinghouse.specs.declared.parts.Stop.{Stop}
use Rattle.clearinghouse.specs.declared.parts.Stop.TheVariants as by

abbrev pub number_of_error : HouseError → ℕ
number_of_error (Bytes fault) = number_of_fault fault
number_of_error Spent = SPENT
number_of_error JobMismatch = JOB_MISMATCH
number_of_error Damaged = DAMAGED
number_of_error Device = DEVICE
number_of_error Version = STORE_VERSION
number_of_error RosterFull = ROSTER_FULL
number_of_error Memory = MEMORY

-- what a stopped clearinghouse answers
abbrev pub error_of_stop : Stop → HouseError
error_of_stop by.Device = Device
error_of_stop by.Memory = Memory

-- what a checkpoint's store refuses
abbrev pub error_of_store : StoreError → HouseError
error_of_store store.Spent = Spent
error_of_store store.JobMismatch = JobMismatch
error_of_store store.Damaged = Damaged
error_of_store store.Device = Device
error_of_store store.Version = Version
