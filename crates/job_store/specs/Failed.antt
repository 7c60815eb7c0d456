-- A call of a device that failed.
use Rattle.std.specs.Prelude.{◌≡◌, ◌+◌, ◌%◌, ◌^◌}
use Rattle.disk.specs.Device.{Device}

-- one more call of the device failed
abbrev pub HasFailed : (old new : Device) → Type 0
HasFailed old new = new.failures ≡ (old.failures + 1) % 2 ^ 64
