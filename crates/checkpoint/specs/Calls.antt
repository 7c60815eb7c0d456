-- Calls of a device, made one after another.
use Rattle.std.specs.Prelude.{◌≡◌, ◌+◌, ◌<◌, ◌⊎◌, ℕ, suc, IsTrue, List, [], ◌∷◌, length, take, Option, None, IsSome}
use Rattle.disk.specs.declared.cells.Cell.{Cell}
use Rattle.disk.specs.Crash.{Shrinks, Follows, Torn, Shortened}
use Rattle.disk.specs.Device.{Device, Failed, Settles, SettlesEither, passed}
use Rattle.disk.specs.File.{CrashLeaves, synced, written_file}

pub data DeviceCall : Type 0 where
  Read : ℕ → DeviceCall
  Write : ℕ → List ℕ → DeviceCall
  Cut : ℕ → DeviceCall
  Sync : DeviceCall

-- what a call that passes makes of a file
abbrev pub changed : List Cell → DeviceCall → List Cell
changed file (Read most) = file
changed file (Write at bytes) = written_file file at bytes
changed file (Cut len) = take len file
changed file Sync = synced file

-- a device after calls that passed
unfoldable pub after : Device → List DeviceCall → Device
after d [] = d
after d (call ∷ calls) = after (passed d (changed d.file call)) calls

-- what a crash may leave after a call, whether it passed or failed
abbrev pub Tears : DeviceCall → (List ℕ → Type 0) → (List ℕ → Type 0) → Type 0
Tears (Read most) = Shrinks
Tears (Write at bytes) = Follows (Torn at (length bytes))
Tears (Cut len) = Follows (Shortened len)
Tears Sync = Shrinks

-- a call that may lack memory, or goes past the end
abbrev pub Lacks : DeviceCall → List Cell → Type 0
Lacks (Read most) file = (0 < most) × (0 < length file)
Lacks (Write at bytes) file = length file < at + length bytes
Lacks (Cut len) file = length file < len
Lacks Sync file = ⊥

-- to what a call that failed settles a file: as it was, or as the call was to make it
abbrev pub SettledBy : DeviceCall → (old new : List Cell) → Type 0
SettledBy (Read most) old new = Settles old new
SettledBy (Write at bytes) old new = SettlesEither old (written_file old at bytes) new
SettledBy (Cut len) old new = SettlesEither old (take len old) new
SettledBy Sync old new = Settles old new

-- a call that failed; on a device that can be cut only where that was planned, or it lacked
-- something
pub record Fails (call : DeviceCall) (plan : Option (List ℕ)) (old new : Device) : Type 0 where
  pub failed : Failed old new plan
  pub settled : SettledBy call old.file new.file
  pub torn : Tears call (CrashLeaves old.file) (CrashLeaves new.file)
  pub cause : IsTrue old.can_cut → IsSome plan ⊎ Lacks call old.file

-- all of these calls passed, and none was planned to fail
pub record Passed (calls : List DeviceCall) (plan : ℕ → Option (List ℕ)) (old new : Device) : Type 0 where
  pub made : new ≡ after old calls
  pub unplanned : (i : ℕ) → i < length calls → plan i ≡ None

-- one of these calls failed, and those before it passed
unfoldable pub Stopped : List DeviceCall → (ℕ → Option (List ℕ)) → Device → Device → Type 0
Stopped [] plan old new = ⊥
Stopped (call ∷ calls) plan old new =
    Fails call (plan 0) old new ⊎ ((plan 0 ≡ None) × Stopped calls (λ i. plan (suc i)) (passed old (changed old.file call)) new)
