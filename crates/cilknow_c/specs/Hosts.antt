-- What calls come to, of an actor over a host's file.
use Rattle.std.specs.Prelude.{ℕ, ℤ, List}
use Rattle.disk.specs.declared.device.Disk.{Ghosts}
use Rattle.disk.specs.declared.file.FileDisk.{FileDisk}
use Rattle.disk.specs.contracts.file.FileDiskDisk.TheImpl as disk
use Rattle.actors.specs.Numbers.{IsCalledBy, IsGivenBy, IsTakenBy}
use Rattle.actors.specs.contracts.host_file.HostFile.{the_row}
use Rattle.actors.specs.contracts.host_file.HostFileFileExt.TheImpl as ext
use Rattle.actors.specs.contracts.host_file.HostFileOpenFile.TheImpl as open_file
use Rattle.actors.specs.declared.host_actor.HostActor.{HostActor}

-- what a disk over a host's file is to contracts
abbrev of_disk : Ghosts (FileDisk the_row.Denot)
of_disk = disk.ghosts the_row ext.ghosts disk.no_dict open_file.ghosts disk.no_dict disk.no_dict

abbrev pub CallComes : (what a : ℕ) → ℤ → (before after : HostActor) → Type 0
CallComes what a result before after = IsCalledBy of_disk.device of_disk.planned what a result before.actor after.actor

abbrev pub TakeComes : List ℕ → ℤ → (before after : HostActor) → Type 0
TakeComes bytes result before after = IsTakenBy of_disk.device of_disk.planned bytes result before.actor after.actor

abbrev pub GiveComes : ℕ → ℤ → (buffer given : List ℕ) → (before after : HostActor) → Type 0
GiveComes what result buffer given before after = IsGivenBy what result buffer given before.actor after.actor
