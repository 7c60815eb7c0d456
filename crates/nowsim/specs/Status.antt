-- The statuses that the program ends with.
use Rattle.std.specs.Prelude.{ℕ}
use Rattle.replaying.specs.Status as replays
use Rattle.replaying.specs.declared.fault.ReplayFault.TheVariants as replay
use Rattle.replaying.specs.declared.words.WordsFault.{WordsFault}
use Rattle.replaying.specs.declared.words.WordsFault.TheVariants as words
use Rattle.nowsim.specs.declared.command.SimFault.{SimFault}
use Rattle.nowsim.specs.declared.command.SimFault.TheVariants as sim

-- words that ask for no answer
abbrev pub of_words : WordsFault → SimFault
of_words words.Usage = sim.Usage
of_words words.Memory = sim.Replay replay.Memory

-- words that ask for nothing that is there are 2, and what isn't replayed has its own status
abbrev pub status_of : SimFault → ℕ
status_of sim.Usage = 2
status_of (sim.Replay fault) = replays.status_of fault
