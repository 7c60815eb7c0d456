use Rattle.run_laws.proofs.Sound.{sound_loses}
use Rattle.run_laws.proofs.loss.nothing_is_lost.Goals as goal

pub returns : goal.returns
returns c = λ job w sound. sound_loses job w sound
