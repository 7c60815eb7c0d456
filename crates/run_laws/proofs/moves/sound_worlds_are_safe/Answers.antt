use Rattle.run_laws.proofs.Sound.{sound_safe}
use Rattle.run_laws.proofs.moves.sound_worlds_are_safe.Goals as goal

pub returns-clause-holder : goal.returns-clause-holder
returns-clause-holder c = λ job w g a b sound p q. (sound_safe job w sound).holder g a b p q

pub returns-clause-once : goal.returns-clause-once
returns-clause-once c = λ job w sound. (sound_safe job w sound).once

pub returns-clause-outcome : goal.returns-clause-outcome
returns-clause-outcome c = λ job w o sound e. (sound_safe job w sound).outcome o e
