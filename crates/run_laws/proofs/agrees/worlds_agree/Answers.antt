use Rattle.run_laws.proofs.Sound.{sound_agrees, sound_safe}
use Rattle.run_laws.proofs.agrees.worlds_agree.Goals as goal

pub returns-clause-agrees : goal.returns-clause-agrees
returns-clause-agrees c = λ job w sound. sound_agrees job w sound

pub returns-clause-values : goal.returns-clause-values
returns-clause-values c = λ job w i f sound e. (sound_safe job w sound).values i f e
