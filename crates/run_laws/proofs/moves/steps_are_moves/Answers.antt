use Rattle.run_laws.specs.Sound.{sound_here}
use Rattle.run_laws.proofs.Going.{first_sound, run_sound, step_sound}
use Rattle.run_laws.proofs.moves.steps_are_moves.Goals as goal

pub returns-clause-first : goal.returns-clause-first
returns-clause-first c = λ job d can. first_sound job d can

pub returns-clause-step : goal.returns-clause-step
returns-clause-step c = λ job w e o sound ok step. step_sound job ok sound.tied.view w (sound_here sound) e o step

pub returns-clause-runs : goal.returns-clause-runs
returns-clause-runs c = λ job d entries worlds v ok can runs m. run_sound job ok d entries worlds v can runs m
