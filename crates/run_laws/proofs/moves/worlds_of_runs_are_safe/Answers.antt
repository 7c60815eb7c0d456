use Rattle.run_laws.proofs.Going.{run_sound}
use Rattle.run_laws.proofs.Sound.{sound_safe}
use Rattle.run_laws.proofs.Staying.{runs_stay}
use Rattle.run_laws.proofs.moves.worlds_of_runs_are_safe.Goals as goal

pub returns-clause-holder : goal.returns-clause-holder
returns-clause-holder c = λ job d entries worlds v g a b ok can runs m p q.
    (sound_safe job v (run_sound job ok d entries worlds v can runs m)).holder g a b p q

pub returns-clause-once : goal.returns-clause-once
returns-clause-once c = λ job d entries worlds v ok can runs m.
    (sound_safe job v (run_sound job ok d entries worlds v can runs m)).once

pub returns-clause-outcome : goal.returns-clause-outcome
returns-clause-outcome c = λ job d entries worlds v o ok can runs m e.
    (sound_safe job v (run_sound job ok d entries worlds v can runs m)).outcome o e

pub returns-clause-stays : goal.returns-clause-stays
returns-clause-stays c = λ job d entries worlds ok can runs. runs_stay job ok d entries worlds can runs
