use Rattle.run_laws.proofs.Sound.{all_safe}
use Rattle.run_laws.proofs.runs.runs_are_safe.Goals as goal

pub returns : goal.returns
returns c = λ job d entries worlds ok can runs. all_safe job ok d entries worlds can runs
