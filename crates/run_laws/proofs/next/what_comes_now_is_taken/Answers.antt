use Rattle.run_laws.proofs.NextSteps.{next_steps}
use Rattle.run_laws.proofs.next.what_comes_now_is_taken.Goals as goal

pub returns : goal.returns
returns c = λ job w ok sound stands. next_steps job ok w sound stands
