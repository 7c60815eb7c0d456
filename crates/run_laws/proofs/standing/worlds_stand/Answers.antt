use Rattle.run_laws.proofs.StandingSteps.{first_stands, step_stands}
use Rattle.run_laws.proofs.standing.worlds_stand.Goals as goal

pub returns-clause-first : goal.returns-clause-first
returns-clause-first c = λ d. first_stands d

pub returns-clause-step : goal.returns-clause-step
returns-clause-step c = λ job w e o sound right step. step_stands job w sound right e o step
