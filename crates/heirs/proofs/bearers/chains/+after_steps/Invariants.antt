use Rattle.heirs.proofs.bearers.chains.+after_steps.Given as goal

abbrev pub decreases-after_steps : goal.decreases-after_steps
decreases-after_steps l = l.steps
