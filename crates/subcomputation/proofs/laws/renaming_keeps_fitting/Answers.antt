use Rattle.subcomputation.proofs.Fitting.{parent_fits, thief_fits}
use Rattle.subcomputation.proofs.laws.renaming_keeps_fitting.Goals as goal

pub returns-clause-parent : goal.returns-clause-parent
returns-clause-parent c = parent_fits

pub returns-clause-thief : goal.returns-clause-thief
returns-clause-thief c = thief_fits
