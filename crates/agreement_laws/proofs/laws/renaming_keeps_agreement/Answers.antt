use Rattle.agreement_laws.proofs.Granting.{thief_agrees}
use Rattle.agreement_laws.proofs.laws.renaming_keeps_agreement.Goals as goal

pub returns-clause-thief : goal.returns-clause-thief
returns-clause-thief c = thief_agrees
