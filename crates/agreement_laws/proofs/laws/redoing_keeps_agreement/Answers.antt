use Rattle.agreement_laws.proofs.Granting.{redone_agrees}
use Rattle.agreement_laws.proofs.laws.redoing_keeps_agreement.Goals as goal

pub returns : goal.returns
returns c = redone_agrees
