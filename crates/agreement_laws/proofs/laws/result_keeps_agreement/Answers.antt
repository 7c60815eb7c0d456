use Rattle.agreement_laws.proofs.Granting.{result_agrees}
use Rattle.agreement_laws.proofs.laws.result_keeps_agreement.Goals as goal

pub returns-clause-content : goal.returns-clause-content
returns-clause-content c = λ job content r o agrees there is. (result_agrees job content r o agrees there is).content

pub returns-clause-fill : goal.returns-clause-fill
returns-clause-fill c = λ job content r o agrees there is. (result_agrees job content r o agrees there is).fill
