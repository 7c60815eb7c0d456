use Rattle.agreement_laws.proofs.Turning.{given_agrees}
use Rattle.agreement_laws.proofs.laws.whole_keeps_agreement.Goals as goal

pub returns-clause-content : goal.returns-clause-content
returns-clause-content c = λ job content f numbers v sound order agrees there full is.
    (given_agrees job content f numbers v sound order agrees there full is).content

pub returns-clause-fill : goal.returns-clause-fill
returns-clause-fill c = λ job content f numbers v sound order agrees there full is.
    (given_agrees job content f numbers v sound order agrees there full is).fill
