use Rattle.agreement_laws.proofs.Turning.{turn_agrees}
use Rattle.agreement_laws.proofs.laws.turn_keeps_agreement.Goals as goal

pub returns-clause-content : goal.returns-clause-content
returns-clause-content c = λ job known content f numbers turn accepted right sound order agrees there full is.
    (turn_agrees job known content f numbers turn accepted right sound order agrees there full is).content

pub returns-clause-fill : goal.returns-clause-fill
returns-clause-fill c = λ job known content f numbers turn accepted right sound order agrees there full is.
    (turn_agrees job known content f numbers turn accepted right sound order agrees there full is).fill
