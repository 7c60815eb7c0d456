use Rattle.agreement_laws.proofs.Saving.{known_agrees, put_saved_agrees, stripped_value, under_agrees}
use Rattle.agreement_laws.proofs.laws.saved_values_agree.Goals as goal

pub returns-clause-known : goal.returns-clause-known
returns-clause-known c = known_agrees

pub returns-clause-below : goal.returns-clause-below
returns-clause-below c = under_agrees

pub returns-clause-put : goal.returns-clause-put
returns-clause-put c = put_saved_agrees

pub returns-clause-stripped : goal.returns-clause-stripped
returns-clause-stripped c = stripped_value
