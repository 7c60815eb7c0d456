use Rattle.agreement_laws.proofs.Granting.{granted_task, grant_agrees}
use Rattle.agreement_laws.proofs.laws.grant_keeps_agreement.Goals as goal

pub returns-clause-task : goal.returns-clause-task
returns-clause-task c = granted_task

pub returns-clause-content : goal.returns-clause-content
returns-clause-content c = grant_agrees
