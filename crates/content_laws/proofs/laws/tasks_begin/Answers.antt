use Rattle.content_laws.proofs.Beginning.{task_begins}
use Rattle.content_laws.proofs.Rooting.{first_fits}
use Rattle.content_laws.proofs.laws.tasks_begin.Goals as goal

pub returns-clause-begun : goal.returns-clause-begun
returns-clause-begun c = task_begins

pub returns-clause-first : goal.returns-clause-first
returns-clause-first c = first_fits
