use Rattle.std.proofs.Common.{length}
use Rattle.subcomputation.proofs.Fitting.{to_takes}
use Rattle.subcomputation.proofs.laws.fitting_tasks_are_few.Goals as goal

pub returns-clause-thread : goal.returns-clause-thread
returns-clause-thread c = λ p t accepted fits.
    (c.accepted_threads_are_few.ensures p t.thread (length t.numbers) accepted
    (to_takes p t.thread (length t.numbers) fits)).0

pub returns-clause-numbers : goal.returns-clause-numbers
returns-clause-numbers c = λ p t accepted fits.
    (c.accepted_threads_are_few.ensures p t.thread (length t.numbers) accepted
    (to_takes p t.thread (length t.numbers) fits)).1
