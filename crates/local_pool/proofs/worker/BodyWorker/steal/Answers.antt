use Rattle.std.proofs.Common.{rules}
use Rattle.local_pool.proofs.worker.BodyWorker.steal.Goals as goal

pub returns-in_err-ticket-clause-empty : goal.returns-in_err-ticket-clause-empty
returns-in_err-ticket-clause-empty g c = search rules
