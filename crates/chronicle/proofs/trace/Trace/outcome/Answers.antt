use Rattle.std.proofs.Common.{rules}
use Rattle.chronicle.proofs.Outcomes.{first_meant}
use Rattle.chronicle.proofs.trace.Trace.outcome.Goals as goal

pub returns-clause-meant : goal.returns-clause-meant
returns-clause-meant c = λ job first h. first_meant job first c.args.self.now c.first_outcome.result (search rules) h
