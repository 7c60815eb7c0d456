use Rattle.move_laws.proofs.Sent.{keeps_all, runs_on}
use Rattle.move_laws.proofs.laws.what_was_sent_stays_sent.Goals as goal

pub returns-clause-keeps : goal.returns-clause-keeps
returns-clause-keeps c = λ m i v w way. keeps_all way

pub returns-clause-run : goal.returns-clause-run
returns-clause-run c = λ m i v w run way. runs_on run way
