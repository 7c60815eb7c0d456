use Rattle.move_laws.proofs.Others.{beside}
use Rattle.move_laws.proofs.Sent.{house_all, used_all}
use Rattle.move_laws.proofs.laws.others_stay_as_they_were.Goals as goal

pub returns-clause-others : goal.returns-clause-others
returns-clause-others c = λ m i j v w way other. beside way j other

pub returns-clause-house : goal.returns-clause-house
returns-clause-house c = λ m i v w way. house_all way

pub returns-clause-names : goal.returns-clause-names
returns-clause-names c = λ m i v w way. used_all way
