use Rattle.std.proofs.Common.{Some}
use Rattle.std.proofs.lemmas.List.Elements.{All-pop}
use Rattle.start_words.specs.Words.{IsPenOf}
use Rattle.node_runner.proofs.crew.node_of.Goals as goal

pub returns-clause-pens : goal.returns-clause-pens
returns-clause-pens g c = λ w own. (All-pop (IsPenOf w) _ _ (Some c.in-Some.pen) c.in-Some.ensures.items own).0

pub returns-clause-node : goal.returns-clause-node
returns-clause-node g c = λ w own. (
  (All-pop (IsPenOf w) _ _ (Some c.in-Some.pen) c.in-Some.ensures.items own).1,
  c.in_ok-desk.ensures.desk,
)
