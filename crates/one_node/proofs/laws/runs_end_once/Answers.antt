use Rattle.one_node.proofs.Ending.{not_short, one_number, one_outcome}
use Rattle.one_node.proofs.laws.runs_end_once.Goals as goal

pub returns : goal.returns
returns c = record { outcome = one_outcome; turns = one_number; short = not_short }
