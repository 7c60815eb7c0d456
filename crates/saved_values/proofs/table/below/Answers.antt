use Rattle.saved_values.proofs.Under.{under_list}
use Rattle.saved_values.proofs.table.below.Goals as goal

pub returns-clause-list : goal.returns-clause-list
returns-clause-list c = λ list. rw c.in_ok-found.ensures (under_list c.args.root.now c.args.values.now list)
