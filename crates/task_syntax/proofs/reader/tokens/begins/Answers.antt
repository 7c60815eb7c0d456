use Rattle.task_syntax.proofs.Meeting.{stands_or_lacks}
use Rattle.task_syntax.proofs.reader.tokens.begins.Goals as goal

pub returns : goal.returns
returns c = rw c.is_some.ensures (stands_or_lacks _ _ _ c.word.ensures.some c.word.ensures.none)
