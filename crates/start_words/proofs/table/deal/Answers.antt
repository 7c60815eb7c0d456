use Rattle.std.proofs.Common.{rules}
use Rattle.start_words.proofs.Moves.{deals}
use Rattle.start_words.proofs.table.deal.Goals as goal

pub split_seat-seat-requires : goal.split_seat-seat-requires
split_seat-seat-requires c = (search rules, search rules, deals _ _ _ c.requires.part c.requires.blank)
