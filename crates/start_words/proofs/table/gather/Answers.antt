use Rattle.std.proofs.Common.{rules}
use Rattle.start_words.proofs.Moves.{gathers}
use Rattle.start_words.proofs.table.gather.Goals as goal

pub join_seat-requires : goal.join_seat-requires
join_seat-requires c = (search rules, search rules, search rules, search rules, gathers _ _ _ _ _)
