use Rattle.std.proofs.Common.{rules}
use Rattle.turn_lock.proofs.Moves.{deals}
use Rattle.turn_lock.proofs.lock.deal.Goals as goal

pub split_seat-seat-requires : goal.split_seat-seat-requires
split_seat-seat-requires g c = (
  search rules,
  search rules,
  deals g.T.KeepsHistory.history g.T.KeepsHistory.actor_of g.T.KeepsHistory.fixed _ _ _ c.requires.free.0,
)
