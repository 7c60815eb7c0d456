use Rattle.std.proofs.Common.{rules}
use Rattle.turn_lock.proofs.Moves.{gathers}
use Rattle.turn_lock.proofs.gathering.Gathering.add.Goals as goal

pub join_seat-requires : goal.join_seat-requires
join_seat-requires g c = (
  search rules,
  search rules,
  search rules,
  search rules,
  gathers g.T.KeepsHistory.history g.T.KeepsHistory.actor_of g.T.KeepsHistory.fixed _ _ _ _ _ (search rules)
      (search rules),
)
