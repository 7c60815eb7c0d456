use Rattle.std.proofs.Common.{arith, []}
use Rattle.turn_lock.specs.Views.{no_view}
use Rattle.turn_lock.proofs.Moves.{comes}
use Rattle.turn_lock.proofs.lock.TurnLock.gathering.Goals as goal

pub load_new_seat-all-requires : goal.load_new_seat-all-requires
load_new_seat-all-requires g c = (
  omega arith,
  comes g.T.KeepsHistory.history g.T.KeepsHistory.actor_of g.T.KeepsHistory.fixed _ _ (no_view, []),
)
