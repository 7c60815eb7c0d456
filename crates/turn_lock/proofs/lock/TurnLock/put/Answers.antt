use Rattle.std.proofs.Common.{rules, refl}
use Rattle.turn_lock.proofs.Moves.{brings, puts}
use Rattle.turn_lock.proofs.lock.TurnLock.put.Goals as goal

pub store-requires : goal.store-requires
store-requires g c =
    let grown = c.requires.grown in
    let kept = c.args.kept in
    let is = brings g.T.KeepsHistory.history g.T.KeepsHistory.actor_of g.T.KeepsHistory.fixed c.seat.inside.seat.me
    c.exchange.new.seat.me _ _ grown.0 (g.T.KeepsHistory.fixed kept) kept c.seat.invariant.claims (search rules)
    (search rules) c.seat.invariant.slots (search rules) in (
      search rules,
      search rules,
      puts g.T.KeepsHistory.history g.T.KeepsHistory.actor_of g.T.KeepsHistory.fixed _ _ _ _
          _ _ grown.0 grown.1 (g.T.KeepsHistory.fixed kept) kept _ is grown.3 refl (search rules),
    )
