use Rattle.std.proofs.Common.{rules, ap, sym, subst, ◌∙◌, ◌<◌, Some, ◌∷◌, arith}
use mathlib.Core.Option.{none}
use Rattle.atomic_table.specs.Table.{step, rest}
use Rattle.turn_lock.specs.Claims.{first_entries, times_claimed}
use Rattle.turn_lock.proofs.ClaimLemmas.{claimed_here}
use Rattle.turn_lock.proofs.Moves.{take, took_out}
use Rattle.turn_lock.proofs.lock.TurnLock.attempt.Goals as goal

pub compare_exchange-found-requires : goal.compare_exchange-found-requires
compare_exchange-found-requires g c =
    let claimed = subst (λ cs. 0 < times_claimed c.seat.inside.actor cs) (sym c.seat.invariant.claims)
    (claimed_here c.seat.inside.actor (first_entries c.seat.inside.seat.me.0.claims)) in (
      search rules,
      search rules,
      take g.T.KeepsHistory.history g.T.KeepsHistory.actor_of g.T.KeepsHistory.fixed _ _ _
          c.seat.inside.actor _ _ (omega arith) claimed (search rules),
    )

pub exchange-requires : goal.exchange-requires
exchange-requires g c =
    let t = took_out g.T.KeepsHistory.history g.T.KeepsHistory.actor_of g.T.KeepsHistory.fixed (step 0 0 0 0 none) _ _ _
    (search rules) c.compare_exchange-found.ensures.2 in
    let slots = ap (λ m. m.1) t.1 in
    (search rules, (Some t.0, slots ∙ ap (λ l. (0, Some t.0) ∷ rest l) (sym slots)))
