use Rattle.std.proofs.Common.{ap, ◌∙◌, sym, length, arith}
use Rattle.turn_lock.specs.Histories.{own}
use Rattle.turn_lock.specs.Claims.{entries_in}
use Rattle.turn_lock.proofs.Moves.{some_same}
use Rattle.turn_lock.proofs.Closed.{closed}
use Rattle.turn_lock.proofs.lock.TurnLock.close.Goals as goal

pub unreachable-requires : goal.unreachable-requires
unreachable-requires g c =
    let key = c.self.invariant.2 in
    let actors = ap (λ l. l.actors) c.self.view_is in
    let long = ap (λ a. length a.claims) c.all.view_is in
    let whole = c.requires.whole in
    let t = closed g.T.KeepsHistory.history g.T.KeepsHistory.actor_of g.T.KeepsHistory.fixed _ _ c.all.inside.all.me.0 _
    _ c.take.result c.all.invariant.0 (omega arith) c.close_with-closed.ensures.values.2 c.take.ensures.value in
    c.in_default.not-Some t.0 t.1

pub returns-clause-told : goal.returns-clause-told
returns-clause-told g c = λ a.
    let key = c.self.invariant.2 in
    let actors = ap (λ l. l.actors) c.self.view_is in
    let long = ap (λ s. length s.claims) c.all.view_is in
    let whole = c.requires.whole in
    let t = closed g.T.KeepsHistory.history g.T.KeepsHistory.actor_of g.T.KeepsHistory.fixed _ _ c.all.inside.all.me.0 _
    _ c.take.result c.all.invariant.0 (omega arith) c.close_with-closed.ensures.values.2 c.take.ensures.value in
    ap (λ k. own g.T.KeepsHistory.actor_of a (g.T.KeepsHistory.history k)) (some_same (sym c.in-Some.is ∙ t.1))
    ∙ (t.3 a ∙ ap (λ s. entries_in s.claims a) c.all.view_is)

pub returns-clause-fixed : goal.returns-clause-fixed
returns-clause-fixed g c =
    let key = c.self.invariant.2 in
    let actors = ap (λ l. l.actors) c.self.view_is in
    let long = ap (λ s. length s.claims) c.all.view_is in
    let whole = c.requires.whole in
    let t = closed g.T.KeepsHistory.history g.T.KeepsHistory.actor_of g.T.KeepsHistory.fixed _ _ c.all.inside.all.me.0 _
    _ c.take.result c.all.invariant.0 (omega arith) c.close_with-closed.ensures.values.2 c.take.ensures.value in
    ap g.T.KeepsHistory.fixed (some_same (sym c.in-Some.is ∙ t.1)) ∙ (t.2 ∙ ap (λ l. l.fixed) c.self.view_is)
