use Rattle.std.proofs.Common.{◌≡◌, ◌+◌, ◌++◌, ◌∷◌, [], take, refl, ap, ◌∙◌}
use Rattle.std.proofs.lemmas.Option.{slice_get_read}
use Rattle.world.proofs.Running.{first_under_way, next_under_way, one_out_of_memory, take_next}
use Rattle.world.proofs.runs.carried_out.Goals as goal

pub loop-event-init : goal.loop-event-init
loop-event-init c =
    let first = c.in_ok-run.ensures.first in (
      c.in_ok-run.ensures.job,
      c.in_ok-run.ensures.none.0,
      c.in_ok-run.ensures.none.1,
      first_under_way c.args.job.now first.0 c.in_ok-run.run'.world.world first.1 first.2,
    )

pub returns-then-not-carry_on-clause-run : goal.returns-then-not-carry_on-clause-run
returns-then-not-carry_on-clause-run c =
    let at = c.loop-event.invariant in
    let s = c.if-not-carry_on.ensures.out_of_memory refl in
    let next = slice_get_read c.args.events.now _ c.loop-event.event-index c.event-item.result refl
    c.loop-event-test.true c.event-item.is in
    rw (s.3, at.1, s.5)
    (one_out_of_memory c.args.job.now c.args.events.now
    (take c.loop-event.event-index c.args.events.now) c.loop-event.event-index s.4 c.event-item.result
    c.loop-event.run.world s.0 c.carry_on.new.self.world at.0 at.3 refl next s.1 s.2)

pub loop-event-preserved : goal.loop-event-preserved
loop-event-preserved c =
    let at = c.loop-event.invariant in
    let s = c.if-not-carry_on.ensures.carried refl in
    let on = next_under_way c.args.job.now
    (take c.loop-event.event-index c.args.events.now) c.loop-event.run.world.job c.loop-event.run.world.world
    c.carry_on.new.self.world.world c.event-item.result s.0 at.0 at.3 s.1 s.2 in
    let front : take (c.loop-event.event-index + 1) c.args.events.now
    ≡ take c.loop-event.event-index c.args.events.now ++ c.event-item.result ∷ [] =
    take_next c.args.events.now c.loop-event.event-index c.event-item.result c.loop-event-test.true c.event-item.is in
    (c.carry_on.ensures.job ∙ at.0, s.3 ∙ ap (λ n. n + 1) at.1, s.4 ∙ at.2, rw front on)
