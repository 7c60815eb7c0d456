use Rattle.std.proofs.Common.{◌++◌, [], refl, sym, ◌∙◌, arith}
use Rattle.world.proofs.Running.{bytes_out_of_memory, cut_left, first_under_way, get_left, room_left, script_ends, script_goes_on, script_out_of_memory, take_past}
use Rattle.world.proofs.runs.script_carried_out.Goals as goal

pub loop-event-init : goal.loop-event-init
loop-event-init g c =
    let begun = c.in-Ok-begun.ensures in
    let first = begun.first in (
      begun.job,
      begun.none.1,
      [],
      c.in-Ok.ensures.events,
      sym begun.none.0,
      first_under_way c.args.job.now first.0 c.in-Ok-begun.run'.world.world first.1 first.2,
    )

pub carry_on-requires : goal.carry_on-requires
carry_on-requires g c =
    let at = c.loop-event.invariant in
    let next = rw c.in-Ok-Some.field-0-is at c.in-Ok-Some.ensures.next in
    let room = room_left c.args.text.now at.2 c.loop-event.script c.next.new.self c.in-Ok-Some.event
    c.loop-event.run.done at.3 next at.4 in
    omega (arith, room)

pub returns-then-not-carry_on-clause-run : goal.returns-then-not-carry_on-clause-run
returns-then-not-carry_on-clause-run g c =
    let at = c.loop-event.invariant in
    let next = rw c.in-Ok-Some.field-0-is at c.in-Ok-Some.ensures.next in
    let s = c.if-not-carry_on.ensures.out_of_memory refl in
    let events = at.2 ++ c.loop-event.script in
    let get = get_left at.2 c.loop-event.script c.next.new.self c.in-Ok-Some.event c.loop-event.run.done at.4 next in (
      events,
      at.3,
      rw (s.3, s.5)
          (script_out_of_memory c.args.job.now events at.2 c.loop-event.run.done s.4 c.in-Ok-Some.event
          c.loop-event.run.world s.0 c.carry_on.new.self.world at.0 at.5
          (take_past at.2 c.loop-event.script c.loop-event.run.done at.4) get s.1 s.2),
    )

pub loop-event-preserved-else-not-carry_on : goal.loop-event-preserved-else-not-carry_on
loop-event-preserved-else-not-carry_on g c =
    let at = c.loop-event.invariant in
    let next = rw c.in-Ok-Some.field-0-is at c.in-Ok-Some.ensures.next in
    let s = c.if-not-carry_on.ensures.carried refl in
    let on = script_goes_on c.args.job.now c.loop-event.run.world.job c.args.text.now at.2 c.loop-event.script
    c.next.new.self c.in-Ok-Some.event c.loop-event.run.done c.carry_on.new.self.done c.loop-event.run.world.world
    c.carry_on.new.self.world.world s.0 at.0 at.3 at.4 at.5 next s.1 s.2 s.3 in
    (c.carry_on.ensures.job ∙ at.0, s.4 ∙ at.1, on.0, on.1, on.2, on.3)

pub loop-event-preserved : goal.loop-event-preserved
loop-event-preserved g c =
    let at = c.loop-event.invariant in
    let next = rw c.in-Ok-Some.field-0-is at c.in-Ok-Some.ensures.next in
    let s = c.if-not-carry_on.ensures.carried refl in
    let on = script_goes_on c.args.job.now c.loop-event.run.world.job c.args.text.now at.2 c.loop-event.script
    c.next.new.self c.in-Ok-Some.event c.loop-event.run.done c.carry_on.new.self.done c.loop-event.run.world.world
    c.carry_on.new.self.world.world s.0 at.0 at.3 at.4 at.5 next s.1 s.2 s.3 in
    (c.carry_on.ensures.job ∙ at.0, s.4 ∙ at.1, on.0, on.1, on.2, on.3)

pub returns-in-Err-next-clause-run : goal.returns-in-Err-next-clause-run
returns-in-Err-next-clause-run g c =
    let at = c.loop-event.invariant in
    let events = at.2 ++ c.loop-event.script in
    let left = cut_left c.loop-event.script c.in-Err-next.ensures.cut in
    let get = get_left at.2 c.loop-event.script left.1 left.0 c.loop-event.run.done at.4 left.2 in (
      events,
      at.3,
      bytes_out_of_memory c.args.job.now events at.2 c.loop-event.run.done _ left.0 c.loop-event.run.world
          at.5 (take_past at.2 c.loop-event.script c.loop-event.run.done at.4) get left.3,
    )

pub returns-in-Ok-None-clause-run : goal.returns-in-Ok-None-clause-run
returns-in-Ok-None-clause-run g c =
    let at = c.loop-event.invariant in
    let next = rw c.in-Ok-None.field-0-is at c.in-Ok-None.ensures.next in
    script_ends c.args.job.now c.args.text.now at.2 c.loop-event.script c.loop-event.run.done c.loop-event.run.stopped
    c.loop-event.run.world at.3 next.0 at.4 at.1 at.5
