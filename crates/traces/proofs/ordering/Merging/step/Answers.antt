use Rattle.std.proofs.Common.{◌≡◌, ◌∙◌, ap, sym}
use Rattle.traces.specs.Merges.{stays, goes}
use Rattle.traces.specs.Merging.{coming_events, merge_of}
use Rattle.traces.proofs.Stepping.{comes_same, got, next_is, same_front}
use Rattle.traces.proofs.ordering.Merging.step.Goals as goal

pub returns-in_default-clause-moves : goal.returns-in_default-clause-moves
returns-in_default-clause-moves c = stays

pub returns-in_default-next-clause-moves : goal.returns-in_default-next-clause-moves
returns-in_default-next-clause-moves c = stays

pub returns-in_ok-go-in-Ok-clause-moves : goal.returns-in_ok-go-in-Ok-clause-moves
returns-in_ok-go-in-Ok-clause-moves c = goes stays c.in_ok-go-in-Ok.ensures.moves

pub go-requires-clause-comes : goal.go-requires-clause-comes
go-requires-clause-comes c = λ l ls at was.
    let actor = got c.deref.result.now c.args.self.now.actors.items c.args.a c.in-Some.actor.now c.deref.ensures.value
    c.in-Some.ensures.lookup.0 c.in-Some.ensures.lookup.1 in
    let s = same_front c.args.self.now.actors.items c.args.a c.in-Some.actor.now l c.in-Some-next.next.now ls at actor
    was (sym c.in-Some-next.ensures) in
    comes_same (merge_of c.args.self.now) c.args.a c.line.result.now l c.stands.result at
    c.in-Ok.coming.then (coming_events c.in-Ok.coming)
    (c.line.ensures ∙ s.0) (c.stands.ensures ∙ s.1) c.in-Ok.ensures

pub go-requires-clause-next : goal.go-requires-clause-next
go-requires-clause-next c =
    let actor = got c.deref.result.now c.args.self.now.actors.items c.args.a c.in-Some.actor.now c.deref.ensures.value
    c.in-Some.ensures.lookup.0 c.in-Some.ensures.lookup.1 in
    next_is c.args.self.now.actors.items c.args.a c.in-Some.actor.now c.in-Some-next.next.now actor
    (sym c.in-Some-next.ensures)

pub returns-in-Err : goal.returns-in-Err
returns-in-Err c = record { moves = stays; kept = c.requires }
