use Rattle.std.proofs.Common.{rules, ◌≡◌}
use Rattle.chronicle.proofs.Seats.{free_seat}
use Rattle.chronicle.proofs.Commits.{grows_by, gains_by}
use Rattle.chronicle.proofs.chronicle.Chronicle.commit_delivery.Goals as goal

pub take-kept-requires : goal.take-kept-requires
take-kept-requires g c = record {
  seat =
      free_seat c.self.inside.lock c.seat.inside.seat c.args.self.now c.args.seat.now c.self.view_is c.seat.view_is
      c.requires.seat;
}

pub put-requires-clause-grown : goal.put-requires-clause-grown
put-requires-clause-grown g c =
    grows_by c.args.place c.deliver-answer.result c.seat-2.inside.seat.actor c.take-kept.result.entries
    c.deliver-answer.new.kept.entries c.seat-2.inside.seat.taken (search rules)
    (search rules) c.deliver-answer.ensures.history c.deliver-answer.ensures.err

pub returns-clause-entry : goal.returns-clause-entry
returns-clause-entry g c =
    gains_by c.args.place c.deliver-answer.result c.args.seat.now.actor c.take-kept.result.entries
    c.deliver-answer.new.kept.entries c.args.seat.now.entries c.put.new.seat.entries c.requires.owns
    c.deliver-answer.ensures.history (search rules) (search rules)

pub returns-clause-outcome : goal.returns-clause-outcome
returns-clause-outcome g c =
    let same : c.take-kept.result.on.job ≡ c.args.self.now.job = search rules in
    let first : c.take-kept.result.first ≡ c.args.self.now.first = search rules in
    rw same at (rw first at c.deliver-answer.ensures.outcome)
