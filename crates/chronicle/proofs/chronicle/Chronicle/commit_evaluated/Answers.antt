use Rattle.std.proofs.Common.{rules, true, ◌≡◌}
use Rattle.chronicle.proofs.Seats.{free_seat}
use Rattle.chronicle.proofs.Commits.{grows, gains, first_of}
use Rattle.chronicle.proofs.chronicle.Chronicle.commit_evaluated.Goals as goal

pub take-kept-requires : goal.take-kept-requires
take-kept-requires g c = record {
  seat =
      free_seat c.self.inside.lock c.seat.inside.seat c.args.self.now c.args.seat.now c.self.view_is c.seat.view_is
      c.requires.seat;
}

pub put-requires-clause-grown : goal.put-requires-clause-grown
put-requires-clause-grown g c =
    grows c.enter-answer.result c.args.event c.seat-2.inside.seat.actor c.take-kept.result.entries
    c.enter-answer.new.self.entries c.seat-2.inside.seat.taken (search rules)
    (search rules) c.enter-answer.ensures.history
    (first_of (c.enter-answer.new.self.entries ≡ c.take-kept.result.entries)
    (c.enter-answer.new.self.out_of_memory ≡ true) c.enter-answer.result c.enter-answer.ensures.out_of_memory)

pub returns-clause-entry : goal.returns-clause-entry
returns-clause-entry g c =
    rw c.in_ok-committed.was at (gains c.enter-answer.result c.args.event c.args.seat.now.actor
    c.take-kept.result.entries c.enter-answer.new.self.entries c.args.seat.now.entries c.put.new.seat.entries
    c.requires.owns c.enter-answer.ensures.history (search rules) (search rules))

pub returns-clause-outcome : goal.returns-clause-outcome
returns-clause-outcome g c =
    let same : c.take-kept.result.on.job ≡ c.args.self.now.job = search rules in
    let first : c.take-kept.result.first ≡ c.args.self.now.first = search rules in
    rw same at (rw first at (rw c.in_ok-committed.was at c.enter-answer.ensures.outcome))
