use Rattle.subcomputation.proofs.sub.Sub.prepare_exec.Goals as goal

pub returns-clause-answer : goal.returns-clause-answer
returns-clause-answer c = rw (c.thread.ensures.same, c.numbers.ensures.same, c.turn.ensures.same) at
    (c.prepare_turn.ensures.answer c.args.done.now.program)

pub returns-clause-out_of_memory : goal.returns-clause-out_of_memory
returns-clause-out_of_memory c = rw (c.thread.ensures.same, c.numbers.ensures.same, c.turn.ensures.same) at
    (c.prepare_turn.ensures.out_of_memory c.args.done.now.program)
