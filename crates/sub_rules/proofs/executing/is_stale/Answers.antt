use Rattle.sub_rules.proofs.executing.is_stale.Goals as goal

pub returns : goal.returns
returns c = rw (c.thread.ensures.same, c.numbers.ensures.same) at
    (c.is_stale_for.ensures c.args.done.now.program c.args.done.now.turn)
