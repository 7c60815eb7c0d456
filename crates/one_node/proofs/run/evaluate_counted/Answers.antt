-- Each turn that was taken leads to the run after one more, and the run that goes on has a next
-- turn.
use Rattle.std.proofs.Common.{◌≡◌, ◌+◌, arith}
use Rattle.one_node.specs.Outcomes.{IsRunEnd}
use Rattle.one_node.specs.Runs.{run_of}
use Rattle.one_node.proofs.Keeping.{has_turn, reached_next}
use Rattle.one_node.proofs.run.evaluate_counted.Goals as goal

pub returns-in-Finished : goal.returns-in-Finished
returns-in-Finished g c =
    let follows = c.in_ok-turn.ensures.follows in
    let end : IsRunEnd c.args.job.now c.args.turns c.in-Finished.outcome = record {
      n = c.loop-taken.taken + 1;
      within = omega arith;
      run = run_of c.turn.new.run;
      reached = reached_next c.args.job.now c.loop-taken.taken (run_of c.loop-taken.run)
          (run_of c.turn.new.run) c.loop-taken.invariant.reached c.in_ok-turn.ensures.next;
      ended = c.in-Finished.is;
    } in (
      end,
      c.finished_roots_mean.ensures c.args.job.now c.turn.new.run.content c.in-Finished.outcome follows.agrees
          follows.rooted c.in-Finished.is,
    )

pub loop-taken-preserved : goal.loop-taken-preserved
loop-taken-preserved g c = record {
  reached = reached_next c.args.job.now c.loop-taken.taken (run_of c.loop-taken.run)
      (run_of c.turn.new.run) c.loop-taken.invariant.reached c.in_ok-turn.ensures.next;
  holds = c.in_ok-turn.ensures.follows.goes_on c.in_default.is;
}

pub returns : goal.returns
returns g c =
    let all : c.loop-taken.taken ≡ c.args.turns = omega arith in
    record {
      run = run_of c.loop-taken.run;
      reached = rw all at c.loop-taken.invariant.reached;
      goes_on = has_turn c.args.job.now (run_of c.loop-taken.run) c.loop-taken.invariant.holds;
    }
