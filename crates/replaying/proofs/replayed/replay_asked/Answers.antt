use Rattle.std.proofs.Common.{◌≡◌, false, is_some, rules}
use Rattle.replaying.proofs.Whole.{none_is, whole}
use Rattle.replaying.proofs.replayed.replay_asked.Goals as goal

pub returns-clause-run : goal.returns-clause-run
returns-clause-run g c =
    let end = c.in_ok-world.field-0 in
    let run = c.in_ok-world.ensures.run in
    let none : is_some end.stopped ≡ false = search rules in
    record {
      events = run.0;
      read = run.1;
      on = end.world;
      run = whole c.args.job.now run.0 end.done end.stopped end.world (none_is end.stopped none) run.2;
      packets = search rules;
      fills = search rules;
      outcome = search rules;
    }

pub returns-clause-named : goal.returns-clause-named
unfolding returns-clause-run
returns-clause-named g c = λ is. record {
  replay = returns-clause-run g c;
  named = c.in_default.ensures.named is;
}
