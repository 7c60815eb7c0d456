use Rattle.std.proofs.Common.{rules}
use Rattle.checkpoint.specs.Commit.{publishing}
use Rattle.checkpoint.proofs.Chains.{passed-can_cut, stopped-can_cut}
use Rattle.checkpoint.proofs.Committed.{commit_of, held_after, kept_after, either_after, either_stopped}
use Rattle.checkpoint.proofs.store.Store.put.Goals as goal

pub invariant_of-self : goal.invariant_of-self
invariant_of-self g c going =
    held_after _ _ _ _ _ _ _ _ _ _ (c.self.invariant going) c.place.ensures c.spell-body.ensures c.in-Ok.ensures.ok

pub returns-in-Ok : goal.returns-in-Ok
returns-in-Ok g c =
    let commit = commit_of _ _ _ _ _ _ _ _ (c.self.invariant c.if-self.false) c.place.ensures c.spell-body.ensures in
    record {
      ok = search rules;
      calls = rw (← c.self.view_is)
          (publishing c.place.result c.self.inside.gate c.spell-body.result, commit, c.in-Ok.ensures.ok);
      plan = rw (← c.self.view_is) c.in-Ok.ensures.plan;
      refused = search rules;
      spent = search rules;
      unchanged = search rules;
      ended = search rules;
      ends = search rules;
      can_cut = rw (← c.self.view_is) (passed-can_cut _ _ _ _ c.in-Ok.ensures.ok);
      stopped = search rules;
      kept = rw (← c.self.view_is) (λ keeps. kept_after _ _ _ _ _ _ _ keeps commit c.in-Ok.ensures.ok);
      either = rw (← c.self.view_is) (λ keeps. either_after _ _ _ _ _ _ _ keeps commit c.in-Ok.ensures.ok);
    }

pub returns-in-Err : goal.returns-in-Err
returns-in-Err g c =
    let commit = commit_of _ _ _ _ _ _ _ _ (c.self.invariant c.if-self.false) c.place.ensures c.spell-body.ensures in
    record {
      ok = search rules;
      calls = search rules;
      plan = search rules;
      refused = search rules;
      spent = search rules;
      unchanged = search rules;
      ended = search rules;
      ends = search rules;
      can_cut = rw (← c.self.view_is) (stopped-can_cut _ _ _ _ c.in-Err.ensures.err);
      stopped = rw (← c.self.view_is) (λ _ _. (
        publishing c.place.result c.self.inside.gate c.spell-body.result,
        commit,
        c.in-Err.ensures.err,
      ));
      kept = search rules;
      either = rw (← c.self.view_is) (λ keeps. either_stopped _ _ _ _ _ _ _ keeps commit c.in-Err.ensures.err);
    }
