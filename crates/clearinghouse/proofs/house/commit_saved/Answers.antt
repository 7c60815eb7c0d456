use Rattle.std.proofs.Common.{◌≡◌, List, Err, refl, subst}
use Rattle.checkpoint.specs.Commit.{with_saved}
use Rattle.saved_values.specs.declared.value.SavedValue.{SavedValue}
use Rattle.clearinghouse.specs.Meeting.{Committed, Halted}
use Rattle.clearinghouse.proofs.Committing.{halted}
use Rattle.clearinghouse.proofs.house.commit_saved.Goals as goal

pub returns-in-Ok-clause-done : goal.returns-in-Ok-clause-done
returns-in-Ok-clause-done g c _ =
    let old = c.args.store.now in
    let made : Committed g.D.Disk.device g.D.Disk.planned
    (with_saved old.«record» c.copied-values.result) old c.save.new.self =
    record {
      store = c.in-Ok.ensures.ok;
      calls = c.in-Ok.ensures.calls;
      plan = c.in-Ok.ensures.plan;
      kept = c.in-Ok.ensures.kept;
    } in (
      c.keep_saved.ensures,
      subst (λ (saved : List SavedValue). Committed g.D.Disk.device g.D.Disk.planned
          (with_saved old.«record» saved) old c.save.new.self) c.copied-values.ensures made,
    )

pub returns-in-Err-clause-halted : goal.returns-in-Err-clause-halted
returns-in-Err-clause-halted g c _ =
    let old = c.args.store.now in
    let said = c.in-Err.ensures in
    let left = halted g.D.Disk.device g.D.Disk.planned old c.save.new.self
    (with_saved old.«record» c.copied-values.result)
    (Err c.in-Err.field-0) old.«record».epoch c.args.book.now.sequence c.requires.stored c.requires.counted
    said.refused said.spent.0 said.ends said.stopped said.either in (
      refl,
      subst (λ (saved : List SavedValue). Halted g.D.Disk.device g.D.Disk.planned
          (with_saved old.«record» saved) old c.save.new.self) c.copied-values.ensures left,
    )
