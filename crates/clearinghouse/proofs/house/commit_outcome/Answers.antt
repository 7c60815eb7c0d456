use Rattle.std.proofs.Common.{◌≡◌, Some, Err, refl, ap, subst, ◌∙◌}
use Rattle.checkpoint.specs.Commit.{next_of}
use Rattle.checkpoint.specs.declared.record.CheckpointRecord.{CheckpointRecord as Stored}
use Rattle.clearinghouse.specs.House.{HouseOf}
use Rattle.clearinghouse.specs.Meeting.{Committed, Halted}
use Rattle.clearinghouse.proofs.Committing.{halted, same_epoch}
use Rattle.clearinghouse.proofs.house.commit_outcome.Goals as goal

pub returns-in-Ok-clause-done : goal.returns-in-Ok-clause-done
returns-in-Ok-clause-done g c _ =
    let old = c.args.store.now in
    let epoch : c.at.result ≡ c.args.book.now.epoch = c.at.ensures ∙ ap (λ (h : HouseOf). h.epoch) c.book.view_is in
    let next = same_epoch old c.at.result c.args.book.now.epoch c.args.book.now.sequence
    (Some c.args.outcome) epoch c.requires.stored in
    let made : Committed g.D.Disk.device g.D.Disk.planned
    (next_of old.«record» c.at.result (Some c.args.outcome)) old c.commit.new.self =
    record {
      store = c.in-Ok.ensures.ok;
      calls = c.in-Ok.ensures.calls;
      plan = c.in-Ok.ensures.plan;
      kept = c.in-Ok.ensures.kept;
    } in (
      c.record.ensures,
      subst (λ (r : Stored). Committed g.D.Disk.device g.D.Disk.planned r old c.commit.new.self) next
          made,
    )

pub returns-in-Err-clause-halted : goal.returns-in-Err-clause-halted
returns-in-Err-clause-halted g c _ =
    let old = c.args.store.now in
    let said = c.in-Err.ensures in
    let epoch : c.at.result ≡ c.args.book.now.epoch = c.at.ensures ∙ ap (λ (h : HouseOf). h.epoch) c.book.view_is in
    let next = same_epoch old c.at.result c.args.book.now.epoch c.args.book.now.sequence
    (Some c.args.outcome) epoch c.requires.stored in
    let left = halted g.D.Disk.device g.D.Disk.planned old c.commit.new.self
    (next_of old.«record» c.at.result (Some c.args.outcome))
    (Err c.in-Err.field-0) c.args.book.now.epoch c.args.book.now.sequence c.requires.stored c.requires.counted
    said.refused said.spent.0 said.ends said.stopped said.either in
    (refl, subst (λ (r : Stored). Halted g.D.Disk.device g.D.Disk.planned r old c.commit.new.self) next left)
