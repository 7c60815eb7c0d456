use Rattle.std.proofs.Common.{[]}
use Rattle.checkpoint.specs.Format.{IsBody}
use Rattle.checkpoint.specs.declared.record.CheckpointRecord.{CheckpointRecord}
use Rattle.checkpoint.proofs.Bodies.{both_is}
use Rattle.checkpoint.proofs.blank.large_slots.Goals as goal

pub returns : goal.returns
returns c =
    let kept : CheckpointRecord = record {
      job = c.args.job;
      epoch = c.args.epoch;
      outcome = c.args.outcome.now;
      saved = [];
    } in
    let is : IsBody c.spell-body.result 0 kept = rw c.new.ensures at c.spell-body.ensures in
    both_is c.spell-body.result c.put_bytes.new.file kept is c.put_bytes.ensures
