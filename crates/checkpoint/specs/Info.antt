-- What is told of a store.
use Rattle.std.specs.Prelude.{length}
use Rattle.checkpoint.specs.declared.info.Info.{Info}
use Rattle.checkpoint.specs.declared.record.CheckpointRecord.{CheckpointRecord}

abbrev pub info_of : CheckpointRecord → Info
info_of r = record { job = r.job; epoch = r.epoch; outcome = r.outcome; saved = length r.saved }
