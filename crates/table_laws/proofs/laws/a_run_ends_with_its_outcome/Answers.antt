use Rattle.std.proofs.Common.{pos, refl, inl}
use Rattle.table_laws.proofs.SampleJob.{sample_job, sample_serial}
use Rattle.table_laws.proofs.SampleEnd.{fill, recorded_view, recorded_run}
use Rattle.table_laws.proofs.laws.a_run_ends_with_its_outcome.Goals as goal

pub returns : goal.returns
returns c = (sample_job, sample_serial, recorded_view, recorded_run, fill, inl refl, pos 7, refl)
