use Rattle.std.proofs.Common.{◌≡◌, [], Some, ap, sym, subst, ◌∙◌}
use Rattle.disk.specs.Device.{Device}
use Rattle.serial_meaning.specs.Job.{JobOf}
use Rattle.world_steps.specs.First.{IsFirstWith}
use Rattle.world_steps.specs.Found.{IsKeptOf}
use Rattle.chronicle.specs.Kept.{IsLeftBy}
use Rattle.chronicle.proofs.Runs.{untouched}
use Rattle.node_runner.proofs.Ties.{none_in}
use Rattle.node_runner.proofs.run.run_job.Goals as goal

-- the history is over the disk that was given: each time that the run begins anew it is the same
pub returns-in-Some-clause-ran : goal.returns-in-Some-clause-ran
returns-in-Some-clause-ran g c =
    let device = g.D.Disk.device in
    let ended = c.in_ok-trace.field-0 in
    let told = subst (λ t. IsLeftBy c.loop.first.job (device c.loop.first.disk) t ended.out_of_memory
    (device ended.disk)) (sym c.tell_kept.ensures) c.in_ok-trace.ensures in
    let own = subst (λ j. IsLeftBy j (device c.loop.first.disk) c.tell_kept.new.self ended.out_of_memory
    (device ended.disk)) c.loop.invariant.job told in
    let run = subst (λ d. IsLeftBy c.args.first.job d c.tell_kept.new.self ended.out_of_memory (device ended.disk))
    c.loop.invariant.disk own in
    record {
      meant = c.in-Some.ensures.meant c.args.first.job (device c.args.first.disk) run.safe;
      out_of_memory = ended.out_of_memory;
      left = device ended.disk;
      run = run;
      told = sym c.in-Some.ensures.first;
      kept = subst (λ (j : JobOf). IsKeptOf (device ended.disk) j.number (Some c.in-Some.outcome)
          (device c.in_ok-disk.disk).file) c.job-job.ensures c.in_ok-disk.ensures;
    }

pub of-first-requires : goal.of-first-requires
of-first-requires g c =
    let device = g.D.Disk.device in
    let ended = c.in_ok-trace.field-0 in
    let none : c.tell_kept.new.self ≡ [] =
    none_in c.is_empty.result c.entries.result.now c.tell_kept.new.self c.if-not-is_empty.false c.is_empty.ensures
    c.entries.ensures in
    let out = subst (λ b. IsLeftBy c.loop.first.job (device c.loop.first.disk) ended.trace b (device ended.disk))
    c.if-out_of_memory.false c.in_ok-trace.ensures in
    let first = untouched c.loop.first.job (device c.loop.first.disk) ended.trace (device ended.disk) out
    (sym c.tell_kept.ensures ∙ none) in
    let with_saved = c.saved.ensures.first in
    let here = subst (λ (d : Device). IsFirstWith c.args.first.job d c.args.first.saved) (sym c.loop.invariant.disk
    ∙ sym first.0) with_saved in
    let own : c.args.first.saved ≡ c.copied.result =
    sym (c.copied.ensures ∙ (c.copied-saved.ensures ∙ c.saved.ensures.same)) in
    subst (λ (j : JobOf). IsFirstWith j (device ended.disk) c.copied.result) (sym c.job-job.ensures)
    (subst (λ s. IsFirstWith c.args.first.job (device ended.disk) s) own here)

pub loop-preserved : goal.loop-preserved
loop-preserved g c =
    let device = g.D.Disk.device in
    let ended = c.in_ok-trace.field-0 in
    let none : c.tell_kept.new.self ≡ [] =
    none_in c.is_empty.result c.entries.result.now c.tell_kept.new.self c.if-not-is_empty.false c.is_empty.ensures
    c.entries.ensures in
    let out = subst (λ b. IsLeftBy c.loop.first.job (device c.loop.first.disk) ended.trace b (device ended.disk))
    c.if-out_of_memory.false c.in_ok-trace.ensures in
    let first = untouched c.loop.first.job (device c.loop.first.disk) ended.trace (device ended.disk) out
    (sym c.tell_kept.ensures ∙ none) in
    record {
      job = c.of-first.ensures.job ∙ c.job-job.ensures;
      disk = ap device c.of-first.ensures.disk ∙ (first.0 ∙ c.loop.invariant.disk);
    }
