use Rattle.std.proofs.Common.{arith, ◌≡◌, ◌∙◌, ◌+◌, ◌∷◌, [], All, ap, length, length-append, subst, sym}
use Rattle.std.specs.List.{range_with_len}
use Rattle.std.proofs.lemmas.List.{length-map}
use Rattle.std.proofs.lemmas.List.FromFn.{length-range_with_len}
use Rattle.serial_meaning.specs.Job.{JobOf}
use Rattle.node_runner.specs.Runs.{IsWorkerOf}
use Rattle.node_runner.proofs.Ties.{takes_outcomes}
use Rattle.node_runner.proofs.run.traced.Goals as goal

pub all_turns-requires-clause-contexts : goal.all_turns-requires-clause-contexts
all_turns-requires-clause-contexts g c κs within =
    c.in-Ok-contexts.ensures.contexts c.in-Ok.chronicle c.in-Ok-new.words (c.in-Ok.ensures.chronicle.0
    ∙ sym c.job-job.ensures) (λ k d lt. (c.in-Ok.ensures.seats k d lt).0)
    (λ k d lt. (c.in-Ok-new.ensures.blank k d lt).0)

pub all_turns-requires-clause-workers : goal.all_turns-requires-clause-workers
all_turns-requires-clause-workers g c κs within =
    subst (λ (j : JobOf). All (IsWorkerOf j) c.in-Ok-contexts.workers.items)
    (sym (c.in-Ok.ensures.chronicle.0 ∙ sym c.job-job.ensures)) c.in-Ok-contexts.ensures.workers

pub all_turns-requires-clause-tie : goal.all_turns-requires-clause-tie
all_turns-requires-clause-tie g c κs within =
    takes_outcomes c.in-Ok.chronicle c.over-board.result c.args.first.job
    (g.D.Disk.device c.args.first.disk) c.args.first.saved c.in-Ok.ensures.chronicle.0 c.in-Ok.ensures.first
    (c.over-board.ensures.job ∙ c.job-job.ensures) (c.over-board.ensures.saved
    ∙ c.saved.ensures.same) c.saved.ensures.agree

pub unreachable-requires : goal.unreachable-requires
unreachable-requires g c =
    let seats : length c.in-Ok.seats.items ≡ c.in-Ok.chronicle.actors =
    sym (length-map c.in-Ok.seats.items (λ s. s.actor))
    ∙ (ap length c.in-Ok.ensures.order
    ∙ (length-append (range_with_len 1 c.nodes-nodes.result) (0 ∷ [])
    ∙ (ap (λ n. n + 1) (length-range_with_len 1 c.nodes-nodes.result) ∙ sym c.in-Ok.ensures.chronicle.1))) in
    omega (arith, c.in-None.ensures.missing, c.in-Ok-all_turns.ensures.count, c.in-Ok-contexts.ensures.count, seats)
