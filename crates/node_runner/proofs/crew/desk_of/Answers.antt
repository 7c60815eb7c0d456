use Rattle.std.proofs.Common.{◌≡◌, ◌∙◌, Some, ap, rules, subst, sym}
use Rattle.std.proofs.lemmas.List.Elements.{All-pop}
use Rattle.task_tree.specs.declared.tree.Program.{Program}
use Rattle.local_pool.specs.Turns.{IsBlankPassOf, QueueOf}
use Rattle.runner_parts.specs.Lines.{IsHomeOf}
use Rattle.runner_parts.specs.Turns.{stamp, stamp_of}
use Rattle.node_runner.proofs.crew.desk_of.Goals as goal

pub hire-requires : goal.hire-requires
hire-requires g c =
    let all = All-pop (IsBlankPassOf c.in_ok-queue.queue (stamp_of c.first-first.result)) _ _
    (Some c.in-Some.pass) c.in-Some.ensures.items c.in_ok-queue.ensures.passes.1 in
    let same : c.first-first.result.program ≡ c.args.job.now.program = c.first-first.ensures ∙ c.checked.ensures.same in
    λ k d lt. let at = all.0 k d lt in (
      at.0 ∙ ap (λ (q : QueueOf). q.queue) (sym c.in_ok-queue-2.ensures.ok),
      at.3
          ∙ ap (λ (p : Program). Some (stamp p)) same,
    )

pub returns-clause-desk : goal.returns-clause-desk
returns-clause-desk g c =
    let all = All-pop (IsBlankPassOf c.in_ok-queue.queue (stamp_of c.first-first.result)) _ _
    (Some c.in-Some.pass) c.in-Some.ensures.items c.in_ok-queue.ensures.passes.1 in
    let same : c.first-first.result.program ≡ c.args.job.now.program = c.first-first.ensures ∙ c.checked.ensures.same in
    subst (IsHomeOf c.args.job.now.program) (sym c.in_ok-desk.ensures) (
      (
        all.1.0 ∙ ap (λ (q : QueueOf). q.queue) (sym c.in_ok-queue-2.ensures.ok),
        all.1.3
            ∙ ap (λ (p : Program). Some (stamp p)) same,
      ),
      search rules,
    )
