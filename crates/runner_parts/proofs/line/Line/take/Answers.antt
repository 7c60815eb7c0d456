use Rattle.std.proofs.Common.{◌≡◌, ◌∙◌, Some, ap, subst, sym}
use Rattle.std.specs.Prelude.{IfSome}
use Rattle.std.specs.declared.snapshot.Snapshot.{Snapshot}
use Rattle.task_tree.specs.declared.tree.Program.{Program}
use Rattle.runner_parts.specs.Turns.{IsEvaluatedOf, stamp}
use Rattle.runner_parts.proofs.line.Line.take.Goals as goal

pub returns-clause-own : goal.returns-clause-own
returns-clause-own g c =
    let both : Some (stamp c.in_ok-finished.finished.program) ≡ Some (stamp c.args.checked.now) =
    sym c.in_ok-finished.ensures.alike ∙ c.requires.1 in
    let stamps : stamp c.in_ok-finished.finished.program ≡ stamp c.args.checked.now = cc in
    let same = ap (λ (s : Snapshot Program). s.value) stamps in
    subst (λ (p : Program). IfSome c.into_evaluated.result (IsEvaluatedOf p)) same c.into_evaluated.ensures
