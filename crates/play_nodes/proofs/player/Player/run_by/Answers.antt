use Rattle.std.proofs.Common.{◌≡◌, ◌∙◌, sym, ap}
use Rattle.std.proofs.Math.Logic.{∥∥₁_elim}
use Rattle.std.specs.Coded.{Coded-set}
use Rattle.serial_meaning.specs.contracts.job.Job as job
use Rattle.play_nodes.proofs.player.Player.run_by.Goals as goal

pub run_by-requires : goal.run_by-requires
run_by-requires c =
    let same : c.args.self.now.node.job ≡ c.args.self.now.job.now =
    ∥∥₁_elim c.args.self.now.same (Coded-set job.the_row.coded _ _) (λ e. e) in
    (rw c.in-Ok-Some.field-0-is at c.in-Ok-Some.ensures) ∙ sym (ap (λ j. j.program) same)
