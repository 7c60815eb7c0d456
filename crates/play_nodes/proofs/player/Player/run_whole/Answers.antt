use Rattle.std.proofs.Common.{◌≡◌, ◌∙◌, sym, ap}
use Rattle.std.proofs.Math.Logic.{∥∥₁_elim}
use Rattle.std.specs.Coded.{Coded-set}
use Rattle.serial_meaning.specs.contracts.job.Job as job
use Rattle.play_nodes.proofs.player.Player.run_whole.Goals as goal

pub run_whole-requires : goal.run_whole-requires
run_whole-requires c =
    let same : c.args.self.now.node.job ≡ c.args.self.now.job.now =
    ∥∥₁_elim c.args.self.now.same (Coded-set job.the_row.coded _ _) (λ e. e) in
    c.in-Ok.ensures ∙ c.checked.ensures.same ∙ sym (ap (λ j. j.program) same)
