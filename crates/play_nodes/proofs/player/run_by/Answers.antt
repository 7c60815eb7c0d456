use Rattle.play_nodes.proofs.Keeping.{keeps_job}
use Rattle.play_nodes.proofs.player.run_by.Goals as goal

pub returns : goal.returns
returns c = keeps_job _ c.exec.result _ _ c.exec.ensures.answer
