use Rattle.play_nodes.proofs.Keeping.{keeps_job}
use Rattle.play_nodes.proofs.player.run.Goals as goal

pub returns : goal.returns
returns c = keeps_job _ c.exec_ready_named.result _ _ c.exec_ready_named.ensures.answer
