use Rattle.play_nodes.proofs.Keeping.{keeps_job}
use Rattle.play_nodes.proofs.player.run_whole.Goals as goal

pub returns : goal.returns
returns c = keeps_job _ c.whole_ready.result _ _ c.whole_ready.ensures.answer
