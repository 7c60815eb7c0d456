use Rattle.play_nodes.proofs.Keeping.{keeps_job}
use Rattle.play_nodes.proofs.player.run_given.Goals as goal

pub returns : goal.returns
returns c = keeps_job _ c.exec_turn_named.result _ _ c.exec_turn_named.ensures.answer
