use Rattle.play_nodes.proofs.Keeping.{keeps_job}
use Rattle.play_nodes.proofs.player.ask_house.Goals as goal

pub returns : goal.returns
returns c = keeps_job _ c.ask.result _ _ c.ask.ensures.answer
