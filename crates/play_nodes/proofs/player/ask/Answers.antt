use Rattle.play_nodes.proofs.Keeping.{keeps_job}
use Rattle.play_nodes.proofs.player.ask.Goals as goal

pub returns : goal.returns
returns c = keeps_job _ c.ask_named.result _ _ c.ask_named.ensures.answer
