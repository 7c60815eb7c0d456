use Rattle.play_nodes.proofs.Keeping.{keeps_job}
use Rattle.play_nodes.proofs.player.depart.Goals as goal

pub returns : goal.returns
returns c = keeps_job _ c.depart_named.result _ _ c.depart_named.ensures.answer
