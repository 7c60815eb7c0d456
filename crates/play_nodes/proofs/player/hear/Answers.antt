use Rattle.play_nodes.proofs.Keeping.{keeps_job}
use Rattle.play_nodes.proofs.player.hear.Goals as goal

pub returns : goal.returns
returns c = keeps_job _ c.on_bytes.result _ _ c.on_bytes.ensures
