use Rattle.recovery.proofs.Following.{found_whole}
use Rattle.node_state.proofs.node.law_frames_stand_in_order.Goals as goal

pub returns : goal.returns
returns c = λ s found. (found_whole c.args.grant s c.args.subs.now c.law_are_whole.ensures found).frames
