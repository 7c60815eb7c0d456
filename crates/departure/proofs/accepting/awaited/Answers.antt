use Rattle.std.proofs.Common.{sym, ◌∙◌}
use Rattle.departure.proofs.LinkedLists.{frame_next, frames_end}
use Rattle.departure.proofs.accepting.awaited.Goals as goal

pub loop-frame-preserved : goal.loop-frame-preserved
loop-frame-preserved c =
    rw c.in_ok-add_empty.ensures (frame_next c.loop-frame.frame-index c.args.frames.now c.loop-frame.awaited
    c.frame-item.result c.frame-item.result c.loop-frame-test.true c.frame-item.is ∙ c.loop-frame.invariant)

pub returns : goal.returns
returns c = sym (frames_end c.loop-frame.frame-index c.args.frames.now c.loop-frame.awaited c.loop-frame-test.false)
    ∙ c.loop-frame.invariant
