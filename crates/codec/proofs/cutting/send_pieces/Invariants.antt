use Rattle.std.proofs.Common.{◌-◌, ◌≡◌, ◌≤◌, ◌++◌}
use Rattle.codec.specs.Pieces.{pieces_from}
use Rattle.codec.proofs.cutting.send_pieces.Given as goal

-- with those that are still to come, they are all that are to be added
abbrev pub invariant-loop-number : goal.invariant-loop-number
invariant-loop-number l = (l.number ≤ l.pieces)
    × (l.sent ++ pieces_from l.packet l.offer l.number (l.pieces - l.number)
    ≡ l.initial.sent ++ pieces_from l.packet l.offer 0 l.pieces)

abbrev pub decreases-loop-number : goal.decreases-loop-number
decreases-loop-number l = l.pieces - l.number
