use Rattle.node_packets.proofs.requests.joining_roster.Goals as goal

pub invariant_of-node : goal.invariant_of-node
invariant_of-node c = rw c.keep_roster.ensures
    (record { leaving = tt; short = c.node.invariant.short; fits = c.node.invariant.fits; rising = c.requires.rising })
