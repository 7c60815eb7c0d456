use Rattle.std.proofs.Common.{arith}
use Rattle.kind_check.specs.Resolves.{ResolvesSlots}
use Rattle.kind_check.proofs.Lists.{done}
use Rattle.kind_check.proofs.resolve.slots.Goals as goal

pub returns : goal.returns
returns c =
    let ts = c.args.threads.now.all.now in
    let us = c.args.uses.now.all.now in
    let names = c.args.names.now in
    done (ResolvesSlots ts names us c.loop-argument.hole)
    (ResolvesSlots ts names us 1 c.args.arguments.now) c.as_slice-argument-items.result.now
    c.loop-argument.argument-index c.loop-argument.slots (omega arith) tt c.loop-argument.invariant.slots
