use Rattle.std.proofs.Common.{arith}
use Rattle.kind_check.specs.Resolves.{ResolvesThreads}
use Rattle.kind_check.proofs.Lists.{done}
use Rattle.kind_check.proofs.resolve.program.Goals as goal

pub returns : goal.returns
returns c = done (ResolvesThreads c.args.program.now.threads)
    (ResolvesThreads c.args.program.now.threads c.args.program.now.threads) c.as_slice-each-items.result.now
    c.loop-each.each-index c.loop-each.bodies (omega arith) tt c.loop-each.invariant
