use Rattle.std.proofs.Common.{arith}
use Rattle.kind_check.specs.Resolves.{ResolvesLets}
use Rattle.kind_check.proofs.Lists.{done}
use Rattle.kind_check.proofs.resolve.lets.Goals as goal

pub returns-clause-codes : goal.returns-clause-codes
returns-clause-codes c = done (ResolvesLets c.loop-each.names)
    (ResolvesLets c.args.names.now c.args.lets.now) c.as_slice-each-items.result.now c.loop-each.each-index
    c.loop-each.codes (omega arith) tt c.loop-each.invariant.codes
