-- The tree of two boxed operands.
use Rattle.std.proofs.Common.{◌+◌, ◌≤◌, max, rules}
use Rattle.task_syntax.specs.Grammar.{height_of}
use Rattle.task_syntax.specs.Parts.{joins}
use Rattle.task_syntax.proofs.reader.expressions.joined.Goals as goal

pub returns-clause-joins : goal.returns-clause-joins
returns-clause-joins c =
    let low : 1 + max (height_of c.args.left.tree) (height_of c.args.right.tree) ≤ 64 = search rules in
    let boxed = rw (← c.in_ok-new.ensures.ok, ← c.in_ok-new-2.ensures.ok) at low in
    rw (← c.in_ok-new.ensures.ok, ← c.in_ok-new-2.ensures.ok) (joins boxed)
