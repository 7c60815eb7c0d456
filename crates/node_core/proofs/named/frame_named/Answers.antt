use Rattle.std.proofs.Common.{◌<◌, ◌≤◌, ◌^◌, arith, rules}
use Rattle.node_core.proofs.Naming.{none_above}
use Rattle.node_core.proofs.named.frame_named.Goals as goal

pub returns-in_default-clause-none : goal.returns-in_default-clause-none
returns-in_default-clause-none c =
    let next : c.args.sub.now.content.next < 2 ^ 32 = search rules in
    let above : 2 ^ 32 ≤ c.args.number = search rules in
    none_above c.args.number c.args.sub.now.content.next c.args.sub.now.content.frames c.content.ensures.sound.below
    (omega arith)
