use Rattle.std.proofs.Common.{◌≡◌, Some, None, rules}
use Rattle.ids.specs.Named.{item_in}
use Rattle.ids.specs.Naming.{name_of_member}
use Rattle.node_core.proofs.Naming.{live_by, no_worker}
use Rattle.node_core.proofs.named.law_lists_workers.Goals as goal

pub returns-in_default : goal.returns-in_default
returns-in_default c =
    let none : item_in name_of_member (c.args.word, 0) c.args.members.now ≡ None = search rules in
    live_by c.args.word c.args.members.now none

pub returns : goal.returns
returns c =
    let there : item_in name_of_member (c.args.word, 0) c.args.members.now ≡ Some c.in-Some.member.now = search rules in
    absurd (no_worker c.args.word c.in-Some.member.now c.args.members.now there c.requires.other
    c.word-worker.ensures.worker)
