use Rattle.std.proofs.Common.{◌≡◌, sym, ◌∙◌, rules}
use Rattle.sub_rules.specs.Resuming.{nothing_known, resumed_slots}
use Rattle.sub_rules.proofs.KnownJoins.{known_nothing, resumed_few}
use Rattle.sub_rules.proofs.resuming.prepare_known_join.Goals as goal

pub returns-then-knows_nothing : goal.returns-then-knows_nothing
returns-then-knows_nothing g c =
    let nothing : g.K.Knows.known_of c.args.known.now ≡ nothing_known = search rules in
    rw (sym (known_nothing (g.K.Knows.known_of c.args.known.now) c.args.frame.now.place c.args.slots.now nothing))
    c.prepare_join.ensures

pub prepare_join-requires-2-clause-slots : goal.prepare_join-requires-2-clause-slots
prepare_join-requires-2-clause-slots g c =
    let items : c.in_ok-resumed.resumed.items
    ≡ resumed_slots (g.K.Knows.known_of c.args.known.now) c.args.frame.now.place c.args.slots.now =
    c.in_ok-resumed.ensures in
    rw c.deref.ensures.value (rw items (resumed_few
    (g.K.Knows.known_of c.args.known.now) c.args.frame.now.place c.args.slots.now c.requires.slots))
