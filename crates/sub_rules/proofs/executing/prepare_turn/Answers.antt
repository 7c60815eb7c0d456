use Rattle.std.proofs.Common.{◌≡◌, ℕ, ℤ, List, [], true, Some, sym, rules}
use Rattle.body_eval.specs.Done.{DoneOf}
use Rattle.frames.specs.Frames.{frame_in}
use Rattle.sub_rules.specs.Carrying.{ended, is_turn_of}
use Rattle.sub_rules.proofs.Preparing.{own_turn}
use Rattle.kind_check.specs.declared.turn.Turn.{Turn}
use Rattle.sub_rules.proofs.executing.prepare_turn.Goals as goal

-- as a turn of a program without threads
abbrev ends : ℕ → List ℤ → Turn → DoneOf
ends thread numbers turn = ended (record { threads = []; length = 0 }) thread numbers turn

pub prepare_arrival-requires : goal.prepare_arrival-requires
prepare_arrival-requires g c =
    let there : frame_in c.in-Some.frame.now.number c.args.content.now.frames ≡ Some c.in-Some.frame.now =
    search rules in
    let is : is_turn_of (ends c.args.thread c.args.numbers.now c.args.turn.now) c.in-Some.frame.now ≡ true =
    search rules in
    rw (sym c.in-Some.ensures.number) (own_turn (g.K.Knows.known_of c.args.known.now)
    (ends c.args.thread c.args.numbers.now c.args.turn.now) c.args.content.now c.in-Some.frame.now c.requires.sound
    c.law_stand_in_order.ensures there is).lacks

pub prepare_known_join-requires-clause-number : goal.prepare_known_join-requires-clause-number
prepare_known_join-requires-clause-number g c =
    let there : frame_in c.in-Some.frame.now.number c.args.content.now.frames ≡ Some c.in-Some.frame.now =
    search rules in
    let is : is_turn_of (ends c.args.thread c.args.numbers.now c.args.turn.now) c.in-Some.frame.now ≡ true =
    search rules in
    (own_turn (g.K.Knows.known_of c.args.known.now)
    (ends c.args.thread c.args.numbers.now c.args.turn.now) c.args.content.now c.in-Some.frame.now c.requires.sound
    c.law_stand_in_order.ensures there is).below

pub prepare_known_join-requires-clause-lacks : goal.prepare_known_join-requires-clause-lacks
prepare_known_join-requires-clause-lacks g c =
    let there : frame_in c.in-Some.frame.now.number c.args.content.now.frames ≡ Some c.in-Some.frame.now =
    search rules in
    let is : is_turn_of (ends c.args.thread c.args.numbers.now c.args.turn.now) c.in-Some.frame.now ≡ true =
    search rules in
    (own_turn (g.K.Knows.known_of c.args.known.now)
    (ends c.args.thread c.args.numbers.now c.args.turn.now) c.args.content.now c.in-Some.frame.now c.requires.sound
    c.law_stand_in_order.ensures there is).lacks
