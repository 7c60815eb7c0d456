use Rattle.std.proofs.Common.{arith, false, true}
use Rattle.checkpoint.specs.Format.{SpellsSmall}
use Rattle.checkpoint.proofs.Reading.{current_newest, newest_current, none_weaker, one_small, refused, some_weaker}
use Rattle.checkpoint.proofs.look.newest_small.Goals as goal

pub returns-in_default-clause-none : goal.returns-in_default-clause-none
returns-in_default-clause-none c second n r is =
    let bad = c.in_default.ensures.err in
    refused SpellsSmall one_small 8 63 c.args.bytes.now false second n r bad.0 bad.1 is

pub returns-in_default-small_slot-clause-none : goal.returns-in_default-small_slot-clause-none
returns-in_default-small_slot-clause-none c second n r is =
    let bad = c.in_default-small_slot.ensures.err in
    refused SpellsSmall one_small 8 63 c.args.bytes.now true second n r bad.0 bad.1 is

pub returns-clause-some : goal.returns-clause-some
returns-clause-some c = some_weaker c.greater.result
    (λ f newest. newest_current SpellsSmall one_small 8 63 c.args.bytes.now
    (omega (arith, c.requires)) c.in-Ok.first c.in-Ok-small_slot.second f.second f.gate f.sequence f.held
    c.in-Ok.ensures.ok c.in-Ok-small_slot.ensures.ok newest) c.greater.ensures.some

pub returns-clause-none : goal.returns-clause-none
returns-clause-none c = none_weaker c.greater.result (λ none second n r is.
    let newest = current_newest SpellsSmall one_small 8 63 c.args.bytes.now c.in-Ok.first c.in-Ok-small_slot.second
    second n r c.in-Ok.ensures.ok c.in-Ok-small_slot.ensures.ok is in
    none second newest.0 n r newest.1) c.greater.ensures.none
