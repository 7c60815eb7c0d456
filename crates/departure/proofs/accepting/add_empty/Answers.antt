use Rattle.std.proofs.Common.{◌≡◌, ◌<◌, ◌≤◌, not, get_or, length, None, sym, ap, ◌∙◌}
use Rattle.std.specs.Option.{is_some}
use Rattle.departure.proofs.LinkedLists.{empty_next, filled_next, slots_end}
use Rattle.departure.proofs.accepting.add_empty.Goals.{then-is_none+in_ok-push, else-is_none}
use Rattle.departure.proofs.accepting.add_empty.Goals as goal

pub loop-slot-preserved : goal.loop-slot-preserved
loop-slot-preserved c =
    let slots = c.args.frame.now.slots in
    let n = c.args.frame.now.number in
    let within : c.loop-slot.slot < length slots = rw c.as_slice-value-items.ensures at c.loop-slot-test.true in
    let test : is_some (get_or slots c.loop-slot.slot None) ≡ not c.is_none.result =
    rw c.as_slice-value-items.ensures at c.is_none.ensures in
    elim c.if-is_none.branch [
      | then-is_none+in_ok-push w ↦ rw (w.awaited-is, w.in_ok-push.ensures.ok, w.slot.ensures)
          (empty_next n c.loop-slot.slot slots c.loop-slot.awaited None within (test ∙ ap not w.if-is_none.true)
          ∙ c.loop-slot.invariant)
      | else-is_none w ↦ rw w.awaited-is (filled_next n c.loop-slot.slot slots c.loop-slot.awaited None within (test
          ∙ ap not w.if-is_none.false) ∙ c.loop-slot.invariant)
    ]

pub returns : goal.returns
returns c =
    let slots = c.args.frame.now.slots in
    let past : length slots ≤ c.loop-slot.slot = rw c.as_slice-value-items.ensures at c.loop-slot-test.false in
    sym (slots_end c.args.frame.now.number c.loop-slot.slot slots c.loop-slot.awaited past) ∙ c.loop-slot.invariant
