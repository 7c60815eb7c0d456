use Rattle.std.proofs.Common.{◌≡◌, ◌∙◌, drop, arith, rules, refl}
use Rattle.std.proofs.lemmas.List.{take-take}
use Rattle.std.proofs.lemmas.Option.{slice_get-get_or}
use Rattle.std.proofs.lemmas.Int.{to_z-of_z}
use mir.Syntax.{w64}
use mir.Val.{to_z, of_z}
use Rattle.serial_meaning.specs.declared.instr.Instr.TheVariants.{Call, Next}
use Rattle.serial_meaning.specs.Ran.{Flattens}
use Rattle.serial_meaning.specs.Stops.{Reaches}
use Rattle.serial_meaning.proofs.Going.{going_runs, going_reaches, next_args, call_goes, next_spent, begin_goes, next_goes, take_lower, entry_there, args_takes}
use Rattle.serial_meaning.proofs.kept.+kept.Goals.{kept_value-in-Sends, kept_value-in-Calls+then-depth-eq0, kept_value-in-Calls+else-depth-eq0+in_ok-kid-in-Calls+in_default, kept_value-in-GoesOn+then-depth-eq0-2}
use Rattle.serial_meaning.proofs.kept.+kept.Goals as goal

pub kept_value-loop-stop-init : goal.kept_value-loop-stop-init
kept_value-loop-stop-init t c =
    let flat : Flattens c.args.checked.now c.as_slice-code.result.now c.as_slice-entries.result.now = search rules in
    let there = entry_there _ _ _ _ _ flat c.requires.takes in
    record {
      above = omega arith;
      inside = c.requires.inside;
      kept = refl;
      deeper = omega arith;
      total = c.program-program.ensures.total;
      keeper = c.requires.keeper;
      going = begin_goes _ _ _ _ _ _ _ c.as_slice-entries.result.now _ c.program-program.ensures.total flat
          c.requires.takes (slice_get-get_or c.as_slice-entries.result.now c.args.thread 0 there) (omega arith);
    }

pub kept_value-bounds-entries-thread : goal.kept_value-bounds-entries-thread
kept_value-bounds-entries-thread t c =
    let flat : Flattens c.args.checked.now c.as_slice-code.result.now c.as_slice-entries.result.now = search rules in
    entry_there _ _ _ _ _ flat c.requires.takes

pub kept_value-next_stop-requires-clause-runs : goal.kept_value-next_stop-requires-clause-runs
kept_value-next_stop-requires-clause-runs t c = going_runs _ _ _ _ _ _ _ _ _ _ c.loop-stop.invariant.going

pub kept_value-loop-stop-preserved-in-Calls : goal.kept_value-loop-stop-preserved-in-Calls
kept_value-loop-stop-preserved-in-Calls t c =
    let i = c.loop-stop.invariant in
    let reached : Reaches c.args.checked.now c.as_slice-code.result.now c.loop-stop.pc
    (drop c.loop-stop.floor c.loop-stop.stack.items) (Call c.in-Calls.thread c.in-Calls.count) c.in_ok-stop.at
    (drop c.loop-stop.floor c.next_stop.new.stack.items) = rw c.in-Calls.is at c.in_ok-stop.ensures.stops in
    let going = going_reaches _ _ _ _ _ _ _ _ _ _ _ _ _ i.going reached in
    let back : to_z w64 (of_z w64 c.in-Some.number) ≡ c.in-Some.number =
    to_z-of_z w64 c.in-Some.number (search rules) in
    let value = rw c.start_of-start.ensures.last at c.in_ok-kid-in-Calls.ensures.value in
    let count = rw c.start_of-start.ensures.last at c.in_ok-kid-in-Calls.ensures.turns in
    let left = c.in_ok-kid-in-Calls.ensures.kept in
    record {
      above = i.above;
      inside = c.push.ensures.inside;
      kept = take_lower _ _ _ _ i.above (c.in_ok-push-in-Calls.ensures.kept
          ∙ rw left (take-take _ _ _ c.start_of-start.ensures.above) ∙ c.in_ok-stop.ensures.kept) ∙ i.kept;
      deeper = i.deeper;
      total = i.total;
      keeper = c.in_ok-kid-in-Calls.ensures.same;
      going = rw (c.in_ok-push-in-Calls.ensures.pushed, left, c.start_of-start.ensures.others, back)
          (call_goes _ _ _ _ _ _ _ _ _ _ _ _ _ _ going reached.at c.if-depth-eq0.false (value ∙ c.in-Some.is) count);
    }

pub kept_value-returns-clause-kept : goal.kept_value-returns-clause-kept
kept_value-returns-clause-kept t c =
    let i = c.loop-stop.invariant in
    let lower = take_lower _ _ _ _ i.above c.in_ok-stop.ensures.kept ∙ i.kept in
    elim c.match-stop.branch [
      | kept_value-in-Sends w ↦ (rw w.stack-is at c.truncate.ensures.items) ∙ lower
      | kept_value-in-Calls+then-depth-eq0 w ↦ (rw w.stack-is at c.truncate.ensures.items) ∙ lower
      | kept_value-in-Calls+else-depth-eq0+in_ok-kid-in-Calls+in_default w ↦
          (rw w.stack-is at c.truncate.ensures.items)
          ∙ rw w.in_ok-kid-in-Calls.ensures.kept
          (take-take _ _ _ (omega (arith, i.above, w.start_of-start.ensures.above)))
          ∙ lower
      | kept_value-in-GoesOn+then-depth-eq0-2 w ↦ (rw w.stack-is at c.truncate.ensures.items) ∙ lower
    ]

pub kept_value-returns-then-turns-eq0-2-clause-spent : goal.kept_value-returns-then-turns-eq0-2-clause-spent
kept_value-returns-then-turns-eq0-2-clause-spent t c =
    let reached : Reaches c.args.checked.now c.as_slice-code.result.now c.loop-stop.pc
    (drop c.loop-stop.floor c.loop-stop.stack.items) (Next c.in-GoesOn.thread c.in-GoesOn.count) c.in_ok-stop.at
    (drop c.loop-stop.floor c.next_stop.new.stack.items) = rw c.in-GoesOn.is at c.in_ok-stop.ensures.stops in
    let going = going_reaches _ _ _ _ _ _ _ _ _ _ _ _ _ c.loop-stop.invariant.going reached in
    λ e. next_spent _ _ _ _ _ _ _ _ _ _ _ _ _ going reached.at c.if-depth-eq0-2.false c.if-turns-eq0-2.true

pub kept_value-bounds-entries-thread-in-GoesOn : goal.kept_value-bounds-entries-thread-in-GoesOn
kept_value-bounds-entries-thread-in-GoesOn t c =
    let flat : Flattens c.args.checked.now c.as_slice-code.result.now c.as_slice-entries.result.now = search rules in
    let reached : Reaches c.args.checked.now c.as_slice-code.result.now c.loop-stop.pc
    (drop c.loop-stop.floor c.loop-stop.stack.items) (Next c.in-GoesOn.thread c.in-GoesOn.count) c.in_ok-stop.at
    (drop c.loop-stop.floor c.next_stop.new.stack.items) = rw c.in-GoesOn.is at c.in_ok-stop.ensures.stops in
    let going = going_reaches _ _ _ _ _ _ _ _ _ _ _ _ _ c.loop-stop.invariant.going reached in
    let a = next_args _ _ _ _ _ _ _ _ _ _ _ _ _ going reached.at in
    entry_there _ _ _ _ _ flat a.takes

pub kept_value-loop-stop-preserved : goal.kept_value-loop-stop-preserved
kept_value-loop-stop-preserved t c =
    let flat : Flattens c.args.checked.now c.as_slice-code.result.now c.as_slice-entries.result.now = search rules in
    let i = c.loop-stop.invariant in
    let reached : Reaches c.args.checked.now c.as_slice-code.result.now c.loop-stop.pc
    (drop c.loop-stop.floor c.loop-stop.stack.items) (Next c.in-GoesOn.thread c.in-GoesOn.count) c.in_ok-stop.at
    (drop c.loop-stop.floor c.next_stop.new.stack.items) = rw c.in-GoesOn.is at c.in_ok-stop.ensures.stops in
    let going = going_reaches _ _ _ _ _ _ _ _ _ _ _ _ _ i.going reached in
    let a = next_args _ _ _ _ _ _ _ _ _ _ _ _ _ going reached.at in
    let there = entry_there _ _ _ _ _ flat a.takes in
    record {
      above = omega (arith, i.above, c.start_of-floor.ensures.above);
      inside = c.start_of-floor.ensures.inside;
      kept = take_lower _ _ _ _ i.above c.in_ok-stop.ensures.kept ∙ i.kept;
      deeper = omega (arith, i.deeper);
      total = i.total;
      keeper = c.goes_on.ensures ∙ i.keeper;
      going = rw c.start_of-floor.ensures.last
          (next_goes _ _ _ _ _ _ _ _ _ c.as_slice-entries.result.now _ _ _ _ _ _ i.total flat going reached.at
          c.if-depth-eq0-2.false (slice_get-get_or c.as_slice-entries.result.now c.in-GoesOn.thread 0 there) (omega arith)
          (args_takes _ _ _ _ a));
    }
