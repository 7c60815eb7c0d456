use Rattle.std.proofs.Common.{◌+◌, ◌≤◌, inl, length, rules}
use Rattle.disk.specs.Crash.{Torn}
use Rattle.disk.proofs.Calls.{shadow-crash, shadow-within}
use Rattle.disk.proofs.Settled.{shadow-follows, shadow-settles, synced-follows, synced-settles}
use Rattle.disk.proofs.file.FileDiskDisk.write_at.Goals as goal

pub returns-in-Ok-clause-crash : goal.returns-in-Ok-clause-crash
returns-in-Ok-clause-crash g c =
    let place : c.args.at ≤ length c.args.self.now.cells.items = search rules in
    shadow-crash c.write.result _ _ _ _ place c.write.ensures.ok c.write.ensures.err

pub returns-then-not-can_write-clause-settled : goal.returns-then-not-can_write-clause-settled
returns-then-not-can_write-clause-settled g c = inl (synced-settles _ _ c.give_up.ensures.cells)

pub returns-then-not-can_write-clause-crash : goal.returns-then-not-can_write-clause-crash
returns-then-not-can_write-clause-crash g c =
    synced-follows (Torn c.args.at (length c.args.bytes.now)) _ _ c.give_up.ensures.cells

pub returns-then-is_err-clause-settled : goal.returns-then-is_err-clause-settled
returns-then-is_err-clause-settled g c =
    shadow-settles c.write.result _ _ _ _ _ c.write.ensures.ok c.write.ensures.err c.give_up-then-is_err.ensures.cells

pub returns-then-is_err-clause-crash : goal.returns-then-is_err-clause-crash
returns-then-is_err-clause-crash g c =
    let place : c.args.at ≤ length c.args.self.now.cells.items = search rules in
    shadow-follows c.write.result _ _ _ _ _ place c.write.ensures.ok c.write.ensures.err
    c.give_up-then-is_err.ensures.cells

pub returns-in-Err-clause-settled : goal.returns-in-Err-clause-settled
returns-in-Err-clause-settled g c = shadow-settles c.write.result _ _ _ _ _ c.write.ensures.ok c.write.ensures.err
    c.give_up-in-Err.ensures.cells

pub returns-in-Err-clause-crash : goal.returns-in-Err-clause-crash
returns-in-Err-clause-crash g c =
    let place : c.args.at ≤ length c.args.self.now.cells.items = search rules in
    shadow-follows c.write.result _ _ _ _ _ place c.write.ensures.ok c.write.ensures.err c.give_up-in-Err.ensures.cells

pub invariant_of-self : goal.invariant_of-self
invariant_of-self g c =
    let place : c.args.at ≤ length c.args.self.now.cells.items = search rules in
    let ends : c.args.at + length c.args.bytes.now ≤ 8192 = search rules in
    record {
      within = shadow-within c.write.result _ _ _ _ 8192 place c.args.self.now.within ends c.write.ensures.ok
          c.write.ensures.err;
    }
