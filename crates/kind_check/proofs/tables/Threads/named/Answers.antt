use Rattle.std.proofs.Common.{sym, rules}
use Rattle.std.proofs.lemmas.Option.{slice_get-get_or}
use Rattle.kind_check.proofs.Places.{thread_within, thread_placed}
use Rattle.kind_check.proofs.tables.Threads.named.Goals as goal

pub offset_bounds-self-place : goal.offset_bounds-self-place
offset_bounds-self-place c =
    let lt = thread_within c.args.self.now.all.now _ _ _ c.args.self.now.indexed c.in-Some.ensures in
    search rules

pub bounds-self-place : goal.bounds-self-place
bounds-self-place c = thread_within c.args.self.now.all.now _ _ _ c.args.self.now.indexed c.in-Some.ensures

pub returns-in-Some : goal.returns-in-Some
returns-in-Some c =
    let all = c.args.self.now.all.now in
    let lt = thread_within all _ _ _ c.args.self.now.indexed c.in-Some.ensures in
    let e = rw c.args.self.now.indexed at c.in-Some.ensures in
    rw (thread_placed, ← e) (sym (slice_get-get_or all _ c.index-self-place.result lt))
