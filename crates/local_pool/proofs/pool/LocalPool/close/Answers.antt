use Rattle.std.proofs.Common.{arith, ap, ◌++◌, List, length, length-append, sum_by, flat_map}
use Rattle.std.proofs.lemmas.List.Sums.{sum_by-append}
use Rattle.std.proofs.lemmas.List.Concat.{length-flat_map}
use Rattle.crossbeam_deque.specs.Handles.{worker_view}
use Rattle.local_pool.specs.Pools.{WorkerOf, OwnerOf}
use Rattle.local_pool.proofs.Totals.{length_same}
use Rattle.local_pool.proofs.pool.LocalPool.close.Goals as goal

pub drain-requires-clause-room : goal.drain-requires-clause-room
drain-requires-clause-room g c =
    let taken_of : List (WorkerOf g.row.T.Denot) → List g.row.T.Denot = flat_map (λ w. w.taken) in
    let mine : List g.row.T.Denot = (worker_view c.owner.inside.deque).taken in
    let gathered = length_same (worker_view c.gather_all.new.deque).taken
    (mine ++ taken_of c.args.workers.items) c.gather_all.ensures.taken in
    let both = length-append mine (taken_of c.args.workers.items) in
    let each = length-flat_map (λ (w : WorkerOf g.row.T.Denot). w.taken) c.args.workers.items in
    let offered = ap length c.gather_all.ensures.kept.1 in
    let offers = ap (λ (o : OwnerOf g.row.T.Denot). length o.offered) c.owner.view_is in
    let takes = ap (λ (o : OwnerOf g.row.T.Denot). length o.taken) c.owner.view_is in
    let slice = ap (sum_by (λ (w : WorkerOf g.row.T.Denot). length w.taken)) c.as_slice.ensures.value in
    let count = c.tickets_left-count.ensures in
    let room = c.in-Ok.ensures.exact in
    omega arith

pub returns-clause-ok : goal.returns-clause-ok
returns-clause-ok g c = λ weight.
    let taken_of : List (WorkerOf g.row.T.Denot) → List g.row.T.Denot = flat_map (λ w. w.taken) in
    let mine : List g.row.T.Denot = (worker_view c.owner.inside.deque).taken in
    let offers = ap (λ (o : OwnerOf g.row.T.Denot). sum_by weight o.offered) c.owner.view_is in
    let takes = ap (λ (o : OwnerOf g.row.T.Denot). sum_by weight o.taken) c.owner.view_is in
    let offered = ap (sum_by weight) c.gather_all.ensures.kept.1 in
    let drained = c.drain.ensures weight in
    let gathered = c.gather_all.ensures.taken weight in
    let a = sum_by-append weight (worker_view c.gather_all.new.deque).taken c.drain.new.left.items in
    let b = sum_by-append weight mine (taken_of c.args.workers.items) in
    let d = sum_by-append weight (c.args.owner.taken ++ taken_of c.args.workers.items) c.drain.new.left.items in
    let e = sum_by-append weight c.args.owner.taken (taken_of c.args.workers.items) in
    omega arith
