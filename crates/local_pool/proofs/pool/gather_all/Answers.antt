use Rattle.std.proofs.Common.{arith, rules, ap, ◌≡◌, [], ◌∷◌, List, sum_by, flat_map}
use Rattle.std.proofs.lemmas.List.Elements.{All-pop}
use Rattle.std.proofs.lemmas.List.Sums.{sum_by-append}
use Rattle.std.proofs.lemmas.List.Concat.{flat_map-append}
use Rattle.crossbeam_deque.specs.Handles.{worker_deque, worker_view}
use Rattle.local_pool.specs.Pools.{WorkerOf}
use Rattle.local_pool.proofs.pool.gather_all.Goals as goal

pub loop-worker-preserved : goal.loop-worker-preserved
loop-worker-preserved g c = record {
  same = search rules;
  parts = omega (arith, c.in-Some.ensures.cases, c.gather.ensures.part, c.loop-worker.invariant.parts);
  owners = search rules;
  offered = search rules;
  own = (All-pop (λ (w : WorkerOf g.row.T.Denot). w.pool
      ≡ worker_deque c.args.deque.now) _ _ _ c.pop.ensures.items c.loop-worker.invariant.own).0;
  taken = λ weight.
      let was = c.loop-worker.invariant.taken weight in
      let all = ap (sum_by weight) c.gather.ensures.taken in
      let both = sum_by-append weight (worker_view c.loop-worker.deque).taken c.in-Some.worker.taken in
      let taken_of : List (WorkerOf g.row.T.Denot) → List g.row.T.Denot = flat_map (λ w. w.taken) in
      let workers = ap (λ l. sum_by weight (taken_of l)) c.in-Some.ensures.items in
      let one = ap (sum_by weight) (flat_map-append (λ (w : WorkerOf g.row.T.Denot). w.taken) c.pop.new.self.items
      (c.in-Some.worker ∷ [])) in
      let two = sum_by-append weight (taken_of c.pop.new.self.items) (taken_of (c.in-Some.worker ∷ [])) in
      let three = sum_by-append weight c.in-Some.worker.taken [] in
      omega arith;
}
