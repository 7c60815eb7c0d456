use Rattle.std.proofs.Common.{arith, rules, ap, ◌≡◌, [], ◌∷◌, List, sum_by}
use Rattle.std.proofs.lemmas.List.Elements.{All-pop}
use Rattle.std.proofs.lemmas.List.Sums.{sum_by-append}
use Rattle.std.proofs.lemmas.List.Concat.{flat_map-append}
use Rattle.crossbeam_queue.specs.Passes.{view}
use Rattle.local_pool.specs.Turns.{PassOf, put_by, taken_by}
use Rattle.local_pool.proofs.turns.gather_all.Goals as goal

pub loop-pass-preserved : goal.loop-pass-preserved
loop-pass-preserved g c =
    let Pass : Type 0 = PassOf g.row.D.Denot g.row.D-Stamp.Denot in
    let rest : List Pass = c.pop.new.self.items in
    let one : Pass = c.in-Some.pass in
    let popped = c.in-Some.ensures.items in
    record {
      here = search rules;
      parts = omega (arith, c.in-Some.ensures.cases, c.gather.ensures.part, c.loop-pass.invariant.parts);
      some_part = omega (arith, c.gather.ensures.part);
      own = (All-pop (λ (p : Pass). p.queue
          ≡ c.args.line.now.table.shared.table_id) _ _ _ c.pop.ensures.items c.loop-pass.invariant.own).0;
      put = λ weight.
          let was = c.loop-pass.invariant.put weight in
          let all = ap (sum_by weight) c.gather.ensures.put in
          let both = sum_by-append weight (view c.loop-pass.keeper).put one.put in
          let passes = ap (λ (l : List Pass). sum_by weight (put_by l)) popped in
          let split = ap (sum_by weight) (flat_map-append (λ (p : Pass). p.put) rest (one ∷ [])) in
          let two = sum_by-append weight (put_by rest) (put_by (one ∷ [])) in
          let three = sum_by-append weight one.put [] in
          omega arith;
      taken = λ weight.
          let was = c.loop-pass.invariant.taken weight in
          let all = ap (sum_by weight) c.gather.ensures.taken in
          let both = sum_by-append weight (view c.loop-pass.keeper).taken one.taken in
          let passes = ap (λ (l : List Pass). sum_by weight (taken_by l)) popped in
          let split = ap (sum_by weight) (flat_map-append (λ (p : Pass). p.taken) rest (one ∷ [])) in
          let two = sum_by-append weight (taken_by rest) (taken_by (one ∷ [])) in
          let three = sum_by-append weight one.taken [] in
          omega arith;
    }
