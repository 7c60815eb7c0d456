use Rattle.std.proofs.Common.{arith, rules, ap, sym, ◌≡◌, ◌∙◌, ◌++◌, [], ◌∷◌, ℕ, List, append_assoc, append-nil, length, length-append, sum_by}
use Rattle.std.proofs.lemmas.List.Sums.{sum_by-append}
use Rattle.crossbeam_queue.specs.Passes.{view}
use Rattle.local_pool.specs.declared.lane.Lane.{Lane}
use Rattle.local_pool.specs.Items.{numbered}
use Rattle.local_pool.proofs.Numbers.{sum_by-numbered_push, length-numbered_from}
use Rattle.local_pool.proofs.Puts.{takes, finds, learned, settled}
use Rattle.local_pool.proofs.Totals.{length_same}
use Rattle.local_pool.proofs.turns.drain.Goals as goal

pub len_as-requires-clause-rule : goal.len_as-requires-clause-rule
len_as-requires-clause-rule g c = finds _ _

pub loop-turn-init : goal.loop-turn-init
loop-turn-init g c =
    let same = c.len_as.ensures.queue.1 in
    let held = c.len_as.ensures.rule.1 in
    let few = c.len_as.ensures.rule.0 in
    let learn = learned (view c.args.keeper.now) held.0 c.requires.whole held.2 in
    let gone : List g.row.D.Denot = learn.0.0 in
    let put = ap (λ v. length v.put) same in
    let taken = ap (λ v. length v.taken) same in
    record {
      own = search rules;
      parts = ap (λ v. v.parts) same ∙ c.requires.whole;
      put = ap (λ v. v.put) same;
      order = (
        gone,
        learn.0.1,
        λ weight. ap (λ v. sum_by weight v.taken) same ∙ learn.0.1 weight
            ∙ ap (λ l. sum_by weight (numbered l)) (sym (append-nil gone)
            ∙ ap (λ l. gone ++ l) (sym c.requires.empty.0)),
      );
      room = omega (arith, learn.1, held.1, few, put, taken, c.requires.empty.1, c.requires.room);
    }

pub pop_as-requires-clause-rule : goal.pop_as-requires-clause-rule
pop_as-requires-clause-rule g c = (takes _ _ (omega (arith, c.loop-turn.invariant.parts)), finds _ _)

pub loop-turn-preserved : goal.loop-turn-preserved
loop-turn-preserved g c =
    let was = c.loop-turn.invariant in
    let v : Lane g.row.D.Denot g.row.D-Stamp.Denot = view c.loop-turn.keeper in
    let turn : g.row.D.Denot = c.in-Some.turn in
    let took = c.in-Some.ensures.rule in
    let number : ℕ = took.0 in
    let next = took.3 was.parts in
    let gone : List g.row.D.Denot = was.order.0 in
    let before : List g.row.D.Denot = gone ++ c.loop-turn.left.items in
    let long = length_same v.taken (numbered before) was.order.2 in
    let counted = length-numbered_from 0 before in
    let is : number ≡ length before = omega arith in
    let parts = ap (λ u. u.parts) took.1 in
    let same_put = ap (λ u. u.put) took.1 in
    let put = ap (λ u. length u.put) took.1 in
    let taken = ap (λ u. length u.taken) took.1 in
    let more = length-append v.taken ((number, turn) ∷ []) in
    record {
      own = search rules;
      parts = omega (arith, parts, was.parts);
      put = rw same_put was.put;
      order = (
        gone,
        was.order.1,
        λ weight.
            let t = ap (λ u. sum_by weight u.taken) took.1 in
            let a = sum_by-append weight v.taken ((number, turn) ∷ []) in
            let w = was.order.2 weight in
            let push = sum_by-numbered_push weight before turn in
            let same : weight (number, turn) ≡ weight (length before, turn) = ap (λ (k : ℕ). weight (k, turn)) is in
            let assoc = ap (λ l. sum_by weight (numbered l)) (append_assoc gone c.loop-turn.left.items (turn ∷ [])) in
            let items = ap (λ l. sum_by weight (numbered (gone ++ l))) c.push_reserved.ensures.items in
            omega arith,
      );
      room = omega (arith, was.room, c.push_reserved.ensures.len, c.push_reserved.ensures.capacity);
    }

pub returns : goal.returns
returns g c =
    let was = c.loop-turn.invariant in
    let held = c.in_default.ensures.rule.1 in
    let all = settled (view c.loop-turn.keeper) held.0 was.parts held.1 held.2 in
    (was.order.0, λ weight. ap (sum_by weight) (sym was.put) ∙ all weight ∙ was.order.2 weight, was.order.1)
