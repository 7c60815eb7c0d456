use Rattle.std.proofs.Common.{rules, arith, ap, ◌≡◌, [], List}
use Rattle.std.proofs.lemmas.List.Elements.{All-pop}
use Rattle.start_words.specs.Numbers.{times_drawn}
use Rattle.start_words.specs.Hands.{hand}
use Rattle.start_words.specs.Words.{PenOf, drawn_by}
use Rattle.start_words.proofs.Counts.{times-append, times-drawn_by, times_of_no_pens}
use Rattle.start_words.proofs.Moves.{comes, closed_each_once}
use Rattle.start_words.proofs.table.WordTable.close.Goals as goal

pub load_new_seat-all-requires : goal.load_new_seat-all-requires
load_new_seat-all-requires c = (omega arith, comes _ _ (hand c.self.inside.table.shared.key [], []))

pub loop-pen-preserved : goal.loop-pen-preserved
loop-pen-preserved c = record {
  here = search rules;
  parts = omega (arith, c.in-Some.ensures.cases, c.gather.ensures.part, c.loop-pen.invariant.parts);
  own = (All-pop (λ (p : PenOf). p.table
      ≡ c.self.inside.table.shared.table_id) _ _ _ c.pop.ensures.items c.loop-pen.invariant.own).0;
  drawn = λ x.
      let was = c.loop-pen.invariant.drawn x in
      let all = ap (times_drawn x) c.gather.ensures.drawn in
      let both = times-append x c.loop-pen.all.me.0.drawn c.in-Some.pen.drawn in
      let pens = ap (λ (l : List PenOf). times_drawn x (drawn_by l)) c.in-Some.ensures.items in
      let one = times-drawn_by x c.pop.new.self.items c.in-Some.pen in
      omega arith;
}

pub returns : goal.returns
returns c = λ x.
    let was = c.loop-pen.invariant.drawn x in
    let empty = c.in_default.ensures.cases in
    let none = times_of_no_pens x c.loop-pen.pens.items (omega arith) in
    let once = closed_each_once _ _ c.loop-pen.all.me.0 _ _ c.word-count.result
    (omega arith) c.close_with-closed.ensures.values.2 c.word-count.ensures x in
    omega arith
