use Rattle.std.proofs.Common.{rules, ap, arith, ◌+◌}
use Rattle.start_words.specs.Numbers.{times_drawn}
use Rattle.start_words.specs.Words.{PenOf}
use Rattle.start_words.proofs.Counts.{found_times}
use Rattle.start_words.proofs.Moves.{draws}
use Rattle.start_words.proofs.pen.Pen.draw.Goals as goal

pub fetch_add-before-requires : goal.fetch_add-before-requires
fetch_add-before-requires c = (search rules, search rules, draws _ _ _ _ c.table.invariant.2 (omega arith))

pub returns-clause-once : goal.returns-clause-once
returns-clause-once c = λ has.
    let number = c.fetch_add-before.result + 1 in
    let some = found_times _ has.0 number has.1 has.2 in
    let never = c.fetch_add-before.ensures.2.2 in
    let same = ap (λ (p : PenOf). times_drawn number p.drawn) c.self.view_is in
    omega arith
