use Rattle.std.proofs.Common.{◌≡◌, ◌+◌, List, ◌∷◌, ◌++◌, length, sym, ap, ◌∙◌, arith}
use Rattle.std.specs.Vec.Iter.{into_iter_items, into_iter_len}
use Rattle.ids.specs.Named.{name_cmp}
use Rattle.ids.specs.Naming.{name_of_record}
use Rattle.ids.specs.declared.work.Record.{Record}
use Rattle.ids.proofs.NameOrder.{names_total}
use Rattle.ids.proofs.RisingLaws.{put_next}
use Rattle.departure.proofs.LinkedLists.{append_none, nothing_left}
use Rattle.departure.proofs.accepting.records_of.Goals as goal

pub loop-record-preserved : goal.loop-record-preserved
loop-record-preserved c =
    let rest = into_iter_items c.next.new.self in
    let split : into_iter_items c.loop-record.record-iterator ≡ c.in-Some.record ∷ rest = c.in-Some.ensures.steps.0 in
    let fewer : into_iter_len c.next.new.self + 1 ≡ into_iter_len c.loop-record.record-iterator =
    c.in-Some.ensures.steps.1 in
    let here = c.loop-record.invariant.0 in
    let count = c.loop-record.invariant.1 in (
      rw c.in_ok-open.ensures.ok (put_next name_of_record name_cmp names_total c.loop-record.records
          c.in-Some.record rest c.args.listed.items (ap (λ (xs : List Record). c.loop-record.records ++ xs) (sym split)
          ∙ here) c.requires),
      omega (arith, ap (λ (xs : List Record). length xs) split),
    )

pub returns : goal.returns
returns c =
    let none : into_iter_len c.loop-record.record-iterator ≡ 0 = c.in-None.ensures.steps.0 in
    let left = nothing_left (into_iter_items c.loop-record.record-iterator) (sym c.loop-record.invariant.1 ∙ none) in
    sym (append_none c.loop-record.records) ∙ ap (λ (xs : List Record). c.loop-record.records ++ xs) (sym left)
    ∙ c.loop-record.invariant.0
