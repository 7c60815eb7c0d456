use Rattle.std.proofs.Common.{◌≡◌, ◌+◌, List, ◌∷◌, ◌++◌, length, sym, ap, ◌∙◌, arith}
use Rattle.std.specs.Vec.Iter.{into_iter_items, into_iter_len}
use Rattle.ids.specs.Named.{name_cmp}
use Rattle.ids.specs.Naming.{name_of_frame}
use Rattle.ids.specs.declared.work.Frame.{Frame}
use Rattle.ids.proofs.NameOrder.{names_total}
use Rattle.ids.proofs.RisingLaws.{put_next}
use Rattle.departure.proofs.LinkedLists.{append_none, nothing_left}
use Rattle.departure.proofs.accepting.frames_of.Goals as goal

pub loop-frame-preserved : goal.loop-frame-preserved
loop-frame-preserved c =
    let rest = into_iter_items c.next.new.self in
    let split : into_iter_items c.loop-frame.frame-iterator ≡ c.in-Some.frame ∷ rest = c.in-Some.ensures.steps.0 in
    let fewer : into_iter_len c.next.new.self + 1 ≡ into_iter_len c.loop-frame.frame-iterator =
    c.in-Some.ensures.steps.1 in
    let here = c.loop-frame.invariant.0 in
    let count = c.loop-frame.invariant.1 in (
      rw c.in_ok-insert.ensures.ok (put_next name_of_frame name_cmp names_total c.loop-frame.frames c.in-Some.frame rest
          c.args.listed.items (ap (λ (xs : List Frame). c.loop-frame.frames ++ xs) (sym split) ∙ here) c.requires),
      omega (arith, ap (λ (xs : List Frame). length xs) split),
    )

pub returns : goal.returns
returns c =
    let none : into_iter_len c.loop-frame.frame-iterator ≡ 0 = c.in-None.ensures.steps.0 in
    let left = nothing_left (into_iter_items c.loop-frame.frame-iterator) (sym c.loop-frame.invariant.1 ∙ none) in
    sym (append_none c.loop-frame.frames) ∙ ap (λ (xs : List Frame). c.loop-frame.frames ++ xs) (sym left)
    ∙ c.loop-frame.invariant.0
