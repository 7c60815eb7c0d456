use Rattle.std.proofs.Common.{◌==◌, ◌≡◌, ℕ, List, IsPermutation, sym, ap, ◌∙◌, arith}
use Rattle.std.proofs.lemmas.List.Sorted.{sum_by-IsPermutation}
use Rattle.ids.specs.Named.{Name}
use Rattle.sub_rules.specs.Debts.{one_if}
use Rattle.departure.specs.Links.{AreKept, AreTaken, HasMore, HasTwice, same_name, times}
use Rattle.departure.proofs.LinkedStores.{same_more, same_rest, same_twice}
use Rattle.departure.proofs.accepting.are_same.Goals.{then-take_each, else-take_each}
use Rattle.departure.proofs.accepting.are_same.Goals as goal

-- how often a name stands among names doesn't change with their order
as_often : (names sorted : List Name) → IsPermutation names sorted → (n : Name)
    → times same_name n sorted ≡ times same_name n names
as_often names sorted same n = sum_by-IsPermutation (λ y. one_if (same_name n y)) names sorted same

kept_of : (names sorted kept : List Name) → IsPermutation names sorted → AreKept sorted kept → AreKept names kept
kept_of names sorted kept same h = record {
  each = λ n. h.each n ∙ as_often names sorted same n;
  once = λ n. let before = h.once n in omega (arith, as_often names sorted same n);
}

twice_of : (names sorted : List Name) → IsPermutation names sorted → HasTwice sorted → HasTwice names
twice_of names sorted same h = record {
  name = h.name;
  twice = let above =
      h.twice in omega (arith, as_often names sorted same h.name);
}

taken_of : (names sorted before after : List Name) → IsPermutation names sorted → AreTaken sorted before after
    → AreTaken names before after
taken_of names sorted before after same h n = let gone = h n in omega (arith, as_often names sorted same n)

more_of : (names sorted others : List Name) → IsPermutation names sorted → HasMore sorted others → HasMore names others
more_of names sorted others same h =
    record { name = h.name; more = let above = h.more in omega (arith, as_often names sorted same h.name) }

pub returns-in-Some : goal.returns-in-Some
returns-in-Some c =
    let left = c.args.left.now in
    let right = c.args.right.now in
    let as_left : IsPermutation left c.as_slice.result.now = rw c.as_slice.ensures.value c.in_ok-left.ensures in
    let as_right : IsPermutation right c.as_slice-in-Some.result.now =
    rw c.as_slice-in-Some.ensures.value c.in_ok-right.ensures in
    let first : AreKept c.as_slice.result.now c.in-Some.rest = rw c.in-Some.is at c.in_ok-rest.ensures in
    let once = kept_of left c.as_slice.result.now c.in-Some.rest as_left first in
    elim c.if-take_each.branch [
      | then-take_each w ↦
          let taken : AreTaken c.as_slice-in-Some.result.now c.in-Some.rest c.take_each.new.rest =
          rw w.if-take_each.true at c.take_each.ensures in
          w.result-is ∙ ap (λ (k : ℕ). k == 0) w.len.ensures
          ∙ same_rest left right c.in-Some.rest c.take_each.new.rest once
          (taken_of right c.as_slice-in-Some.result.now c.in-Some.rest c.take_each.new.rest as_right taken)
      | else-take_each w ↦
          let more : HasMore c.as_slice-in-Some.result.now c.in-Some.rest =
          rw w.if-take_each.false at c.take_each.ensures in
          w.result-is ∙ w.if-take_each.false
          ∙ sym (same_more left right c.in-Some.rest once
          (more_of right c.as_slice-in-Some.result.now c.in-Some.rest as_right more))
    ]

pub returns : goal.returns
returns c =
    let as_left : IsPermutation c.args.left.now c.as_slice.result.now =
    rw c.as_slice.ensures.value c.in_ok-left.ensures in
    let twice : HasTwice c.as_slice.result.now = rw c.in-None.is at c.in_ok-rest.ensures in
    sym (same_twice c.args.left.now c.args.right.now (twice_of c.args.left.now c.as_slice.result.now as_left twice))
