use Rattle.std.proofs.Common.{◌≡◌, nat_eq, true, false, List, map, sym, ap, ◌∙◌}
use Rattle.ids.specs.declared.work.Frame.{Frame}
use Rattle.subcomputation.specs.Fitting.{awaited_in, is_linked, numbers_of, owed_by, same_once}
use Rattle.departure.specs.Links.{name_of_number, name_of_return, same_name}
use Rattle.departure.specs.Offers.{offered}
use Rattle.departure.proofs.LinkedLists.{answers, debts_named, linked_by, numbers_by_names, numbers_named, returns_by_names, same_lists, unlinked}
use Rattle.departure.proofs.accepting.is_linked.Goals as goal

pub returns-then-not-branch : goal.returns-then-not-branch
returns-then-not-branch c =
    let content = (offered c.args.offer.now).content in
    let names = map name_of_number (numbers_of content) in
    let made : c.in_ok-numbers.numbers.items ≡ names =
    c.in_ok-numbers.ensures ∙ numbers_named content.frames content.records in
    let twice : same_once nat_eq (numbers_of content) (numbers_of content) ≡ false =
    numbers_by_names (numbers_of content) (numbers_of content)
    ∙ sym (same_lists c.as_slice.result.now c.as_slice-2.result.now names names (c.as_slice.ensures.value
    ∙ made) (c.as_slice-2.ensures.value ∙ made))
    ∙ sym c.in_ok-are_same.ensures
    ∙ c.if-not-branch.true in
    unlinked content twice

pub returns : goal.returns
returns c =
    let content = (offered c.args.offer.now).content in
    let names = map name_of_number (numbers_of content) in
    let made : c.in_ok-numbers.numbers.items ≡ names =
    c.in_ok-numbers.ensures ∙ numbers_named content.frames content.records in
    let once : same_once nat_eq (numbers_of content) (numbers_of content) ≡ true =
    numbers_by_names (numbers_of content) (numbers_of content)
    ∙ sym (same_lists c.as_slice.result.now c.as_slice-2.result.now names names (c.as_slice.ensures.value
    ∙ made) (c.as_slice-2.ensures.value ∙ made))
    ∙ sym c.in_ok-are_same.ensures
    ∙ c.if-not-branch.false in
    let awaited = awaited_in content.frames in
    let owed = owed_by content in
    let debts : c.in_ok-owed.owed.items ≡ map name_of_return owed =
    c.in_ok-owed.ensures ∙ debts_named content.frames content.records in
    let tested : same_once same_name c.as_slice-4.result.now c.as_slice-5.result.now ≡ is_linked content =
    same_lists c.as_slice-4.result.now c.as_slice-5.result.now (map name_of_return awaited) (map name_of_return owed)
    (c.as_slice-4.ensures ∙ c.in_ok-awaited.ensures
    ∙ ap (λ (frames : List Frame). map name_of_return (awaited_in frames)) c.as_slice-3.ensures)
    (c.as_slice-5.ensures.value ∙ debts)
    ∙ sym (returns_by_names awaited owed)
    ∙ linked_by content once in
    answers c.are_same-2.result (same_once same_name c.as_slice-4.result.now c.as_slice-5.result.now)
    (is_linked content) tested c.are_same-2.ensures
