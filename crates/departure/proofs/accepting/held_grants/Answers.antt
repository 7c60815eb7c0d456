use Rattle.std.proofs.Common.{◌≡◌, ◌||◌, Bool, List, [], ◌∷◌, sym, ap, ◌∙◌}
use Rattle.std.specs.Option.{is_some}
use Rattle.ids.specs.Naming.{name_of_grant}
use Rattle.victim_records.specs.Records.{record_in}
use Rattle.sub_rules.specs.declared.content.Content.{Content}
use Rattle.subcomputation.specs.Subs.{SubOf, host_in}
use Rattle.departure.proofs.LinkedLists.{or_none}
use Rattle.departure.proofs.LinkedNames.{has}
use Rattle.departure.proofs.LinkedStores.{host_put}
use Rattle.departure.proofs.accepting.held_grants.Goals as goal

pub loop-sub-preserved : goal.loop-sub-preserved
loop-sub-preserved c = λ g.
    let split : c.loop-sub.sub-iterator ≡ c.in-Some.sub.now ∷ c.next.new.self = c.in-Some.ensures.steps in
    let before = has (name_of_grant g) c.loop-sub.held in
    ap (λ (b : Bool). b || is_some (host_in g c.next.new.self)) (c.in_ok-add_grants.ensures g
    ∙ ap (λ (x : Content). before || is_some (record_in g x.records)) c.content.ensures.same)
    ∙ host_put g c.in-Some.sub.now c.next.new.self before
    ∙ ap (λ (rest : List SubOf). before || is_some (host_in g rest)) (sym split)
    ∙ c.loop-sub.invariant g

pub returns : goal.returns
returns c = λ g.
    let none : c.loop-sub.sub-iterator ≡ [] = c.in-None.ensures.steps.0 in
    or_none (has (name_of_grant g) c.loop-sub.held)
    ∙ ap (λ (rest : List SubOf). has (name_of_grant g) c.loop-sub.held || is_some (host_in g rest)) (sym none)
    ∙ c.loop-sub.invariant g
