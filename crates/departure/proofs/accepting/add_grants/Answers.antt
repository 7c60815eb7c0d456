use Rattle.std.proofs.Common.{◌≡◌, ◌||◌, List, [], ◌∷◌, sym, ap, ◌∙◌}
use Rattle.std.specs.Option.{is_some}
use Rattle.ids.specs.Naming.{name_of_grant}
use Rattle.ids.specs.declared.work.Record.{Record}
use Rattle.victim_records.specs.Records.{record_in}
use Rattle.departure.proofs.LinkedLists.{or_none}
use Rattle.departure.proofs.LinkedNames.{has}
use Rattle.departure.proofs.LinkedStores.{grant_put}
use Rattle.departure.proofs.accepting.add_grants.Goals as goal

pub loop-record-preserved : goal.loop-record-preserved
loop-record-preserved c = λ g.
    let split : c.loop-record.record-iterator ≡ c.in-Some.record.now ∷ c.next.new.self = c.in-Some.ensures.steps in
    rw (c.in_ok-put.ensures.ok, c.grant.ensures) (grant_put g c.in-Some.record.now c.loop-record.held c.next.new.self
    ∙ ap (λ (rest : List Record). has (name_of_grant g) c.loop-record.held || is_some (record_in g rest))
    (sym split) ∙ c.loop-record.invariant g)

pub returns : goal.returns
returns c = λ g.
    let none : c.loop-record.record-iterator ≡ [] = c.in-None.ensures.steps.0 in
    or_none (has (name_of_grant g) c.loop-record.held)
    ∙ ap (λ (rest : List Record). has (name_of_grant g) c.loop-record.held || is_some (record_in g rest)) (sym none)
    ∙ c.loop-record.invariant g
