-- A draft that follows both parts of a recovery is a plan of it.
use Rattle.std.proofs.Common.{◌≡◌, List, ◌++◌, map, sym, ap, subst, ◌∙◌}
use Rattle.std.proofs.lemmas.List.{map-append}
use Rattle.ids.specs.declared.member.Member.{Member}
use Rattle.subcomputation.specs.Subs.{SubOf, grants_of_subs}
use Rattle.subcomputation.specs.Recovering.{Recovery, for_each, settle_record, settle_sub, their_records}
use Rattle.recovery.specs.Plans.{AreHeld, IsPlan, PlanOf, carried_out, stop_of}
use Rattle.recovery.specs.declared.plan.Draft.{Draft}
use Rattle.recovery.specs.declared.plan.Hosted.{Hosted}
use Rattle.recovery.proofs.Recording.{grants_of_hosts}
use Rattle.recovery.proofs.Standing.{IsStep}

-- the subcomputations are settled
abbrev pub subs_settled : List Member → List SubOf → Recovery
subs_settled members subs = for_each (settle_sub members) (grants_of_subs subs) subs

-- a draft in which they are settled
abbrev pub IsBegun : List Member → List SubOf → Draft → Type 0
IsBegun members subs d =
    (carried_out d.settled subs ≡ (subs_settled members subs).subs)
    × (d.stopped ≡ map stop_of (subs_settled members subs).stopped) × (d.again ≡ (subs_settled members subs).again)
    × AreHeld d.settled subs

-- the plan that both parts lead to
pub planned : (members : List Member) (subs : List SubOf) (d e : Draft) (hosts : List Hosted) (p : PlanOf)
    → IsBegun members subs d → grants_of_hosts hosts
    ≡ their_records (grants_of_subs subs) (subs_settled members subs).subs
    → IsStep subs d e (for_each (settle_record members) (grants_of_hosts hosts) (carried_out d.settled subs))
    → p ≡ record { settled = e.settled; stopped = e.stopped; again = e.again } → IsPlan members subs p
planned members subs d e hosts p begun grants step is =
    let first : Recovery = subs_settled members subs in
    let second : Recovery = for_each (settle_record members)
    (their_records (grants_of_subs subs) first.subs) first.subs in
    let same : for_each (settle_record members) (grants_of_hosts hosts) (carried_out d.settled subs) ≡ second =
    ap (λ gs. for_each (settle_record members) gs (carried_out d.settled subs)) grants
    ∙ ap (for_each (settle_record members) (their_records (grants_of_subs subs) first.subs)) begun.0 in
    let plan : IsPlan members subs (record { settled = e.settled; stopped = e.stopped; again = e.again }) =
    record {
      held = step.3;
      subs = step.0 ∙ ap (λ r. r.subs) same;
      stopped =
          step.1 ∙ ap (λ xs. xs ++ map stop_of
          (for_each (settle_record members) (grants_of_hosts hosts) (carried_out d.settled subs)).stopped) begun.1
          ∙ ap (λ r. map stop_of first.stopped ++ map stop_of r.stopped) same
          ∙ sym (map-append stop_of first.stopped second.stopped);
      again =
          step.2 ∙ ap (λ xs. xs ++ (for_each (settle_record members) (grants_of_hosts hosts)
          (carried_out d.settled subs)).again) begun.2
          ∙ ap (λ r. first.again ++ r.again) same;
    } in
    subst (λ q. IsPlan members subs q) (sym is) plan
