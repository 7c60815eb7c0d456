use Rattle.std.proofs.Common.{◌≡◌, ◌+◌, ap, ◌∙◌}
use Rattle.sub_rules.specs.declared.content.Content.{Content}
use Rattle.departure.proofs.Offering.{next_hop, same_offer}
use Rattle.departure.proofs.freezing.Move.offer_of.Goals as goal

pub returns-clause-same : goal.returns-clause-same
returns-clause-same c =
    let s = c.args.sub.now in
    let same : c.content-content.result.now ≡ s.content = c.content-content.ensures.same in
    let hop : c.unwrap.result ≡ s.hop + 1 =
    next_hop s.hop c.unwrap.result c.next.result c.requires (rw c.hop.ensures at c.next.ensures) c.unwrap.ensures in
    same_offer c.args.self.now.from s _ _ _ _ _ _ _ _
    c.grant.ensures
    hop
    (ap (λ (x : Content). x.parent) same)
    (ap (λ (x : Content). x.progress) same)
    (c.in_ok-clone.ensures.cases ∙ ap (λ (x : Content). x.task) same)
    (ap (λ (x : Content). x.next) same)
    (c.in_ok-frames.ensures.same ∙ ap (λ (x : Content). x.frames) same)
    (c.in_ok-records.ensures.same ∙ ap (λ (x : Content). x.records) same)
