use Rattle.std.proofs.Common.{◌≡◌, ◌∷◌, None, ap, subst, sym, ◌∙◌}
use Rattle.std.specs.Map.Iter.{deref}
use Rattle.std.proofs.lemmas.Map.Iter.{rest_more}
use Rattle.ids.specs.Named.{item_in, put_in}
use Rattle.ids.specs.Naming.{name_of_record}
use Rattle.recovery.proofs.Hosting.{IsAdding, adds_one, name_of_hosted}
use Rattle.recovery.proofs.Workers.{none_copied}
use Rattle.recovery.proofs.plan.add_records.Goals as goal

pub loop-record-preserved-in-Continue-1 : goal.loop-record-preserved-in-Continue-1
loop-record-preserved-in-Continue-1 c =
    let split : c.loop-record.record-iterator ≡ c.in-Some.record.now ∷ c.next.new.self =
    rest_more deref _ _ _ _ c.in-Some.is c.next.ensures.steps in
    let adding : IsAdding c.args.sub.now c.args.hosts.now (c.in-Some.record.now ∷ c.next.new.self) c.loop-record.hosts =
    subst (λ rs. IsAdding c.args.sub.now c.args.hosts.now rs c.loop-record.hosts) split c.loop-record.invariant in
    let none : item_in name_of_hosted (name_of_record c.in-Some.record.now) c.loop-record.hosts ≡ None =
    ap (λ n. item_in name_of_hosted n c.loop-record.hosts) (sym c.name.ensures) ∙ sym c.get.ensures.same
    ∙ none_copied c.get.result c.if-is_none.ensures in
    subst (λ hs. IsAdding c.args.sub.now c.args.hosts.now c.next.new.self hs)
    (sym (c.in_ok-put.ensures.ok ∙ ap (λ g.
    put_in name_of_hosted (record { grant = c.in-Some.record.now.grant; host = g }) c.loop-record.hosts)
    c.grant.ensures))
    (adds_one c.args.sub.now c.args.hosts.now c.in-Some.record.now c.next.new.self c.loop-record.hosts none adding)
