use Rattle.std.proofs.Common.{◌≡◌, ◌++◌, [], ◌∷◌, map, ap, ◌∙◌}
use Rattle.subcomputation.specs.Subs.{put_sub}
use Rattle.subcomputation.specs.declared.sub.ReadiedOf.{ReadiedOf}
use Rattle.recovery.proofs.OneAlone.{comes}
use Rattle.recovery.proofs.alone.recover_alone.Goals as goal

pub returns-clause-after : goal.returns-clause-after
returns-clause-after c =
    let alone : c.put.new.self ≡ c.args.sub ∷ [] =
    c.in_ok-put.ensures.ok ∙ ap (put_sub c.args.sub) c.new-subs.ensures in
    let ready : c.in_ok-ready.ready ≡ c.in_ok-first.first ++ map (λ (r : ReadiedOf). r.frame) c.in_ok-plan.plan.again =
    c.in_ok-ready.ensures ∙ ap (λ again. c.in_ok-first.first
    ++ map (λ (r : ReadiedOf). r.frame) again) c.again.ensures in
    (comes c.args.members.now c.args.sub c.put.new.self c.carry_out.new.subs c.in_ok-plan.plan c.name-name.result
    c.take-after.result c.in_ok-first.first c.in_ok-ready.ready c.law_is_whole.ensures alone c.in_ok-plan.ensures
    c.carry_out.ensures c.name-name.ensures c.take-after.ensures.same c.in_ok-first.ensures ready).after

pub returns-clause-named : goal.returns-clause-named
returns-clause-named c =
    let alone : c.put.new.self ≡ c.args.sub ∷ [] =
    c.in_ok-put.ensures.ok ∙ ap (put_sub c.args.sub) c.new-subs.ensures in
    let ready : c.in_ok-ready.ready ≡ c.in_ok-first.first ++ map (λ (r : ReadiedOf). r.frame) c.in_ok-plan.plan.again =
    c.in_ok-ready.ensures ∙ ap (λ again. c.in_ok-first.first
    ++ map (λ (r : ReadiedOf). r.frame) again) c.again.ensures in
    (comes c.args.members.now c.args.sub c.put.new.self c.carry_out.new.subs c.in_ok-plan.plan c.name-name.result
    c.take-after.result c.in_ok-first.first c.in_ok-ready.ready c.law_is_whole.ensures alone c.in_ok-plan.ensures
    c.carry_out.ensures c.name-name.ensures c.take-after.ensures.same c.in_ok-first.ensures ready).named

pub returns-clause-ready : goal.returns-clause-ready
returns-clause-ready c =
    let alone : c.put.new.self ≡ c.args.sub ∷ [] =
    c.in_ok-put.ensures.ok ∙ ap (put_sub c.args.sub) c.new-subs.ensures in
    let ready : c.in_ok-ready.ready ≡ c.in_ok-first.first ++ map (λ (r : ReadiedOf). r.frame) c.in_ok-plan.plan.again =
    c.in_ok-ready.ensures ∙ ap (λ again. c.in_ok-first.first
    ++ map (λ (r : ReadiedOf). r.frame) again) c.again.ensures in
    (comes c.args.members.now c.args.sub c.put.new.self c.carry_out.new.subs c.in_ok-plan.plan c.name-name.result
    c.take-after.result c.in_ok-first.first c.in_ok-ready.ready c.law_is_whole.ensures alone c.in_ok-plan.ensures
    c.carry_out.ensures c.name-name.ensures c.take-after.ensures.same c.in_ok-first.ensures ready).ready

pub returns-clause-told : goal.returns-clause-told
returns-clause-told c =
    let alone : c.put.new.self ≡ c.args.sub ∷ [] =
    c.in_ok-put.ensures.ok ∙ ap (put_sub c.args.sub) c.new-subs.ensures in
    let ready : c.in_ok-ready.ready ≡ c.in_ok-first.first ++ map (λ (r : ReadiedOf). r.frame) c.in_ok-plan.plan.again =
    c.in_ok-ready.ensures ∙ ap (λ again. c.in_ok-first.first
    ++ map (λ (r : ReadiedOf). r.frame) again) c.again.ensures in
    (comes c.args.members.now c.args.sub c.put.new.self c.carry_out.new.subs c.in_ok-plan.plan c.name-name.result
    c.take-after.result c.in_ok-first.first c.in_ok-ready.ready c.law_is_whole.ensures alone c.in_ok-plan.ensures
    c.carry_out.ensures c.name-name.ensures c.take-after.ensures.same c.in_ok-first.ensures ready).told

pub returns-clause-records : goal.returns-clause-records
returns-clause-records c =
    let alone : c.put.new.self ≡ c.args.sub ∷ [] =
    c.in_ok-put.ensures.ok ∙ ap (put_sub c.args.sub) c.new-subs.ensures in
    let ready : c.in_ok-ready.ready ≡ c.in_ok-first.first ++ map (λ (r : ReadiedOf). r.frame) c.in_ok-plan.plan.again =
    c.in_ok-ready.ensures ∙ ap (λ again. c.in_ok-first.first
    ++ map (λ (r : ReadiedOf). r.frame) again) c.again.ensures in
    (comes c.args.members.now c.args.sub c.put.new.self c.carry_out.new.subs c.in_ok-plan.plan c.name-name.result
    c.take-after.result c.in_ok-first.first c.in_ok-ready.ready c.law_is_whole.ensures alone c.in_ok-plan.ensures
    c.carry_out.ensures c.name-name.ensures c.take-after.ensures.same c.in_ok-first.ensures ready).records

pub returns-clause-fits : goal.returns-clause-fits
returns-clause-fits c =
    let alone : c.put.new.self ≡ c.args.sub ∷ [] =
    c.in_ok-put.ensures.ok ∙ ap (put_sub c.args.sub) c.new-subs.ensures in
    let ready : c.in_ok-ready.ready ≡ c.in_ok-first.first ++ map (λ (r : ReadiedOf). r.frame) c.in_ok-plan.plan.again =
    c.in_ok-ready.ensures ∙ ap (λ again. c.in_ok-first.first
    ++ map (λ (r : ReadiedOf). r.frame) again) c.again.ensures in
    (comes c.args.members.now c.args.sub c.put.new.self c.carry_out.new.subs c.in_ok-plan.plan c.name-name.result
    c.take-after.result c.in_ok-first.first c.in_ok-ready.ready c.law_is_whole.ensures alone c.in_ok-plan.ensures
    c.carry_out.ensures c.name-name.ensures c.take-after.ensures.same c.in_ok-first.ensures ready).fits
