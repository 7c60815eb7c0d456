use Rattle.std.proofs.Common.{◌≡◌, ◌∙◌, List, ap, rules, subst, sym}
use Rattle.std.specs.List.{filter}
use Rattle.std.specs.Prelude.{is_some}
use Rattle.ids.specs.Named.{Name}
use Rattle.level_deques.specs.declared.posts.Post.{Post}
use Rattle.steal_protocol.specs.Requests.{settled}
use Rattle.subcomputation.specs.Subs.{sub_in}
use Rattle.recovery.specs.Plans.{carried_out}
use Rattle.recovery.specs.Told.{AreWhole}
use Rattle.node_state.specs.Assemblies.{of_living, without_all}
use Rattle.node_state.specs.Parts.{AreParts, PartsOf}
use Rattle.node_state.specs.Posts.{posted_all, ready_of_sub}
use Rattle.node_state.proofs.Keeping.{by_view}
use Rattle.node_state.proofs.Living.{living_left}
use Rattle.node_state.proofs.Recovers.{recovered_fits, recovered_parts, recovered_view, recovery_of}
use Rattle.node_state.proofs.node.Parts.recover.Goals as goal

pub invariant_of-self : goal.invariant_of-self
invariant_of-self c =
    let asker : c.settle.new.self ≡ settled c.args.victim c.args.self.now.node.asker =
    c.settle.ensures ∙ ap (λ (v : PartsOf). settled c.args.victim v.node.asker) c.self.view_is in
    let subs : c.carry_out.new.subs ≡ (recovery_of c.args.self.now.node c.args.roster).subs =
    c.carry_out.ensures ∙ ap (λ (v : PartsOf). carried_out c.args.plan.settled v.node.subs) c.self.view_is
    ∙ c.requires.plan.subs in
    let living : c.forget_all.new.assemblies ≡ of_living c.args.roster.members c.self.inside.assemblies =
    c.forget_all.ensures ∙ ap (λ (names : List Name). without_all names c.self.inside.assemblies)
    (c.as_slice.ensures.value ∙ c.in_ok-dead.ensures)
    ∙ living_left c.args.roster.members c.self.inside.assemblies c.law_stand_in_order.ensures in
    let again : c.again.result.now ≡ (recovery_of c.args.self.now.node c.args.roster).again =
    c.again.ensures ∙ c.requires.plan.again in
    let posted : c.in_ok-posts.posts ≡ posted_all c.again.result.now c.self.inside.posts = search rules in
    let kept : c.withdraw_stale.new.posts
    ≡ filter (λ (p : Post). is_some (ready_of_sub p.frame (sub_in p.grant c.carry_out.new.subs)))
    c.in_ok-posts.posts = search rules in
    let whole : AreWhole c.args.self.now.node.subs =
    subst (λ (v : PartsOf). AreWhole v.node.subs) c.self.view_is c.law_are_whole.ensures in
    let are : AreParts c.args.self.now = rw (← c.self.view_is) c.self.invariant in
    by_view _ _ (recovered_view _ c.args.self.now c.args.roster c.settle.new.self
    (settled c.args.victim c.args.self.now.node.asker) c.carry_out.new.subs c.forget_all.new.assemblies
    c.again.result.now c.in_ok-posts.posts c.withdraw_stale.new.posts c.self.view_is asker subs living again posted
    kept)
    (recovered_parts c.args.self.now.node c.args.roster
    (settled c.args.victim c.args.self.now.node.asker) c.requires.member whole c.args.self.now.posts are)

pub returns-clause-ok : goal.returns-clause-ok
returns-clause-ok c =
    let asker : c.settle.new.self ≡ settled c.args.victim c.args.self.now.node.asker =
    c.settle.ensures ∙ ap (λ (v : PartsOf). settled c.args.victim v.node.asker) c.self.view_is in
    let subs : c.carry_out.new.subs ≡ (recovery_of c.args.self.now.node c.args.roster).subs =
    c.carry_out.ensures ∙ ap (λ (v : PartsOf). carried_out c.args.plan.settled v.node.subs) c.self.view_is
    ∙ c.requires.plan.subs in
    let living : c.forget_all.new.assemblies ≡ of_living c.args.roster.members c.self.inside.assemblies =
    c.forget_all.ensures ∙ ap (λ (names : List Name). without_all names c.self.inside.assemblies)
    (c.as_slice.ensures.value ∙ c.in_ok-dead.ensures)
    ∙ living_left c.args.roster.members c.self.inside.assemblies c.law_stand_in_order.ensures in
    let again : c.again.result.now ≡ (recovery_of c.args.self.now.node c.args.roster).again =
    c.again.ensures ∙ c.requires.plan.again in
    let posted : c.in_ok-posts.posts ≡ posted_all c.again.result.now c.self.inside.posts = search rules in
    let kept : c.withdraw_stale.new.posts
    ≡ filter (λ (p : Post). is_some (ready_of_sub p.frame (sub_in p.grant c.carry_out.new.subs)))
    c.in_ok-posts.posts = search rules in
    recovered_view _ c.args.self.now c.args.roster c.settle.new.self
    (settled c.args.victim c.args.self.now.node.asker) c.carry_out.new.subs c.forget_all.new.assemblies
    c.again.result.now c.in_ok-posts.posts c.withdraw_stale.new.posts c.self.view_is asker subs living again posted
    kept

pub returns-clause-fits : goal.returns-clause-fits
returns-clause-fits c =
    let subs : c.carry_out.new.subs ≡ (recovery_of c.args.self.now.node c.args.roster).subs =
    c.carry_out.ensures ∙ ap (λ (v : PartsOf). carried_out c.args.plan.settled v.node.subs) c.self.view_is
    ∙ c.requires.plan.subs in
    let whole : AreWhole c.args.self.now.node.subs =
    subst (λ (v : PartsOf). AreWhole v.node.subs) c.self.view_is c.law_are_whole.ensures in
    λ p fit g s there. recovered_fits c.args.self.now.node c.args.roster p whole fit g s (ap (sub_in g) (sym subs)
    ∙ there)
