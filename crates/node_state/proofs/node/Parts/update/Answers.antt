use Rattle.std.proofs.Common.{◌≡◌, ◌∙◌, List, Some, refl, sym, ap, subst, rules}
use Rattle.std.specs.List.{filter}
use Rattle.ids.specs.Names.{Grant}
use Rattle.ids.specs.Named.{Name, changed_in}
use Rattle.ids.specs.Naming.{name_of_frame}
use Rattle.ids.specs.Ordered.{AreInOrder}
use Rattle.ids.proofs.Replacing.{put_is_found}
use Rattle.level_deques.specs.declared.posts.Post.{Post}
use Rattle.std.specs.Prelude.{is_some}
use Rattle.subcomputation.specs.Subs.{SubOf, name_of_sub, put_sub, sub_in}
use Rattle.subcomputation.specs.Told.{updated_sub}
use Rattle.node_state.specs.Parts.{AreParts, IsMember, PartsOf, ready_of, with_posts}
use Rattle.node_state.specs.Stale.{stale_by}
use Rattle.sub_rules.specs.Readiness.{TellsReady}
use Rattle.sub_rules.specs.Updates.{updated}
use Rattle.node_state.specs.Posts.{posted_all, ready_of_sub}
use Rattle.node_state.proofs.Keeping.{by_view, change_view, changed_parts, updated_put}
use Rattle.node_state.proofs.Standing.{covers}
use Rattle.node_state.proofs.node.Parts.update.Goals as goal

pub withdraw-requires : goal.withdraw-requires
withdraw-requires c =
    let sub = c.requires.sub in
    let there : sub_in c.args.grant c.self.inside.subs ≡ Some sub =
    ap (λ (p : PartsOf). sub_in c.args.grant p.node.subs) c.self.view_is ∙ c.requires.there in
    let put : c.try_change.new.self ≡ put_sub (updated_sub c.args.update sub) c.self.inside.subs =
    updated_put c.args.update c.args.grant sub c.self.inside.subs c.try_change.new.self there
    (c.in_default.ensures.ok ∙ ap (λ (n : Name). changed_in name_of_sub
    (updated_sub c.args.update) n c.self.inside.subs) c.name_of.ensures) in
    let held : sub_in c.args.grant c.args.self.now.node.subs ≡ Some c.requires.next.before =
    ap (λ (g : Grant). sub_in g c.args.self.now.node.subs) (sym c.requires.named) ∙ c.requires.next.there in
    let same : c.requires.next.before ≡ sub = let found = c.requires.there in cc in
    let tells : TellsReady sub.content (updated c.args.update sub.content) c.args.ready.now =
    rw same at c.requires.next.ready in
    let member : IsMember c.self.inside.state =
    rw (← ap (λ (v : PartsOf). v.node.state) c.self.view_is) at c.requires.next.member in
    let whole = covers _ c.args.grant c.args.update sub c.args.ready.now c.self.inside.posts c.try_change.new.self
    c.self.invariant.posts member there c.requires.named c.requires.may tells put in
    let stale : c.stale_by-stale.result ≡ stale_by c.args.grant c.args.update (Some sub) =
    c.stale_by-stale.ensures ∙ ap (stale_by c.args.grant c.args.update) there in
    rw c.in_ok-post_ready.ensures.ok (rw stale whole)

pub invariant_of-self-2 : goal.invariant_of-self-2
invariant_of-self-2 c =
    let sub = c.requires.sub in
    let after = updated_sub c.args.update sub in
    let there : sub_in c.args.grant c.self.inside.subs ≡ Some sub =
    ap (λ (p : PartsOf). sub_in c.args.grant p.node.subs) c.self.view_is ∙ c.requires.there in
    let put : c.try_change.new.self ≡ put_sub after c.self.inside.subs =
    updated_put c.args.update c.args.grant sub c.self.inside.subs c.try_change.new.self there
    (c.in_default.ensures.ok ∙ ap (λ (n : Name). changed_in name_of_sub
    (updated_sub c.args.update) n c.self.inside.subs) c.name_of.ensures) in
    let here : c.post_ready.new.posts ≡ posted_all (ready_of c.args.grant c.args.ready.now) c.self.inside.posts =
    search rules in
    let posted = subst (λ (g : Grant). c.post_ready.new.posts
    ≡ posted_all (ready_of g c.args.ready.now) c.self.inside.posts) (sym c.requires.named) here in
    let kept : c.withdraw.new.posts ≡ filter
    (λ (p : Post). is_some (ready_of_sub p.frame (sub_in p.grant c.try_change.new.self))) c.post_ready.new.posts =
    search rules in
    let found : sub_in c.args.grant c.try_change.new.self ≡ Some after =
    ap (λ (subs : List SubOf). sub_in c.args.grant subs) put
    ∙ ap (λ (g : Grant). sub_in g (put_sub after c.self.inside.subs)) (sym c.requires.named)
    ∙ put_is_found name_of_sub after c.self.inside.subs in
    let order : AreInOrder name_of_frame after.content.frames = c.law_frames_stand_in_order-2.ensures after found in
    let before = c.requires.next.before in
    let held : sub_in c.args.grant c.self.inside.subs ≡ Some before =
    ap (λ (p : PartsOf). sub_in c.args.grant p.node.subs) c.self.view_is
    ∙ ap (λ (g : Grant). sub_in g c.args.self.now.node.subs) (sym c.requires.named) ∙ c.requires.next.there in
    let order_before : AreInOrder name_of_frame before.content.frames =
    c.law_frames_stand_in_order.ensures before held in
    let are : AreParts c.args.self.now = rw (← c.self.view_is) c.self.invariant in
    by_view _ _ (change_view _ c.args.self.now after c.args.ready.now c.try_change.new.self c.post_ready.new.posts
    c.withdraw.new.posts c.self.view_is c.requires.next.member put posted kept)
    (changed_parts c.args.self.now.node _ after c.args.ready.now c.args.self.now.posts are c.requires.next order
    order_before c.requires.next.member refl refl (λ h is. is) c.requires.records)

pub returns-clause-ok : goal.returns-clause-ok
returns-clause-ok c = λ s at.
    let sub = c.requires.sub in
    let same : sub ≡ s = let found = c.requires.there in cc in
    let after = updated_sub c.args.update sub in
    let there : sub_in c.args.grant c.self.inside.subs ≡ Some sub =
    ap (λ (p : PartsOf). sub_in c.args.grant p.node.subs) c.self.view_is ∙ c.requires.there in
    let put : c.try_change.new.self ≡ put_sub after c.self.inside.subs =
    updated_put c.args.update c.args.grant sub c.self.inside.subs c.try_change.new.self there
    (c.in_default.ensures.ok ∙ ap (λ (n : Name). changed_in name_of_sub
    (updated_sub c.args.update) n c.self.inside.subs) c.name_of.ensures) in
    let here : c.post_ready.new.posts ≡ posted_all (ready_of c.args.grant c.args.ready.now) c.self.inside.posts =
    search rules in
    let posted = subst (λ (g : Grant). c.post_ready.new.posts
    ≡ posted_all (ready_of g c.args.ready.now) c.self.inside.posts) (sym c.requires.named) here in
    let kept : c.withdraw.new.posts ≡ filter
    (λ (p : Post). is_some (ready_of_sub p.frame (sub_in p.grant c.try_change.new.self))) c.post_ready.new.posts =
    search rules in
    let whole = change_view _ c.args.self.now after c.args.ready.now c.try_change.new.self c.post_ready.new.posts
    c.withdraw.new.posts c.self.view_is c.requires.next.member put posted kept in
    let granted = whole ∙ ap (λ (g : Grant). with_posts
    (record c.args.self.now.node { subs = put_sub after c.args.self.now.node.subs })
    (ready_of g c.args.ready.now) c.args.self.now.posts) c.requires.named in
    granted ∙ ap (λ (t : SubOf). with_posts
    (record c.args.self.now.node { subs = put_sub (updated_sub c.args.update t) c.args.self.now.node.subs })
    (ready_of c.args.grant c.args.ready.now) c.args.self.now.posts) same
