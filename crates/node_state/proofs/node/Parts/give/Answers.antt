use Rattle.std.proofs.Common.{◌≡◌, ◌∙◌, ◌+◌, List, Some, [], refl, sym, ap, rules}
use Rattle.std.specs.List.{filter}
use Rattle.std.specs.Prelude.{is_some}
use Rattle.ids.specs.Names.{Grant}
use Rattle.ids.specs.Naming.{name_of_frame}
use Rattle.ids.specs.Ordered.{AreInOrder}
use Rattle.ids.proofs.Replacing.{put_is_found}
use Rattle.level_deques.specs.declared.posts.Post.{Post}
use Rattle.sub_rules.specs.Readiness.{TellsReady}
use Rattle.sub_rules.specs.Updates.{opened_in}
use Rattle.subcomputation.specs.Subs.{SubOf, name_of_sub, put_sub, sub_in}
use Rattle.subcomputation.specs.Told.{opened_sub}
use Rattle.steal_protocol.specs.Replies.{put_reply}
use Rattle.node_state.specs.Parts.{AreParts, IsMember, PartsOf, with_posts}
use Rattle.node_state.specs.Posts.{ready_of_sub}
use Rattle.node_state.specs.Stale.{stale_in}
use Rattle.node_state.proofs.Keeping.{by_view, changed_parts, give_view, more_minted, opened_put}
use Rattle.node_state.proofs.Standing.{covers_opened}
use Rattle.node_state.proofs.node.Parts.give.Goals as goal

pub withdraw-requires : goal.withdraw-requires
withdraw-requires c =
    let sub = c.requires.sub in
    let there : sub_in c.args.grant c.self.inside.subs ≡ Some sub =
    ap (λ (p : PartsOf). sub_in c.args.grant p.node.subs) c.self.view_is ∙ c.requires.there in
    let put : c.open_and_answer.new.subs ≡ put_sub (opened_sub c.args.opened sub) c.self.inside.subs =
    opened_put c.args.opened c.args.grant sub c.self.inside.subs c.open_and_answer.new.subs there
    c.in_ok-open_and_answer.ensures.subs in
    let held : sub_in c.args.grant c.args.self.now.node.subs ≡ Some c.requires.next.before =
    ap (λ (g : Grant). sub_in g c.args.self.now.node.subs) (sym c.requires.named) ∙ c.requires.next.there in
    let same : c.requires.next.before ≡ sub = let found = c.requires.there in cc in
    let tells : TellsReady sub.content (opened_in c.args.opened sub.content) [] = rw same at c.requires.next.ready in
    let member : IsMember c.self.inside.state =
    rw (← ap (λ (v : PartsOf). v.node.state) c.self.view_is) at c.requires.next.member in
    let whole = covers_opened _ c.args.grant c.args.opened sub c.self.inside.posts c.open_and_answer.new.subs
    c.self.invariant.posts member there c.requires.named tells put in
    let stale : c.stale_in-stale.result ≡ stale_in c.args.grant c.args.opened.frame (Some sub) =
    c.stale_in-stale.ensures ∙ ap (stale_in c.args.grant c.args.opened.frame) there in
    rw stale whole

pub invariant_of-self-2 : goal.invariant_of-self-2
invariant_of-self-2 c =
    let sub = c.requires.sub in
    let after = opened_sub c.args.opened sub in
    let there : sub_in c.args.grant c.self.inside.subs ≡ Some sub =
    ap (λ (p : PartsOf). sub_in c.args.grant p.node.subs) c.self.view_is ∙ c.requires.there in
    let put : c.open_and_answer.new.subs ≡ put_sub after c.self.inside.subs =
    opened_put c.args.opened c.args.grant sub c.self.inside.subs c.open_and_answer.new.subs there
    c.in_ok-open_and_answer.ensures.subs in
    let replies : c.open_and_answer.new.replies ≡ put_reply c.args.reply c.args.self.now.node.replies =
    c.in_ok-open_and_answer.ensures.replies
    ∙ ap (λ (v : PartsOf). put_reply c.args.reply v.node.replies) c.self.view_is in
    let kept : c.withdraw.new.posts ≡ filter
    (λ (p : Post). is_some (ready_of_sub p.frame (sub_in p.grant c.open_and_answer.new.subs))) c.self.inside.posts =
    search rules in
    let found : sub_in c.args.grant c.open_and_answer.new.subs ≡ Some after =
    ap (λ (subs : List SubOf). sub_in c.args.grant subs) put
    ∙ ap (λ (g : Grant). sub_in g (put_sub after c.self.inside.subs)) (sym c.requires.named)
    ∙ put_is_found name_of_sub after c.self.inside.subs in
    let order : AreInOrder name_of_frame after.content.frames = c.law_frames_stand_in_order-2.ensures after found in
    let before = c.requires.next.before in
    let held : sub_in c.args.grant c.self.inside.subs ≡ Some before =
    ap (λ (p : PartsOf). sub_in c.args.grant p.node.subs) c.self.view_is
    ∙ ap (λ (g : Grant). sub_in g c.args.self.now.node.subs) (sym c.requires.named) ∙ c.requires.next.there in
    let order_before : AreInOrder name_of_frame before.content.frames =
    c.law_frames_stand_in_order.ensures before held in
    let are : AreParts c.args.self.now = rw (← c.self.view_is) c.self.invariant in
    by_view _ _ (give_view _ c.args.self.now after (c.self.inside.minted + 1) c.open_and_answer.new.replies
    (put_reply c.args.reply c.args.self.now.node.replies) c.open_and_answer.new.subs c.withdraw.new.posts
    c.self.view_is c.requires.next.member refl replies put kept)
    (changed_parts c.args.self.now.node _ after [] c.args.self.now.posts are c.requires.next order order_before
    c.requires.next.member refl refl (λ h is. more_minted c.args.self.now.node h is.0 is.1) c.requires.records)

pub returns-clause-ok : goal.returns-clause-ok
returns-clause-ok c = λ s at.
    let sub = c.requires.sub in
    let same : sub ≡ s = let found = c.requires.there in cc in
    let after = opened_sub c.args.opened sub in
    let there : sub_in c.args.grant c.self.inside.subs ≡ Some sub =
    ap (λ (p : PartsOf). sub_in c.args.grant p.node.subs) c.self.view_is ∙ c.requires.there in
    let put : c.open_and_answer.new.subs ≡ put_sub after c.self.inside.subs =
    opened_put c.args.opened c.args.grant sub c.self.inside.subs c.open_and_answer.new.subs there
    c.in_ok-open_and_answer.ensures.subs in
    let replies : c.open_and_answer.new.replies ≡ put_reply c.args.reply c.args.self.now.node.replies =
    c.in_ok-open_and_answer.ensures.replies
    ∙ ap (λ (v : PartsOf). put_reply c.args.reply v.node.replies) c.self.view_is in
    let kept : c.withdraw.new.posts ≡ filter
    (λ (p : Post). is_some (ready_of_sub p.frame (sub_in p.grant c.open_and_answer.new.subs))) c.self.inside.posts =
    search rules in
    let whole = give_view _ c.args.self.now after (c.self.inside.minted + 1) c.open_and_answer.new.replies
    (put_reply c.args.reply c.args.self.now.node.replies) c.open_and_answer.new.subs c.withdraw.new.posts
    c.self.view_is c.requires.next.member refl replies put kept in
    whole ∙ ap (λ (t : SubOf). with_posts
    (record c.args.self.now.node {
      minted = c.args.self.now.node.minted + 1;
      subs = put_sub (opened_sub c.args.opened t) c.args.self.now.node.subs;
      replies = put_reply c.args.reply c.args.self.now.node.replies;
    }) [] c.args.self.now.posts) same
