use Rattle.std.proofs.Common.{◌≡◌, ◌∙◌, List, None, Some, sym, ap, rules}
use Rattle.std.specs.List.{filter}
use Rattle.ids.specs.Names.{Grant}
use Rattle.ids.specs.Naming.{name_of_frame}
use Rattle.ids.specs.Ordered.{AreInOrder}
use Rattle.level_deques.specs.declared.posts.Post.{Post}
use Rattle.std.specs.Prelude.{is_some}
use Rattle.subcomputation.specs.Subs.{put_sub, ready_frames, sub_in}
use Rattle.steal_protocol.specs.Requests.{without_request}
use Rattle.node_state.specs.Node.{put_seen}
use Rattle.node_state.specs.Parts.{AreParts, IsMember, PartsOf, ready_of}
use Rattle.node_state.specs.Posts.{posted_all, ready_of_sub}
use Rattle.sub_rules.specs.declared.change.Readied.{Readied}
use Rattle.node_state.proofs.Coming.{come_stay}
use Rattle.node_state.proofs.Keeping.{by_view, no_sub_yet, take_view, taken_parts}
use Rattle.node_state.proofs.node.Parts.take.Goals as goal

pub withdraw_come-requires : goal.withdraw_come-requires
withdraw_come-requires c =
    let put : c.hold.new.subs ≡ put_sub c.args.sub c.self.inside.subs = search rules in
    let posted : c.post_ready.new.posts
    ≡ posted_all (ready_of c.grant-grant.result c.args.ready.now) c.self.inside.posts = search rules in
    let member : IsMember c.self.inside.state =
    rw (← ap (λ (v : PartsOf). v.node.state) c.self.view_is) at c.requires.member in
    let are : AreParts c.args.self.now = rw (← c.self.view_is) c.self.invariant in
    let absent : sub_in c.args.sub.grant c.self.inside.subs ≡ None =
    ap (λ (v : PartsOf). sub_in c.args.sub.grant v.node.subs) c.self.view_is
    ∙ no_sub_yet c.args.self.now.node c.args.sub.grant are.taken c.requires.never in
    λ all. rw posted (come_stay _ c.grant-grant.result
    (Some c.args.sub) c.args.ready.now c.self.inside.posts c.hold.new.subs c.self.invariant.posts member
    (ap (λ (g : Grant). sub_in g c.self.inside.subs) c.grant-grant.ensures
    ∙ absent) (sym c.grant-grant.ensures) put all)

pub invariant_of-self-2 : goal.invariant_of-self-2
invariant_of-self-2 c =
    let put : c.hold.new.subs ≡ put_sub c.args.sub c.self.inside.subs = search rules in
    let seen : c.hold.new.seen ≡ put_seen c.args.sub.grant c.args.sub.hop c.self.inside.seen = search rules in
    let asker : c.clear.new.self ≡ without_request c.args.self.now.node.asker =
    c.clear.ensures ∙ ap (λ (v : PartsOf). without_request v.node.asker) c.self.view_is in
    let posts : c.post_ready.new.posts ≡ posted_all
    (ready_of c.grant-grant.result c.args.ready.now) c.self.inside.posts = search rules in
    let posted : c.post_ready.new.posts ≡ posted_all (ready_frames c.args.sub) c.self.inside.posts =
    posts ∙ ap (λ g. posted_all (ready_of g c.args.ready.now) c.self.inside.posts) c.grant-grant.ensures
    ∙ ap (λ (told : List Readied). posted_all (ready_of c.args.sub.grant told) c.self.inside.posts) c.requires.ready
    in
    let kept : c.withdraw_come.new.posts
    ≡ filter (λ (p : Post). is_some (ready_of_sub p.frame (sub_in p.grant c.hold.new.subs)))
    c.post_ready.new.posts = search rules in
    let order : AreInOrder name_of_frame c.args.sub.content.frames = search rules in
    let are : AreParts c.args.self.now = rw (← c.self.view_is) c.self.invariant in
    by_view _ _ (take_view _ c.args.self.now c.args.sub c.clear.new.self
    (without_request c.args.self.now.node.asker) c.hold.new.subs c.hold.new.seen c.post_ready.new.posts
    c.withdraw_come.new.posts c.self.view_is c.requires.member asker put seen posted kept)
    (taken_parts c.args.self.now.node c.args.sub
    (without_request c.args.self.now.node.asker) c.args.self.now.posts are c.requires.member c.requires.never order
    c.requires.records)

pub returns-clause-ok : goal.returns-clause-ok
returns-clause-ok c =
    let put : c.hold.new.subs ≡ put_sub c.args.sub c.self.inside.subs = search rules in
    let seen : c.hold.new.seen ≡ put_seen c.args.sub.grant c.args.sub.hop c.self.inside.seen = search rules in
    let asker : c.clear.new.self ≡ without_request c.args.self.now.node.asker =
    c.clear.ensures ∙ ap (λ (v : PartsOf). without_request v.node.asker) c.self.view_is in
    let posts : c.post_ready.new.posts ≡ posted_all
    (ready_of c.grant-grant.result c.args.ready.now) c.self.inside.posts = search rules in
    let posted : c.post_ready.new.posts ≡ posted_all (ready_frames c.args.sub) c.self.inside.posts =
    posts ∙ ap (λ g. posted_all (ready_of g c.args.ready.now) c.self.inside.posts) c.grant-grant.ensures
    ∙ ap (λ (told : List Readied). posted_all (ready_of c.args.sub.grant told) c.self.inside.posts) c.requires.ready
    in
    let kept : c.withdraw_come.new.posts
    ≡ filter (λ (p : Post). is_some (ready_of_sub p.frame (sub_in p.grant c.hold.new.subs)))
    c.post_ready.new.posts = search rules in
    take_view _ c.args.self.now c.args.sub c.clear.new.self
    (without_request c.args.self.now.node.asker) c.hold.new.subs c.hold.new.seen c.post_ready.new.posts
    c.withdraw_come.new.posts c.self.view_is c.requires.member asker put seen posted kept
