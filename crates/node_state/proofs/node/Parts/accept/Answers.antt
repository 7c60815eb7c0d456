use Rattle.std.proofs.Common.{◌≡◌, ◌∙◌, None, Some, ap, rules}
use Rattle.std.specs.List.{filter}
use Rattle.std.specs.Prelude.{is_some}
use Rattle.ids.specs.Naming.{name_of_frame}
use Rattle.ids.specs.Ordered.{AreInOrder}
use Rattle.level_deques.specs.declared.posts.Post.{Post}
use Rattle.subcomputation.specs.Subs.{SubOf, sub_in}
use Rattle.node_state.specs.Node.{put_seen}
use Rattle.node_state.specs.Parts.{AreParts, IsMember, PartsOf, put_some, ready_of}
use Rattle.node_state.specs.Posts.{posted_all, ready_of_sub}
use Rattle.node_state.proofs.Keeping.{by_view}
use Rattle.node_state.proofs.Accepts.{accepted_parts, accepted_view, comes_named}
use Rattle.node_state.proofs.Coming.{come_stay}
use Rattle.node_state.proofs.node.Parts.accept.Goals as goal

pub withdraw_come-requires : goal.withdraw_come-requires
withdraw_come-requires c =
    let put : c.note.new.subs ≡ put_some c.args.after c.self.inside.subs = search rules in
    let posted : c.post_ready.new.posts ≡ posted_all (ready_of c.args.grant c.args.ready.now) c.self.inside.posts =
    search rules in
    let member : IsMember c.self.inside.state =
    rw (← ap (λ (v : PartsOf). v.node.state) c.self.view_is) at c.requires.member in
    let absent : sub_in c.args.grant c.self.inside.subs ≡ None =
    ap (λ (v : PartsOf). sub_in c.args.grant v.node.subs) c.self.view_is ∙ c.requires.absent in
    let named = comes_named c.args.self.now.node c.args.grant c.args.ready.now c.args.after c.requires.comes in
    λ all. rw posted (come_stay _ c.args.grant c.args.after c.args.ready.now c.self.inside.posts c.note.new.subs
    c.self.invariant.posts member absent named put all)

pub invariant_of-self-2 : goal.invariant_of-self-2
invariant_of-self-2 c =
    let put : c.note.new.subs ≡ put_some c.args.after c.self.inside.subs = search rules in
    let seen : c.note.new.seen ≡ put_seen c.args.grant c.args.hop c.self.inside.seen = search rules in
    let posted : c.post_ready.new.posts ≡ posted_all (ready_of c.args.grant c.args.ready.now) c.self.inside.posts =
    search rules in
    let kept : c.withdraw_come.new.posts
    ≡ filter (λ (p : Post). is_some (ready_of_sub p.frame (sub_in p.grant c.note.new.subs)))
    c.post_ready.new.posts = search rules in
    let put_now : c.note.new.subs ≡ put_some c.args.after c.args.self.now.node.subs =
    put ∙ ap (λ (v : PartsOf). put_some c.args.after v.node.subs) c.self.view_is in
    let order : (s : SubOf) → sub_in c.args.grant (put_some c.args.after c.args.self.now.node.subs) ≡ Some s
    → AreInOrder name_of_frame s.content.frames =
    λ s there. c.law_frames_stand_in_order.ensures s (ap (sub_in c.args.grant) put_now ∙ there) in
    let are : AreParts c.args.self.now = rw (← c.self.view_is) c.self.invariant in
    by_view _ _ (accepted_view _ c.args.self.now c.args.grant c.args.hop c.args.ready.now c.args.after c.note.new.subs
    c.note.new.seen c.post_ready.new.posts c.withdraw_come.new.posts c.self.view_is c.requires.member put seen
    posted kept)
    (accepted_parts c.args.self.now.node c.args.grant c.args.hop c.args.ready.now c.args.self.now.posts are
    c.requires.member c.requires.absent c.args.after c.requires.comes order)

pub returns-clause-ok : goal.returns-clause-ok
returns-clause-ok c =
    let put : c.note.new.subs ≡ put_some c.args.after c.self.inside.subs = search rules in
    let seen : c.note.new.seen ≡ put_seen c.args.grant c.args.hop c.self.inside.seen = search rules in
    let posted : c.post_ready.new.posts ≡ posted_all (ready_of c.args.grant c.args.ready.now) c.self.inside.posts =
    search rules in
    let kept : c.withdraw_come.new.posts
    ≡ filter (λ (p : Post). is_some (ready_of_sub p.frame (sub_in p.grant c.note.new.subs)))
    c.post_ready.new.posts = search rules in
    accepted_view _ c.args.self.now c.args.grant c.args.hop c.args.ready.now c.args.after c.note.new.subs
    c.note.new.seen c.post_ready.new.posts c.withdraw_come.new.posts c.self.view_is c.requires.member put seen
    posted kept
