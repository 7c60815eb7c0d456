use Rattle.std.proofs.Common.{◌≡◌, rules}
use Rattle.std.specs.List.{filter}
use Rattle.level_deques.specs.declared.posts.Post.{Post}
use Rattle.std.specs.Prelude.{is_some}
use Rattle.subcomputation.specs.Subs.{sub_in, without_sub}
use Rattle.node_state.specs.Parts.{AreParts}
use Rattle.node_state.specs.Posts.{ready_of_sub}
use Rattle.node_state.proofs.Keeping.{by_view, going_view, gone_parts}
use Rattle.node_state.proofs.node.Parts.remove.Goals as goal

pub invariant_of-self : goal.invariant_of-self
invariant_of-self c =
    let gone : c.take.new.self ≡ without_sub c.args.grant c.self.inside.subs = search rules in
    let kept : c.withdraw_stale.new.posts
    ≡ filter (λ (p : Post). is_some (ready_of_sub p.frame (sub_in p.grant c.take.new.self))) c.self.inside.posts =
    search rules in
    let are : AreParts c.args.self.now = rw (← c.self.view_is) c.self.invariant in
    by_view _ _ (going_view _ c.args.self.now c.args.grant c.take.new.self c.withdraw_stale.new.posts c.self.view_is
    c.requires are.posts gone kept) (gone_parts c.args.self.now.node c.args.grant c.args.self.now.posts are
    c.requires)

pub returns : goal.returns
returns c =
    let gone : c.take.new.self ≡ without_sub c.args.grant c.self.inside.subs = search rules in
    let kept : c.withdraw_stale.new.posts
    ≡ filter (λ (p : Post). is_some (ready_of_sub p.frame (sub_in p.grant c.take.new.self))) c.self.inside.posts =
    search rules in
    let are : AreParts c.args.self.now = rw (← c.self.view_is) c.self.invariant in
    going_view _ c.args.self.now c.args.grant c.take.new.self c.withdraw_stale.new.posts c.self.view_is c.requires
    are.posts gone kept
