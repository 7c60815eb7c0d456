use Rattle.std.proofs.Common.{◌≡◌, ◌∙◌, Some, None, slice_get, ap, sym, rules}
use Rattle.level_deques.specs.Posts.{by_depth}
use Rattle.subcomputation.specs.Subs.{sub_in}
use Rattle.node_state.specs.declared.parts.State.TheVariants.{Member}
use Rattle.node_state.specs.Parts.{PartsOf}
use Rattle.node_core.proofs.Viewing.{held_by, is_member, not_held, nothing_outside}
use Rattle.node_core.proofs.node.Node.ready_at.Goals as goal

pub returns-in_default : goal.returns-in_default
returns-in_default c =
    let same = ap (λ (v : PartsOf). v.node.state) c.parts.ensures in
    record {
      work = sym (nothing_outside c.args.self.now.node c.args.self.now.posts c.args.index
          (λ r is. c.in_default.not-Member r (c.state.ensures ∙ (same ∙ is))));
      memory = tt;
    }

pub returns-in_default-sub-clause-work : goal.returns-in_default-sub-clause-work
returns-in_default-sub-clause-work c =
    let stands : c.args.self.now.node.state ≡ Member c.in-Member.field-0 =
    sym (ap (λ (v : PartsOf). v.node.state) c.parts.ensures) ∙ (sym c.state.ensures ∙ c.in-Member.is) in
    let member = is_member c.args.self.now.node.state c.in-Member.field-0 stands in
    let post : slice_get (by_depth c.args.self.now.posts) c.args.index ≡ Some c.in-Some.post = search rules in
    let there : sub_in c.in-Some.post.grant c.args.self.now.node.subs ≡ None = search rules in
    sym (not_held c.args.self.now.node c.args.self.now.posts c.args.index c.in-Some.post member post there)

pub returns-clause-work : goal.returns-clause-work
returns-clause-work c =
    let stands : c.args.self.now.node.state ≡ Member c.in-Member.field-0 =
    sym (ap (λ (v : PartsOf). v.node.state) c.parts.ensures) ∙ (sym c.state.ensures ∙ c.in-Member.is) in
    let member = is_member c.args.self.now.node.state c.in-Member.field-0 stands in
    let post : slice_get (by_depth c.args.self.now.posts) c.args.index ≡ Some c.in-Some.post = search rules in
    let there : sub_in c.in-Some.post.grant c.args.self.now.node.subs ≡ Some c.in-Some-sub.sub.now = search rules in
    let work = held_by c.args.self.now.node c.args.self.now.posts c.args.index c.in-Some.post c.in-Some-sub.sub.now
    member post there in
    c.in_ok-work_in.ensures ∙ sym work
