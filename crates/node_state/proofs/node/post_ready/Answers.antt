use Rattle.std.proofs.Common.{refl, ap, sym, ◌∙◌, arith}
use Rattle.level_deques.specs.declared.posts.Post.{Post}
use Rattle.level_deques.specs.Posts.{posted}
use Rattle.node_state.proofs.Standing.{posted_up_to}
use Rattle.node_state.proofs.node.post_ready.Goals as goal

pub loop-count-preserved : goal.loop-count-preserved
loop-count-preserved c =
    let less = c.loop-count-test.true in (
      omega (arith, less),
      refl,
      c.in_default.ensures.ok
          ∙ ap (λ (p : Post). posted p c.loop-count.posts) c.post_in.ensures
          ∙ ap (posted _) c.loop-count.invariant.2
          ∙ sym (posted_up_to c.args.grant c.args.ready.now c.loop-count.count c.index-ready-count.result
          c.args.posts.now less c.index-ready-count.is),
    )
