use Rattle.std.proofs.Common.{ℕ, ◌≤◌, ◌<◌, ◌-◌, length, ap, ◌∙◌, arith}
use Rattle.level_deques.specs.declared.posts.Post.{Post}
use Rattle.level_deques.specs.Posts.{without_post}
use Rattle.node_state.proofs.Standing.{taken_back}
use Rattle.node_state.proofs.node.take_back.Goals as goal

within : (n count : ℕ) → count ≤ n → 0 < count → count - 1 < n
within n count bound some = omega arith

pub loop-count-preserved : goal.loop-count-preserved
loop-count-preserved c =
    let some = c.loop-count-test.true in
    let less = within (length c.args.ready.now) c.loop-count.count c.loop-count.invariant.0 some in (
      omega (arith, less),
      λ before by_level is. c.take.ensures
          ∙ ap (λ (p : Post). without_post p c.loop-count.posts) c.post_in.ensures
          ∙ ap (without_post _) (c.loop-count.invariant.1 before by_level is)
          ∙ taken_back c.args.grant c.args.ready.now c.loop-count.count
          (c.loop-count.count - 1) c.index-ready-count.result before
          (omega (arith, some)) less c.index-ready-count.is by_level,
    )
