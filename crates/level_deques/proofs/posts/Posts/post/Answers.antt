use Rattle.std.proofs.Common.{rules}
use Rattle.level_deques.specs.Levels.{all_posts}
use Rattle.level_deques.proofs.Reading.{one_more}
use Rattle.level_deques.proofs.posts.Posts.post.Goals as goal

pub invariant_of-self-2 : goal.invariant_of-self-2
invariant_of-self-2 c = (
  c.in_ok-put.ensures.levels,
  c.put.ensures.spare,
  one_more c.args.post (all_posts c.self.inside.levels.items)
      (all_posts c.put.new.levels.items) c.self.inside.count c.in-Some.count c.self.invariant.2
      (search rules) c.in_ok-put.ensures.ok,
)
