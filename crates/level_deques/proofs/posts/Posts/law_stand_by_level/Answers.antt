use Rattle.std.proofs.Common.{sym}
use Rattle.level_deques.proofs.Rising.{by_level_all}
use Rattle.level_deques.proofs.posts.Posts.law_stand_by_level.Goals as goal

pub returns : goal.returns
returns c = rw (sym c.self.view_is) (by_level_all c.self.inside.levels.items c.self.invariant.0.stand.own
    c.self.invariant.0.stand.rising)
