use Rattle.std.proofs.Common.{sym, ◌∙◌}
use Rattle.level_deques.proofs.Reading.{newest_back}
use Rattle.level_deques.proofs.level.Level.newest.Goals as goal

pub returns : goal.returns
returns c = rw (sym c.self.view_is) (c.copied.ensures
    ∙ newest_back c.self.inside.posts.items c.self.inside.posts.len c.back.result
    (sym c.self.inside.posts.ok.0) c.back.ensures.item)
