use Rattle.std.proofs.Common.{sym, ◌∙◌}
use Rattle.level_deques.proofs.Reading.{first_item, shallowest_first}
use Rattle.level_deques.proofs.posts.Posts.shallowest.Goals as goal

pub returns : goal.returns
returns c =
    let first = first_item c.self.inside.levels.items c.deref.result.now c.first.result c.in_ok-first.field-0
    c.deref.ensures.value c.first.ensures.item c.in_ok-first.was in
    rw (sym c.self.view_is) (c.newest.ensures
    ∙ shallowest_first c.self.inside.levels.items c.in_ok-first.field-0.now c.self.invariant.0 first.0 first.1)
