use Rattle.std.proofs.Common.{◌-◌, length, sym, ◌∙◌}
use Rattle.level_deques.proofs.Reading.{deepest_last, last_item}
use Rattle.level_deques.proofs.posts.Posts.deepest.Goals as goal

pub returns : goal.returns
returns c =
    let last = last_item c.self.inside.levels.items c.deref.result.now c.last.result c.in_ok-last.field-0
    c.deref.ensures.value c.last.ensures.item c.in_ok-last.was in
    rw (sym c.self.view_is) (c.newest.ensures
    ∙ deepest_last c.self.inside.levels.items c.in_ok-last.field-0.now
    (length c.self.inside.levels.items - 1) c.self.invariant.0 last.0 last.1)
