use Rattle.std.proofs.Common.{ap, sym, rules}
use Rattle.std.proofs.lemmas.Fn.{filter_same}
use Rattle.level_deques.proofs.Reading.{level_with}
use Rattle.level_deques.proofs.level.Level.retain.Goals as goal

pub returns : goal.returns
returns g c = rw (sym c.self.view_is)
    (ap (level_with c.self.inside.level)
    (filter_same _ _ _ (λ x b f h. search rules) c.self.inside.posts.items c.retain.new.self.items
    c.retain.ensures.filtered))
