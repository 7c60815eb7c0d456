use Rattle.std.proofs.Common.{◌≡◌, ap, sym, ◌∙◌, length, rules}
use Rattle.std.specs.List.{filter}
use Rattle.std.proofs.lemmas.Fn.{filter_same}
use Rattle.level_deques.proofs.Reading.{has_posts, levels_kept, same_posts}
use Rattle.level_deques.proofs.posts.Posts.retain.Goals as goal

left : (g : _) (c : goal.After-retain g)
    → c.retain.new.self.items ≡ filter has_posts c.retain-self-inside.new.levels.items
left g c = filter_same _ has_posts _
    (λ x b f h. search rules) c.retain-self-inside.new.levels.items c.retain.new.self.items c.retain.ensures.filtered

pub invariant_of-self : goal.invariant_of-self
invariant_of-self g c =
    rw (left g c) (
      levels_kept c.retain-self-inside.new.levels.items c.retain-self-inside.ensures.stand,
      c.self.invariant.1,
      c.retain-self-inside.ensures.count ∙ ap length (sym (same_posts c.retain-self-inside.new.levels.items)),
    )

pub returns : goal.returns
returns g c = rw (sym c.self.view_is)
    (rw (left g c) (same_posts c.retain-self-inside.new.levels.items ∙ c.retain-self-inside.ensures.posts))
