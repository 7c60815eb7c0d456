-- Steps are kept from the root on, so one more stands behind them.
use Rattle.std.proofs.Common.{rules, ◌≡◌, ◌++◌, ◌∷◌, ◌<◌, ◌+◌, [], reverse, length, refl}
use Rattle.std.proofs.lemmas.List.{length-reverse, reverse-append}
use Rattle.ids.proofs.Places.{place_below}
use Rattle.ids.proofs.place.Place.child.Goals as goal

pub invariant_of-result : goal.invariant_of-result
invariant_of-result c =
    let pushed : c.push.new.self.items ≡ c.self.inside.steps.items ++ c.args.hole ∷ [] = search rules in
    let short : length c.self.inside.steps.items < 1024 = search rules in
    rw (pushed, reverse-append c.self.inside.steps.items (c.args.hole ∷ []))
    (place_below (reverse c.self.inside.steps.items) c.args.hole
    (c.self.inside.level + c.levels_down.result) c.self.invariant.0
    (rw (length-reverse c.self.inside.steps.items) short) c.requires
    (rw (c.levels_down.ensures, c.self.invariant.1) refl))
