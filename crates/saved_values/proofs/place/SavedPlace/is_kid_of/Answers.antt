use Rattle.std.proofs.Common.{◌≡◌, ◌∷◌, ◌∙◌, ap, sym, nat_eq, reverse}
use Rattle.std.proofs.lemmas.Bool.{eqb-true}
use Rattle.std.specs.Cmp.Lexicographic.{pointwise}
use Rattle.saved_values.proofs.Places.{decides, kid_parts, kid_same}
use Rattle.saved_values.proofs.place.SavedPlace.is_kid_of.Goals as goal

pub returns-then-last-hole : goal.returns-then-last-hole
returns-then-last-hole c =
    let is = sym c.steps.ensures.steps ∙ c.in-Some.ensures.cases.0 in
    let told : c.eq.result ≡ pointwise nat_eq c.in-Some.before.now (reverse c.args.place.now) =
    c.eq.ensures ∙ ap (pointwise nat_eq c.in-Some.before.now) c.steps-then-last-hole.ensures.steps in
    decides (c.args.hole ∷ c.args.place.now) c.args.self.now c.eq.result
    (λ same. kid_same c.args.self.now c.args.place.now c.in-Some.before.now c.in-Some.last.now c.args.hole is
    c.if-last-hole.true (sym told ∙ same))
    (λ same. told ∙ (kid_parts c.args.self.now c.args.place.now c.in-Some.before.now c.in-Some.last.now c.args.hole is
    same).1)

pub returns-else-last-hole : goal.returns-else-last-hole
returns-else-last-hole c =
    let is = sym c.steps.ensures.steps ∙ c.in-Some.ensures.cases.0 in
    decides (c.args.hole ∷ c.args.place.now) c.args.self.now (nat_eq c.in-Some.last.now c.args.hole)
    (λ same. absurd (c.if-last-hole.false (eqb-true c.in-Some.last.now c.args.hole same)))
    (λ same. absurd (c.if-last-hole.false
    (kid_parts c.args.self.now c.args.place.now c.in-Some.before.now c.in-Some.last.now c.args.hole is same).0))
