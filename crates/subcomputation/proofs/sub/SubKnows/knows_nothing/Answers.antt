use Rattle.std.proofs.Common.{◌≡◌, true, List, [], ◌∷◌, length, refl, subst, arith, rules}
use Rattle.std.proofs.lemmas.Bool.{eqb-true}
use Rattle.saved_values.specs.Saved.{known_by}
use Rattle.saved_values.specs.declared.value.SavedValue.{SavedValue}
use Rattle.sub_rules.specs.Resuming.{nothing_known}
use Rattle.subcomputation.specs.Subs.{has_none}
use Rattle.subcomputation.proofs.sub.SubKnows.knows_nothing.Goals as goal

nothing_came : (saved : List SavedValue) → has_none saved ≡ true → known_by saved ≡ nothing_known
nothing_came [] none = refl
nothing_came (x ∷ saved) none = (let some : length (x ∷ saved) ≡ 0 =
    eqb-true (length (x ∷ saved)) 0 none in absurd (omega (arith, some)))

pub returns-clause-nothing : goal.returns-clause-nothing
returns-clause-nothing c = λ none.
    let same : c.self.inside.saved ≡ c.args.self.now.saved = search rules in
    subst (λ saved. known_by saved ≡ nothing_known) same
    (nothing_came c.self.inside.saved (rw c.is_empty.ensures at none))
