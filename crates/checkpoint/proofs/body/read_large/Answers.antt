use Rattle.std.proofs.Common.{◌≡◌, ◌∙◌, ℕ, ℤ, List, rules, subst, sym, w64, to_z, of_z}
use Rattle.std.proofs.lemmas.Int.{to_z-of_z}
use Rattle.std.proofs.lemmas.List.{take_rest}
use Rattle.checkpoint.specs.Format.{HasFields, SpellsEntries, tag_of}
use Rattle.checkpoint.proofs.body.read_large.Goals as goal

pub returns-in-Some-read_saved-clause-some : goal.returns-in-Some-read_saved-clause-some
returns-in-Some-read_saved-clause-some c =
    let bytes = c.args.body.now in
    let f = c.in-Some.fields in
    let o = c.in-Some-outcome_of.outcome in
    let found = c.in-Some-read_saved.ensures.some in
    let back : to_z w64 (of_z w64 f.value) ≡ f.value = to_z-of_z w64 f.value (search rules) in
    let tagged : HasFields bytes f.sequence 2101 f.job f.epoch (tag_of o) f.value =
    subst (λ (t : ℕ). HasFields bytes f.sequence 2101 f.job f.epoch t f.value)
    (sym c.in-Some-outcome_of.ensures.some.0) c.in-Some.ensures.some in
    record {
      fields = subst (λ (v : ℤ). HasFields bytes f.sequence 2101 f.job f.epoch (tag_of o) v)
          (sym (c.in-Some-outcome_of.ensures.some.1 ∙ back)) tagged;
      count_at = sym found.0;
      entries = subst (λ (l : List ℕ). SpellsEntries l c.in-Some-read_saved.saved) (take_rest bytes 63) found.1;
      listed = found.2;
    }

pub returns-in-None-clause-none : goal.returns-in-None-clause-none
returns-in-None-clause-none c n r is =
    c.in-None.ensures.none r.saved (sym is.count_at)
    (subst (λ (l : List ℕ). SpellsEntries l r.saved) (sym (take_rest c.args.body.now 63)) is.entries) is.listed
