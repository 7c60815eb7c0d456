use Rattle.std.proofs.Common.{◌≡◌, ◌∙◌, ◌++◌, ℕ, ℤ, List, ap, drop, length, length-set, replicate, slice_set, subst, sym, take, rules, w64, to_z, of_z}
use Rattle.std.proofs.lemmas.Int.{to_z-of_z}
use Rattle.std.proofs.lemmas.List.{drop-replicate, drop_at, take_at}
use Rattle.saved_values.specs.Saved.{IsSavedList}
use Rattle.saved_values.specs.declared.value.SavedValue.{SavedValue}
use Rattle.checkpoint.specs.Format.{HasFields, IsBody, tag_of, value_of}
use Rattle.checkpoint.specs.declared.record.CheckpointRecord.{CheckpointRecord}
use Rattle.checkpoint.proofs.Bodies.{spelled}
use Rattle.checkpoint.proofs.body.spell.Goals as goal

pub put_saved-requires-clause-zeros : goal.put_saved-requires-clause-zeros
put_saved-requires-clause-zeros c =
    let part : List ℕ = c.copy_from_slice.new.self in
    let long : length part ≡ 63 = ap (λ (l : List ℕ). length l) c.copy_from_slice.ensures.after
    ∙ length-set c.spell_fields-fields.result 35 (length c.as_slice-values.result.now)
    ∙ c.spell_fields-fields.ensures.size in
    drop_at part (drop 63 (replicate 2111 0)) 63 long ∙ drop-replicate 63 2111 0

pub returns : goal.returns
returns c =
    let fields : List ℕ = c.spell_fields-fields.result in
    let part : List ℕ = c.copy_from_slice.new.self in
    let values : List SavedValue = c.as_slice-values.result.now in
    let before : List ℕ = part ++ drop 63 (replicate 2111 0) in
    let long : length part ≡ 63 = ap (λ (l : List ℕ). length l) c.copy_from_slice.ensures.after
    ∙ length-set fields 35 (length values) ∙ c.spell_fields-fields.ensures.size in
    let kept : CheckpointRecord = record {
      job = c.args.job;
      epoch = c.args.epoch;
      outcome = c.args.outcome.now;
      saved = values;
    } in
    let tagged : HasFields fields c.args.sequence 2101 c.args.job c.args.epoch (tag_of c.args.outcome.now)
    (to_z w64 (of_z w64 c.value.result)) =
    subst (λ (t : ℕ). HasFields fields c.args.sequence 2101 c.args.job c.args.epoch t
    (to_z w64 (of_z w64 c.value.result))) c.tag.ensures c.spell_fields-fields.ensures.fields in
    let back : to_z w64 (of_z w64 c.value.result) ≡ c.value.result = to_z-of_z w64 c.value.result (search rules) in
    let is : HasFields fields c.args.sequence 2101 c.args.job c.args.epoch (tag_of c.args.outcome.now)
    (value_of c.args.outcome.now) = subst
    (λ (v : ℤ). HasFields fields c.args.sequence 2101 c.args.job c.args.epoch (tag_of c.args.outcome.now) v) (back
    ∙ c.value.ensures) tagged in
    let counted : take 63 before ≡ slice_set fields 35 (length values) =
    take_at part (drop 63 (replicate 2111 0)) 63 long ∙ c.copy_from_slice.ensures.after in
    let list : IsSavedList values = subst IsSavedList
    (sym c.as_slice-values.ensures.same) c.as_slice-values.ensures.list in
    let all : IsBody c.put_saved.new.body c.args.sequence kept =
    spelled fields before c.put_saved.new.body c.args.sequence kept c.spell_fields-fields.ensures.size is
    c.spell_fields-fields.ensures.zeros counted list c.put_saved.ensures.size c.put_saved.ensures.fields
    c.put_saved.ensures.entries c.put_saved.ensures.unused in
    subst (λ (l : List SavedValue). IsBody c.put_saved.new.body c.args.sequence
    (record { job = c.args.job; epoch = c.args.epoch; outcome = c.args.outcome.now; saved = l }))
    c.as_slice-values.ensures.same all
