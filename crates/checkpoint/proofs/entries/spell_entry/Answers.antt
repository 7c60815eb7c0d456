use Rattle.std.proofs.Common.{◌≡◌, ◌∙◌, ◌∷◌, ◌++◌, ◌-◌, ◌+◌, List, ℕ, arith, length, replicate, reverse, rules, ap, refl}
use Rattle.std.specs.Int.{w64, cast_signed, cast_unsigned}
use Rattle.std.proofs.lemmas.List.{length-reverse}
use Rattle.std.proofs.lemmas.Int.{to_z-of_z}
use Rattle.byteorder.specs.Endian.{big_bytes}
use Rattle.checkpoint.proofs.Listing.{built_size, built_spells, entry_built}
use Rattle.checkpoint.proofs.entries.spell_entry.Goals as goal

pub returns-clause-size : goal.returns-clause-size
returns-clause-size c =
    let steps = c.steps-steps.result.now in
    let bytes : List ℕ = big_bytes 8 c.cast_unsigned.result in
    let is : c.put_u64.new.bytes ≡ length steps ∷ (steps ++ (replicate (23 - length steps) 0 ++ bytes)) =
    entry_built (length steps) (length steps + 1 - 1) steps c.copy_from_slice.new.self bytes c.put_u64.new.bytes
    (omega arith) c.copy_from_slice.ensures.after refl c.steps-steps.ensures.few refl c.put_u64.ensures in
    built_size (length steps) steps bytes c.put_u64.new.bytes refl c.steps-steps.ensures.few refl is

pub returns-clause-spells : goal.returns-clause-spells
returns-clause-spells c =
    let steps = c.steps-steps.result.now in
    let place = c.args.saved.now.place in
    let value = c.args.saved.now.value in
    let bits = c.cast_unsigned.result in
    let bytes : List ℕ = big_bytes 8 bits in
    let is : c.put_u64.new.bytes ≡ length steps ∷ (steps ++ (replicate (23 - length steps) 0 ++ bytes)) =
    entry_built (length steps) (length steps + 1 - 1) steps c.copy_from_slice.new.self bytes c.put_u64.new.bytes
    (omega arith) c.copy_from_slice.ensures.after refl c.steps-steps.ensures.few refl c.put_u64.ensures in
    let long : length steps ≡ length place =
    ap (λ (l : List ℕ). length l) c.steps-steps.ensures.steps ∙ length-reverse place in
    let as_place : c.put_u64.new.bytes ≡ length place ∷ (reverse place ++ (replicate (23 - length place) 0 ++ bytes)) =
    is ∙ ap (λ n. n ∷ (steps ++ (replicate (23 - n) 0 ++ bytes))) long
    ∙ ap (λ (l : List ℕ). length place ∷ (l ++ (replicate (23 - length place) 0 ++ bytes)))
    c.steps-steps.ensures.steps in
    let back : cast_signed w64 (cast_unsigned w64 value) ≡ value = to_z-of_z w64 value (search rules) in
    built_spells place value bits c.put_u64.new.bytes c.steps-steps.ensures.kid (let few =
    c.steps-steps.ensures.few in omega (arith, few, long)) (omega arith)
    (ap (cast_signed w64) c.cast_unsigned.ensures ∙ ap (λ z. cast_signed w64 (cast_unsigned w64 z)) back
    ∙ back) as_place
