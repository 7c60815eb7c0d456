use Rattle.std.proofs.Common.{rules, ◌++◌, List, ℕ, take, get_or, pos, w64, FitsSigned, ap, ◌∙◌}
use Rattle.std.proofs.lemmas.Int.{to_z-of_z}
use Rattle.std.proofs.lemmas.List.{flat_map_more, take_more}
use Rattle.packet_fields.specs.Fields as field
use Rattle.packet_fields.proofs.write.each_number.Goals as goal

pub loop-number-preserved : goal.loop-number-preserved
loop-number-preserved c =
    let i = c.loop-number.number-index in
    let xs = c.args.numbers.now in
    let old = c.args.out.now.items in
    let item = get_or xs i (pos 0) in
    let fits : FitsSigned w64 item = search rules in
    let written = rw (to_z-of_z w64 item fits) at c.in_ok-signed.ensures in
    written ∙ ap (λ (before : List ℕ). before ++ field.signed.write item) c.loop-number.invariant
    ∙ rw (take_more xs i (pos 0) c.loop-number-test.true) (flat_map_more field.signed.write old (take i xs) item)
