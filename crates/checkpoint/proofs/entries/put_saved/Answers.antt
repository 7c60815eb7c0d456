use Rattle.std.proofs.Common.{◌≡◌, ◌∷◌, ◌∙◌, ap, arith, drop, suc, sym}
use Rattle.std.proofs.Math.Seq.{drop-cons}
use Rattle.checkpoint.proofs.Listing.{one_written}
use Rattle.checkpoint.proofs.entries.put_saved.Goals as goal

pub loop-index-preserved : goal.loop-index-preserved
loop-index-preserved c =
    let values = c.args.values.now in
    let item = c.index-values-index.result in
    let rest = drop (suc c.loop-index.index) values in
    let here : drop c.loop-index.index values ≡ item ∷ rest =
    drop-cons values c.loop-index.index item c.loop-index-test.true
    ∙ ap (λ x. x ∷ rest) (sym c.index-values-index.is) in
    one_written c.loop-index.body c.args.body.now c.spell_entry-entry.result c.copy_from_slice.new.self values rest item
    c.loop-index.index _ (omega arith) c.loop-index-test.true c.requires.few here c.loop-index.invariant
    c.copy_from_slice.ensures.after c.spell_entry-entry.ensures.size c.spell_entry-entry.ensures.spells
