use Rattle.std.proofs.Common.{◌≡◌, ◌∷◌, ◌∙◌, Equal, ap, drop, is_some, suc, sym}
use Rattle.std.proofs.Math.Seq.{drop-cons}
use Rattle.saved_values.specs.Places.{place_cmp}
use Rattle.saved_values.specs.Saved.{known_by}
use Rattle.saved_values.proofs.Values.{known_here, known_skips}
use Rattle.saved_values.proofs.table.position.Goals as goal

pub returns-in-Equal-clause-saved : goal.returns-in-Equal-clause-saved
returns-in-Equal-clause-saved c =
    let values = c.args.values.now in
    let place = c.args.place.now in
    let item = c.index-values-index.result in
    let rest = drop (suc c.loop-index.index) values in
    let from : drop c.loop-index.index values ≡ item ∷ rest =
    drop-cons values c.loop-index.index item c.loop-index-test.true
    ∙ ap (λ x. x ∷ rest) (sym c.index-values-index.is) in
    let equal : place_cmp item.place place ≡ Equal = sym c.compare.ensures ∙ c.in-Equal.is in
    ap is_some (known_skips place values c.loop-index.index c.loop-index.invariant)
    ∙ (ap (λ l. is_some (known_by l place)) from ∙ known_here place item rest equal)
