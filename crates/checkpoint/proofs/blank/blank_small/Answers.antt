use Rattle.std.proofs.Common.{◌≡◌, subst, sym}
use Rattle.checkpoint.specs.Format.{IsFormattedSmall}
use Rattle.checkpoint.proofs.Begun.{blank_small, blank_small_is, built_small}
use Rattle.checkpoint.proofs.blank.blank_small.Goals as goal

pub returns : goal.returns
returns c =
    let begun = c.spell_begun-begun.result in
    let small = c.spell_begun-begun.ensures in
    let is : c.put_bytes-2.new.file ≡ blank_small begun =
    built_small begun c.put_bytes.new.file c.put_bytes-2.new.file small.size c.put_bytes.ensures
    c.put_bytes-2.ensures in
    subst (λ l. IsFormattedSmall l c.args.job) (sym is) (blank_small_is begun c.args.job small)
