use Rattle.std.proofs.Common.{◌≡◌, subst, sym}
use Rattle.checkpoint.specs.Format.{IsBoth, IsFormatted, IsMovedBody, fresh}
use Rattle.checkpoint.proofs.Begun.{blank, blank_is_formatted, built}
use Rattle.checkpoint.proofs.blank.blank.Goals as goal

pub returns : goal.returns
returns c =
    let moved = c.spell_moved-moved.result in
    let large = c.large_slots-large.result in
    let small : IsMovedBody moved 0 c.args.job 0 = rw c.none-epoch.ensures at c.spell_moved-moved.ensures in
    let both : IsBoth large (fresh c.args.job) = rw c.none-epoch.ensures at c.large_slots-large.ensures in
    let is : c.put_bytes-3.new.file ≡ blank moved large =
    built moved large c.put_bytes.new.file c.put_bytes-2.new.file c.put_bytes-3.new.file small.size both.size
    c.put_bytes.ensures c.put_bytes-2.ensures c.put_bytes-3.ensures in
    subst (λ l. IsFormatted l c.args.job) (sym is) (blank_is_formatted moved large c.args.job small both)
