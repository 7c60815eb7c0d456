use Rattle.std.proofs.Common.{◌≡◌, rules}
use Rattle.subcomputation.proofs.sub.Sub.redo.Goals as goal

pub returns-clause-fits : goal.returns-clause-fits
returns-clause-fits c = λ p fits.
    let same : c.in_ok-clone.field-0 ≡ c.args.self.now = search rules in
    c.redone.ensures.fits p (rw same fits)
