use Rattle.std.proofs.Common.{lit<}
use Rattle.subcomputation.proofs.Fitting.{begun_fits}
use Rattle.subcomputation.proofs.sub.Sub.granted.Goals as goal

pub invariant_of-result : goal.invariant_of-result
invariant_of-result c =
    rw (c.in_ok-granted.ensures, c.minter.ensures)
    (record { sound = c.granted_contents_are_sound.ensures c.args.grant.minter c.args.task; begun = lit< tt })

pub returns-clause-fits : goal.returns-clause-fits
returns-clause-fits c = λ p fits.
    rw (c.in_ok-granted.ensures, c.minter.ensures)
    (begun_fits p c.args.grant.minter c.args.task fits)
