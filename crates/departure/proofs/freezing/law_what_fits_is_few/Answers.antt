use Rattle.departure.proofs.Offering.{fitting_is_few}
use Rattle.departure.proofs.freezing.law_what_fits_is_few.Goals as goal

pub returns : goal.returns
returns c = λ held fits.
    fitting_is_few c.accepted_threads_are_few.ensures c.args.checked.now held
    (record { faultless = c.program.ensures.accepted; total = c.program.ensures.total }) fits
