use Rattle.std.proofs.Common.{◌&&◌, IsTrue, sym, ◌∙◌}
use Rattle.std.specs.List.{list_all}
use Rattle.subcomputation.specs.Fitting.{frame_fits, record_fits, task_fits}
use Rattle.departure.proofs.LinkedAccepted.{accepted_fits, accepted_sound}
use Rattle.departure.proofs.LinkedOffers.{said}
use Rattle.departure.proofs.accepting.accept_offer.Goals as goal

pub sub_of-requires-clause-frames : goal.sub_of-requires-clause-frames
sub_of-requires-clause-frames c = (said c.args.offer c.requires).frames.order

pub sub_of-requires-clause-records : goal.sub_of-requires-clause-records
sub_of-requires-clause-records c = (said c.args.offer c.requires).records.order

pub sub_of-requires-clause-sound : goal.sub_of-requires-clause-sound
sub_of-requires-clause-sound c =
    accepted_sound c.args.own c.args.subs.now c.args.offer c.requires (sym c.in_ok-fits_node.ensures
    ∙ c.if-not-branch.false)

pub sub_of-requires-clause-begun : goal.sub_of-requires-clause-begun
sub_of-requires-clause-begun c = (said c.args.offer c.requires).begun

pub returns-clause-fits : goal.returns-clause-fits
returns-clause-fits c =
    let p = c.args.checked.now in
    let offer = c.args.offer in
    let pass : IsTrue (task_fits p offer.task && list_all (frame_fits p) offer.frames
    && list_all (record_fits p) offer.records) = sym c.fits_program.ensures ∙ c.if-not-fits_program.false in
    rw c.in_ok-sub_of.ensures (accepted_fits p offer pass)
