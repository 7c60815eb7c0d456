use Rattle.clearinghouse.specs.House.{members_of}
use Rattle.clearinghouse.specs.Moves.{leaving_status}
use Rattle.clearinghouse.proofs.Listing.{leaver_gone, leaver_heir, said_listing}
use Rattle.clearinghouse.proofs.book.Book.leaves.Goals as goal

pub roster_alone-requires : goal.roster_alone-requires
roster_alone-requires c =
    let h = c.args.self.now in
    let i = c.args.leave.from in
    let heir = c.args.leave.heir in
    rw (c.say.ensures, c.leaving_status-status.ensures)
    (said_listing i (leaving_status i heir (members_of h)) (leaver_gone i (members_of h) heir) h.version h.workers
    (leaver_heir i (members_of h) heir) c.requires.live c.requires.house.listing)

pub settle-requires : goal.settle-requires
settle-requires c =
    let h = c.args.self.now in
    let i = c.args.leave.from in
    let heir = c.args.leave.heir in
    rw (c.say.ensures, c.leaving_status-status.ensures)
    (said_listing i (leaving_status i heir (members_of h)) (leaver_gone i (members_of h) heir) h.version h.workers
    (leaver_heir i (members_of h) heir) c.requires.live c.requires.house.listing)
