use Rattle.clearinghouse.proofs.Listing.{heard_listing}
use Rattle.clearinghouse.proofs.book.Book.joined.Goals as goal

pub tell-requires : goal.tell-requires
tell-requires c =
    let h = c.args.self.now in
    rw c.hear.ensures (heard_listing c.args.join.from h.moment h.version h.workers c.requires.listing)
