use Rattle.clearinghouse.proofs.Listing.{heard_listing}
use Rattle.clearinghouse.proofs.book.Book.own_beat.Goals as goal

pub answer_beat-requires : goal.answer_beat-requires
answer_beat-requires c =
    let h = c.args.self.now in
    rw c.hear.ensures (heard_listing c.args.beat.from h.moment h.version h.workers c.requires.listing)
