use Rattle.std.proofs.Common.{arith, refl}
use Rattle.ids.specs.declared.member.Status.TheVariants.{Live}
use Rattle.clearinghouse.proofs.Listing.{listed_listing}
use Rattle.clearinghouse.proofs.book.Book.new_joined.Goals as goal

pub tell-requires : goal.tell-requires
tell-requires c =
    let h = c.args.self.now in
    rw c.in_ok-list.ensures (listed_listing
    (record {
      incarnation = c.args.join.from;
      status = Live;
      heard = h.moment;
    }) h.version h.workers refl c.requires.new (search arith) c.requires.house.listing)
