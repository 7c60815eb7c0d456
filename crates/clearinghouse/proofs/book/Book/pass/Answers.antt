use Rattle.std.proofs.Common.{◌≡◌, true, sym, ◌∙◌, subst}
use Rattle.std.specs.List.{list_any}
use Rattle.clearinghouse.specs.House.{HouseOf}
use Rattle.clearinghouse.specs.Laws.{IsListing}
use Rattle.clearinghouse.specs.Moves.{is_lost}
use Rattle.clearinghouse.proofs.Listing.{declared_dead_listing}
use Rattle.clearinghouse.proofs.book.Book.pass.Goals as goal

pub settle-requires : goal.settle-requires
settle-requires c =
    let h = c.self.inside in
    let lost : list_any (is_lost h.limit c.args.now) h.workers ≡ true =
    sym c.any_is_lost.ensures ∙ c.if-any_is_lost.true in
    let listing : IsListing h.version h.workers =
    subst (λ (v : HouseOf). IsListing v.version v.workers) (sym c.self.view_is) c.requires.listing in
    rw c.declare_dead.ensures (declared_dead_listing h.limit c.args.now h.version h.workers lost listing)
