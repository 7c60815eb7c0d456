-- What the pieces of an offer and of a leave write, for the fields that their formats depend on.
use Rattle.std.proofs.Common.{◌++◌, sym, ap, ◌∙◌}
use Rattle.codec.specs.declared.body.Body.{Body}
use Rattle.codec.specs.Table.{write_body}
use Rattle.codec.proofs.Written.{leave_written, offer_written, piece_written}
use Rattle.codec.proofs.fields.write_fields.Goals as goal

pub returns-in_ok-records-in-Offer : goal.returns-in_ok-records-in-Offer
returns-in_ok-records-in-Offer c =
    let b = c.in-Offer.field-0 in
    offer_written b c.args.out.now.items c.worker-in-Offer.new.out.items c.grant-in-Offer.new.out.items
    c.raised.new.out.items c.actor.new.out.items c.progress.new.out.items c.task-in-Offer.new.out.items
    c.next_frame.new.out.items c.frames.new.out.items c.records.new.out.items
    (rw c.in-Offer.is at c.in_ok-worker-in-Offer.ensures)
    (rw c.in-Offer.is at c.in_ok-grant-in-Offer.ensures)
    (rw c.in-Offer.is at c.in_ok-raised-in-Offer.ensures)
    (rw c.in-Offer.is at c.in_ok-actor-in-Offer.ensures)
    (rw c.in-Offer.is at c.in_ok-progress-in-Offer.ensures)
    (rw c.in-Offer.is at c.in_ok-task-in-Offer.ensures)
    (rw c.in-Offer.is at c.in_ok-next_frame-in-Offer.ensures)
    (rw c.in-Offer.is at (c.in_ok-frames-in-Offer.ensures b.progress b.next))
    (rw c.in-Offer.is at (c.in_ok-records-in-Offer.ensures b.progress b.next))
    ∙ ap (λ (x : Body). c.args.out.now.items ++ write_body x) (sym c.in-Offer.is)

pub returns-in_ok-other_worker-in-Leave : goal.returns-in_ok-other_worker-in-Leave
returns-in_ok-other_worker-in-Leave c =
    let b = c.in-Leave.field-0 in
    leave_written b c.args.out.now.items c.worker-in-Leave.new.out.items c.other_worker.new.out.items
    (rw c.in-Leave.is at c.in_ok-worker-in-Leave.ensures)
    (rw c.in-Leave.is at (c.in_ok-other_worker-in-Leave.ensures b.from))
    ∙ ap (λ (x : Body). c.args.out.now.items ++ write_body x) (sym c.in-Leave.is)

pub returns-in_ok-part-in-Piece : goal.returns-in_ok-part-in-Piece
returns-in_ok-part-in-Piece c =
    let b = c.in-Piece.field-0 in
    piece_written b c.args.out.now.items c.worker-in-Piece.new.out.items c.grant-in-Piece.new.out.items
    c.raised-in-Piece.new.out.items c.pieces.new.out.items c.piece_of.new.out.items c.part.new.out.items
    (rw c.in-Piece.is at c.in_ok-worker-in-Piece.ensures)
    (rw c.in-Piece.is at c.in_ok-grant-in-Piece.ensures)
    (rw c.in-Piece.is at c.in_ok-raised-in-Piece.ensures)
    (rw c.in-Piece.is at c.in_ok-pieces-in-Piece.ensures)
    (rw c.in-Piece.is at (c.in_ok-piece_of-in-Piece.ensures b.pieces))
    (rw c.in-Piece.is at (c.in_ok-part-in-Piece.ensures b.pieces b.number))
    ∙ ap (λ (x : Body). c.args.out.now.items ++ write_body x) (sym c.in-Piece.is)
