-- Whatever comes over the wire leads to moves, and a Piece to what agrees.
use Rattle.std.proofs.Common.{◌≡◌, ⊎_elim, List, Option, ap}
use Rattle.codec.specs.Pieces.{cut_all, piece_at}
use Rattle.codec.specs.Table.{PacketOf, packet}
use Rattle.codec.specs.declared.body.Body.TheVariants as body
use Rattle.codec.specs.declared.body.Piece.{Piece}
use Rattle.serial_meaning.specs.Job.{JobOf}
use Rattle.node_state.specs.Node.{NodeOf}
use Rattle.node_steps.specs.Cases.{Candidate, on_packet}
use Rattle.table_laws.specs.Meaning.{Meaning}
use Rattle.table_laws.specs.Runs.{Run}
use Rattle.table_laws.specs.Tables.{◌∈◌}
use Rattle.table_laws.specs.View.{View}
use Rattle.actor_laws.specs.node_moves.Shows.{NodeShown, PacketShown}
use Rattle.actor_laws.specs.node_moves.Steps.{AllShown, AnswerShown}
use Rattle.actor_laws.proofs.node_moves.Table.{packet_shown}
use Rattle.actor_laws.specs.actor_agreement.Values.{AllRight, AnswerIsRight, NodeIsRight}
use Rattle.actor_laws.specs.whole_offers.Kept.{NodeKept}
use Rattle.actor_laws.specs.whole_offers.Whole.{AreWhole, IsPieceOf, OneOffer}
use Rattle.actor_laws.proofs.whole_offers.Cutting.{arrives}
use Rattle.actor_laws.proofs.whole_offers.Gathering.{of_right, of_shown}
use Rattle.actor_laws.proofs.whole_offers.Right.{piece_right}
use Rattle.actor_laws.proofs.whole_offers.Shown.{piece_shown}

-- no packet that the tables show is a Piece
pub all_whole : (v : View) (wholes : List PacketOf) → AllShown v wholes → AreWhole wholes
all_whole v wholes all p b there says = let shown : PacketShown v p = all p there in absurd (rw says at shown)

pub comes_shown : (m : Meaning) (job : JobOf) (v : View) (n : NodeOf) (wholes : List PacketOf)
    (choice : Option Candidate) (p : PacketOf) → Run m v → NodeShown v n → AllShown v wholes → OneOffer wholes
    → NodeKept job.number wholes n → p ∈ cut_all wholes
    → AnswerShown m job.number v n (on_packet job choice p n)
comes_shown m job v n wholes choice p run shown all one kept there = ⊎_elim
    (λ whole. packet_shown m job v n run shown choice p (all p whole))
    (λ (k : IsPieceOf wholes p). of_piece (piece_at k.offer (packet.write k.whole) k.index)
    (ap (λ (q : PacketOf). q.body) k.is))
    (arrives wholes p there)
  where
    of_piece : (b : Piece) → p.body ≡ body.Piece b → AnswerShown m job.number v n (on_packet job choice p n)
    of_piece b says = piece_shown m job v n run shown b choice p says
        (λ own here. of_shown wholes one (all_whole v wholes all) job.number n kept.parts p b there own here says v all)

pub piece_agrees : (job : JobOf) (v : View) (n : NodeOf) (wholes : List PacketOf) (choice : Option Candidate)
    (p : PacketOf) (b : Piece) → AllShown v wholes → OneOffer wholes → NodeKept job.number wholes n → NodeIsRight job n
    → AllRight job wholes → p ∈ cut_all wholes → p.body ≡ body.Piece b
    → AnswerIsRight job (on_packet job choice p n)
piece_agrees job v n wholes choice p b all one kept right agrees there says =
    piece_right job n right b choice p says
    (λ own here. of_right wholes one (all_whole v wholes all) job.number n kept.parts p b there own here says job
    agrees)
