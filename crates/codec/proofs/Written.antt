-- What is written piece by piece is what formats write.
use Rattle.std.proofs.Common.{◌≡◌, ℕ, List, ◌++◌, append_assoc}
use Rattle.packet_fields.specs.Format.{number}
use Rattle.packet_fields.specs.Fields as field
use Rattle.codec.specs.declared.body.Leave.{Leave}
use Rattle.codec.specs.declared.body.Offer.{Offer}
use Rattle.codec.specs.declared.body.Piece.{Piece}
use Rattle.codec.specs.Table.{PacketOf, fields, kind_of, leave, offer, packet, piece, version_of, write_body}

two : (a b old o p : List ℕ) → o ≡ old ++ a → p ≡ o ++ b → p ≡ old ++ (a ++ b)
two a b old o p x y = rw (y, x) (simp append_assoc)

six : (a b c d e f old o p q r s t : List ℕ) → o ≡ old ++ a → p ≡ o ++ b → q ≡ p ++ c → r ≡ q ++ d → s ≡ r ++ e
    → t ≡ s ++ f → t ≡ old ++ (a ++ (b ++ (c ++ (d ++ (e ++ f)))))
six a b c d e f old o p q r s t u v w x y z = rw (z, y, x, w, v, u) (simp append_assoc)

nine : (a b c d e f g h i old o p q r s t u v w : List ℕ) → o ≡ old ++ a → p ≡ o ++ b → q ≡ p ++ c → r ≡ q ++ d
    → s ≡ r ++ e → t ≡ s ++ f → u ≡ t ++ g → v ≡ u ++ h → w ≡ v ++ i
    → w ≡ old ++ (a ++ (b ++ (c ++ (d ++ (e ++ (f ++ (g ++ (h ++ i))))))))
nine a b c d e f g h i old o p q r s t u v w e1 e2 e3 e4 e5 e6 e7 e8 e9 =
    rw (e9, e8, e7, e6, e5, e4, e3, e2, e1) (simp append_assoc)

-- the pieces of a part of an offer
pub piece_written : (b : Piece) (old o p q r s t : List ℕ) → o ≡ old ++ field.worker.write b.from
    → p ≡ o ++ field.grant.write b.grant → q ≡ p ++ field.raised.write b.hop → r ≡ q ++ field.pieces.write b.pieces
    → s ≡ r ++ (field.piece_of b.pieces).write b.number → t ≡ s ++ (field.part b.pieces b.number).write b.bytes
    → t ≡ old ++ piece.write b
unfolding piece
piece_written b old o p q r s t u v w x y z =
    six (field.worker.write b.from) (field.grant.write b.grant) (field.raised.write b.hop) (field.pieces.write b.pieces)
    ((field.piece_of b.pieces).write b.number)
    ((field.part b.pieces b.number).write b.bytes) old o p q r s t u v w x y z

pub leave_written : (b : Leave) (old o p : List ℕ) → o ≡ old ++ field.worker.write b.from
    → p ≡ o ++ (field.other_worker b.from).write b.heir → p ≡ old ++ leave.write b
unfolding leave
leave_written b old o p x y = two (field.worker.write b.from) ((field.other_worker b.from).write b.heir) old o p x y

pub offer_written : (b : Offer) (old o p q r s t u v w : List ℕ) → o ≡ old ++ field.worker.write b.from
    → p ≡ o ++ field.grant.write b.grant → q ≡ p ++ field.raised.write b.hop → r ≡ q ++ field.actor.write b.parent
    → s ≡ r ++ field.progress.write b.progress → t ≡ s ++ field.task.write b.task → u ≡ t ++ field.raised.write b.next
    → v ≡ u ++ (field.frames b.progress b.next).write b.frames
    → w ≡ v ++ (field.records b.progress b.next).write b.records
    → w ≡ old ++ offer.write b
unfolding offer
offer_written b old o p q r s t u v w e1 e2 e3 e4 e5 e6 e7 e8 e9 =
    nine (field.worker.write b.from) (field.grant.write b.grant) (field.raised.write b.hop) (field.actor.write b.parent)
    (field.progress.write b.progress) (field.task.write b.task) (field.raised.write b.next)
    ((field.frames b.progress b.next).write b.frames)
    ((field.records b.progress b.next).write b.records) old o p q r s t u v w e1 e2 e3 e4 e5 e6 e7 e8 e9

-- the pieces of a packet
pub packet_written : (m : PacketOf) (old o p q r s t : List ℕ) → o ≡ old ++ (number 2).write 0x434E
    → p ≡ o ++ (number 1).write (version_of (kind_of m.body)) → q ≡ p ++ (number 1).write (kind_of m.body)
    → r ≡ q ++ (number 8).write m.job
    → s ≡ r ++ (number 8).write m.to → t ≡ s ++ write_body m.body → t ≡ old ++ packet.write m
unfolding packet fields
packet_written m old o p q r s t u v w x y z =
    six ((number 2).write 0x434E) ((number 1).write (version_of (kind_of m.body))) ((number 1).write (kind_of m.body))
    ((number 8).write m.job) ((number 8).write m.to) (write_body m.body) old o p q r s t u v w x y z
