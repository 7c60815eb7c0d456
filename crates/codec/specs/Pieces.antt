-- What it is to cut an offer into pieces, each with a part of the offer's spelling, and to join
-- parts again.
use Rattle.std.specs.Prelude.{◌≡◌, ◌<◌, ◌≤◌, ℕ, zero, suc, ◌+◌, ◌*◌, ◌/◌, ◌&&◌, Bool, not, nat_eq, nat_lt, if◌then◌else◌, List, [], ◌∷◌, length, drop, take, Result, Ok, Err}
use Rattle.std.specs.List.{flat_map}
use Rattle.ids.specs.Named.{Name}
use Rattle.packet_fields.specs.declared.fault.Fault.{Fault}
use Rattle.packet_fields.specs.declared.fault.Fault.TheVariants as fault
use Rattle.packet_fields.specs.Format.{◌>>=◌}
use Rattle.packet_fields.specs.Fields.{part_bytes}
use Rattle.codec.specs.declared.body.Body.{Body}
use Rattle.codec.specs.declared.body.Body.TheVariants as body
use Rattle.codec.specs.declared.body.Offer.{Offer}
use Rattle.codec.specs.declared.body.Piece.{Piece}
use Rattle.codec.specs.Table.{PacketOf, is_packet, is_short, packet}

-- part i of bytes, counted from 0
abbrev pub part_at : ℕ → List ℕ → List ℕ
part_at i bytes = take part_bytes (drop (i * part_bytes) bytes)

-- into how many parts bytes are cut
abbrev pub parts_of : List ℕ → ℕ
parts_of bytes = (length bytes + 65535) / 65536

-- whether a packet is an offer that can be written, in more bytes than a part has
abbrev pub is_large : PacketOf → Bool
is_large p = not (is_short p.body) && is_packet p && nat_lt part_bytes (length (packet.write p))

-- piece i of an offer that is spelled by these bytes
abbrev pub piece_at : Offer → List ℕ → ℕ → Piece
piece_at o bytes i = record { from = o.from; grant = o.grant; hop = o.hop; pieces = parts_of bytes; number = i; bytes = part_at i bytes }

-- piece i of the offer that a packet has, in a packet of the same job to the same one
abbrev pub packet_of_piece : PacketOf → Offer → ℕ → PacketOf
packet_of_piece p o i = record { job = p.job; to = p.to; body = body.Piece (piece_at o (packet.write p) i) }

-- so many of these, from the i-th on
abbrev pub pieces_from : PacketOf → Offer → ℕ → ℕ → List PacketOf
pieces_from p o i zero = []
pieces_from p o i (suc n) = packet_of_piece p o i ∷ pieces_from p o (suc i) n

-- a packet as it goes: a large offer in its pieces, in their order, all else as it is
abbrev pub cut_body : PacketOf → Body → List PacketOf
cut_body p (body.Offer o) = if is_large p then pieces_from p o 0 (parts_of (packet.write p)) else p ∷ []
cut_body p other = p ∷ []

-- the same of a packet alone
abbrev pub cut : PacketOf → List PacketOf
cut p = cut_body p p.body

-- packets as they go
abbrev pub cut_all : List PacketOf → List PacketOf
cut_all ps = flat_map cut ps

-- reading all of the bytes, however many: the packet, or the first fault
unfoldable pub long_reading : List ℕ → Result PacketOf Fault
long_reading bytes = packet.read bytes >>= λ x. if nat_eq (length x.1) 0 then Ok x.0 else Err fault.Trailing

-- a part that has come: which it is, and its bytes
pub record PartOf : Type 0 where
  pub number : ℕ
  pub bytes : List ℕ

-- a part's name is its number
abbrev pub name_of_part : PartOf → Name
name_of_part y = (y.number, 0)

-- all of their bytes, in their order
abbrev pub joined : List PartOf → List ℕ
joined parts = flat_map (λ y. y.bytes) parts

-- parts by rising number, from one number on and below another
abbrev pub RiseFrom : ℕ → ℕ → List PartOf → Type 0
RiseFrom a b [] = Unit {0}
RiseFrom a b (y ∷ ys) = (a ≤ y.number) × (y.number < b) × RiseFrom (suc y.number) b ys

-- each is that part of these bytes
abbrev pub AreOf : List ℕ → List PartOf → Type 0
AreOf bytes [] = Unit {0}
AreOf bytes (y ∷ ys) = (y.bytes ≡ part_at y.number bytes) × AreOf bytes ys
