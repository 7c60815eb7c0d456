-- Offers go whole or in pieces, and each piece of an offer that can be written can be written too.
use Rattle.std.proofs.Common.{◌≡◌, ℕ, suc, ◌+◌, ◌-◌, ◌*◌, ◌^◌, ◌<◌, ◌≤◌, Bool, true, false, cond, min, eqb, leb, ltb, List, [], ◌∷◌, ◌++◌, length, drop, take, slice_range, refl, sym, ap, subst, ◌∙◌, arith}
use Rattle.std.specs.Prelude.{◌&&◌}
use Rattle.std.proofs.lemmas.Bool.{and_from, and_parts, eq-eqb, eqb-false, le-leb, le-ltb, lt-ltb}
use Rattle.std.proofs.lemmas.List.{append-nil, append_assoc, length-drop, length-take, take_min}
use Rattle.packet_fields.specs.Fields as field
use Rattle.codec.specs.declared.body.Body.{Body}
use Rattle.codec.specs.declared.body.Body.TheVariants as body
use Rattle.codec.specs.declared.body.Offer.{Offer}
use Rattle.codec.specs.Pieces.{cut, cut_body, packet_of_piece, part_at, parts_of, pieces_from}
use Rattle.codec.specs.Table.{PacketOf, fits_body, is_packet, is_short, kind_of, offer, packet, piece, suits}
use Rattle.codec.proofs.Lengths.{packet_bytes}

-- a part that is there has as many bytes as it may have
pub part_allowed : (i : ℕ) (bytes : List ℕ) → i < parts_of bytes
    → field.allows_part (parts_of bytes) i (length (part_at i bytes)) ≡ true
part_allowed i bytes there = rw (length-take 65536 (drop (i * 65536) bytes), length-drop (i * 65536) bytes)
    (by_last (eqb (i + 1) (parts_of bytes)) refl)
  where
    count : ℕ
    count = min 65536 (length bytes - i * 65536)

    by_last : (b : Bool) → eqb (i + 1) (parts_of bytes) ≡ b
        → cond b (ltb 0 count && leb count 65536) (eqb count 65536) ≡ true
    by_last true last = and_from (ltb 0 count) (leb count 65536) (lt-ltb 0 count (omega (arith, there)))
        (le-leb count 65536 (omega arith))
    by_last false last = eq-eqb count 65536 (omega (arith, there, eqb-false (i + 1) (parts_of bytes) last))

-- the bytes of a part, where they stand
pub part_range : (i end : ℕ) (bytes : List ℕ) → end ≡ min (length bytes) (i * 65536 + 65536)
    → slice_range bytes (i * 65536) end ≡ part_at i bytes
part_range i end bytes e =
    let rest : List ℕ = drop (i * 65536) bytes in
    let count : end - i * 65536 ≡ min 65536 (length rest) = omega (arith, e, length-drop (i * 65536) bytes) in
    ap (λ n. take n rest) count ∙ take_min 65536 rest

-- a piece of an offer that can be written
pub piece_whole : (p : PacketOf) (o : Offer) (i : ℕ) → p.body ≡ body.Offer o → is_packet p ≡ true
    → 65536 < length (packet.write p) → length (packet.write p) ≤ 1073741824 → i < parts_of (packet.write p)
    → (field.part (parts_of (packet.write p)) i).fits (part_at i (packet.write p)) ≡ true
    → is_packet (packet_of_piece p o i) ≡ true
unfolding offer piece field.pieces
piece_whole p o i same whole many few there part =
    let pieces : ℕ = parts_of (packet.write p) in
    let at : ltb p.job (2 ^ 64) && (suits 8 p.to && offer.fits o) ≡ true =
    subst (λ (b : Body). ltb p.job (2 ^ 64) && (suits (kind_of b) p.to && fits_body b) ≡ true) same whole in
    let parts = and_parts (ltb p.job (2 ^ 64)) (suits 8 p.to && offer.fits o) at in
    let body = and_parts (suits 8 p.to) (offer.fits o) parts.1 in
    let from = and_parts (field.worker.fits o.from) _ body.1 in
    let grant = and_parts (field.grant.fits o.grant) _ from.1 in
    let hop = and_parts (field.raised.fits o.hop) _ grant.1 in
    let count : field.pieces.fits pieces ≡ true =
    and_from (ltb pieces (256 ^ 2)) (leb 2 pieces && leb pieces 16384)
    (lt-ltb pieces (256 ^ 2) (omega (arith, few)))
    (and_from (leb 2 pieces) (leb pieces 16384) (le-leb 2 pieces (omega (arith, many)))
    (le-leb pieces 16384 (omega (arith, few)))) in
    let number : (field.piece_of pieces).fits i ≡ true =
    and_from (ltb i (256 ^ 2)) (ltb i pieces) (lt-ltb i (256 ^ 2) (omega (arith, there, few)))
    (lt-ltb i pieces there) in
    rw (parts.0, body.0, from.0, grant.0, hop.0, count, number, part) refl

-- one of the pieces that are still to come is added
pub one_more : (p : PacketOf) (o : Offer) (i n : ℕ) (before after all : List PacketOf) → i < n
    → before ++ pieces_from p o i (n - i) ≡ all → after ≡ before ++ (packet_of_piece p o i ∷ [])
    → after ++ pieces_from p o (i + 1) (n - (i + 1)) ≡ all
one_more p o i n before after all less e step =
    let count : n - i ≡ suc (n - (i + 1)) = omega (arith, less) in
    let next : suc i ≡ i + 1 = omega arith in
    let front : before ++ (packet_of_piece p o i ∷ pieces_from p o (i + 1) (n - (i + 1)))
    ≡ before ++ pieces_from p o i (n - i) =
    ap (λ j. before ++ (packet_of_piece p o i ∷ pieces_from p o j (n - (i + 1)))) (sym next)
    ∙ ap (λ k. before ++ pieces_from p o i k) (sym count) in
    rw step (append_assoc before (packet_of_piece p o i ∷ []) (pieces_from p o (i + 1) (n - (i + 1))) ∙ front ∙ e)

-- none is still to come
pub no_more : (p : PacketOf) (o : Offer) (i n : ℕ) (before all : List PacketOf) → n ≤ i
    → before ++ pieces_from p o i (n - i) ≡ all → before ≡ all
no_more p o i n before all over e =
    let count : n - i ≡ 0 = omega (arith, over) in
    sym (append-nil before) ∙ ap (λ k. before ++ pieces_from p o i k) (sym count) ∙ e

-- an offer of more bytes than a part has goes in pieces
pub cut_large : (p : PacketOf) (o : Offer) → p.body ≡ body.Offer o → is_packet p ≡ true
    → 65536 < length (packet.write p) → cut p ≡ pieces_from p o 0 (parts_of (packet.write p))
cut_large p o same whole many =
    let long : is_short p.body ≡ false = ap is_short same in
    ap (cut_body p) same ∙ rw (long, whole, lt-ltb 65536 (length (packet.write p)) many) refl

-- of no more it goes whole
pub cut_small : (p : PacketOf) (o : Offer) → p.body ≡ body.Offer o → length (packet.write p) ≤ 65536 → cut p ≡ p ∷ []
cut_small p o same few = ap (cut_body p) same ∙ by_packet (is_packet p) refl
  where
    long : is_short p.body ≡ false
    long = ap is_short same

    by_packet : (b : Bool) → is_packet p ≡ b → cut_body p (body.Offer o) ≡ p ∷ []
    by_packet true e = rw (long, e, le-ltb 65536 (length (packet.write p)) few) refl
    by_packet false e = rw (long, e) refl

-- all else goes whole
pub cut_short : (p : PacketOf) → is_short p.body ≡ true → cut p ≡ p ∷ []
cut_short p short = by_body p.body refl short
  where
    by_body : (b : Body) → p.body ≡ b → is_short b ≡ true → cut p ≡ p ∷ []
    by_body (body.Join b) e s = rw e refl
    by_body (body.Roster b) e s = rw e refl
    by_body (body.Steal b) e s = rw e refl
    by_body (body.Grant b) e s = rw e refl
    by_body (body.Refuse b) e s = rw e refl
    by_body (body.Result b) e s = rw e refl
    by_body (body.ResultAck b) e s = rw e refl
    by_body (body.Offer b) e s = absurd cc
    by_body (body.OfferAck b) e s = rw e refl
    by_body (body.Leave b) e s = rw e refl
    by_body (body.Abort b) e s = rw e refl
    by_body (body.Beat b) e s = rw e refl
    by_body (body.Piece b) e s = rw e refl
    by_body (body.Save b) e s = rw e refl

-- and is short
pub short_few : (p : PacketOf) → is_packet p ≡ true → is_short p.body ≡ true → length (packet.write p) ≤ 1073741824
short_few p whole short = omega (arith, packet_bytes p whole short)

-- what fits a part of some bytes, by other names of these
pub part_fits_so : (pieces i : ℕ) (part bytes written : List ℕ) → pieces ≡ parts_of bytes → part ≡ part_at i bytes
    → bytes ≡ written → (field.part pieces i).fits part ≡ true
    → (field.part (parts_of written) i).fits (part_at i written) ≡ true
part_fits_so pieces i part bytes written count here same fits = rw (← same, ← count, ← here) fits

-- a piece that was made of these is the one that is meant
pub piece_made : (p : PacketOf) (o : Offer) (i job to pieces : ℕ) (part : List ℕ) → job ≡ p.job → to ≡ p.to
    → pieces ≡ parts_of (packet.write p) → part ≡ part_at i (packet.write p)
    → record {
      job = job;
      to = to;
      body =
          body.Piece (record { from = o.from; grant = o.grant; hop = o.hop; pieces = pieces; number = i; bytes = part });
    }
    ≡ packet_of_piece p o i
piece_made p o i job to pieces part e1 e2 e3 e4 = rw (e1, e2, e3, e4) refl

-- what is no offer is short
pub other_short : (b : Body) → ((o : Offer) → b ≡ body.Offer o → ⊥) → is_short b ≡ true
other_short (body.Join b) other = refl
other_short (body.Roster b) other = refl
other_short (body.Steal b) other = refl
other_short (body.Grant b) other = refl
other_short (body.Refuse b) other = refl
other_short (body.Result b) other = refl
other_short (body.ResultAck b) other = refl
other_short (body.Offer b) other = absurd (other b refl)
other_short (body.OfferAck b) other = refl
other_short (body.Leave b) other = refl
other_short (body.Abort b) other = refl
other_short (body.Beat b) other = refl
other_short (body.Piece b) other = refl
other_short (body.Save b) other = refl
