-- All parts of bytes, in their order, are the bytes; and so what is read of the parts of an offer
-- is the offer.
use Rattle.std.proofs.Common.{◌≡◌, ℕ, zero, suc, ◌+◌, ◌*◌, ◌≤◌, true, List, [], ◌∷◌, ◌++◌, length, drop, take, Ok, refl, sym, ap, subst, ◌∙◌, arith}
use Rattle.std.proofs.lemmas.List.{append-nil, drop-drop, length-append, nil_from_length, take-append-drop}
use Rattle.codec.specs.Pieces.{AreOf, PartOf, RiseFrom, joined, long_reading, part_at, parts_of}
use Rattle.codec.specs.Table.{PacketOf, is_packet, packet}
use Rattle.codec.proofs.TableLaws.{packet_fits, packet_lawful}

-- no more parts rise between two numbers than stand between them
room : (a b : ℕ) (y : PartOf) (ys : List PartOf) → RiseFrom a b (y ∷ ys) → a + length (y ∷ ys) ≤ b
room a b y [] r = omega (arith, r.0, r.1)
room a b y (z ∷ zs) r = omega (arith, r.0, room (suc y.number) b z zs r.2)

-- nothing is left behind the last byte
drop_past : (n : ℕ) (bytes : List ℕ) → length bytes ≤ n → drop n bytes ≡ []
drop_past n bytes few = nil_from_length (drop n bytes)
    (omega (arith, length-append (take n bytes) (drop n bytes), ap length (take-append-drop n bytes), long n bytes few))
  where
    long : (n : ℕ) (bytes : List ℕ) → length bytes ≤ n → length (take n bytes) ≡ length bytes
    long zero [] few = refl
    long zero (b ∷ bytes) few = absurd (omega (arith, few))
    long (suc n) [] few = refl
    long (suc n) (b ∷ bytes) few = ap suc (long n bytes (omega (arith, few)))

-- k parts from the i-th on, which reach to the end
from_on : (k i : ℕ) (bytes : List ℕ) (parts : List PartOf) → RiseFrom i (i + k) parts → length parts ≡ k
    → AreOf bytes parts → length bytes ≤ (i + k) * 65536 → joined parts ≡ drop (i * 65536) bytes
from_on zero i bytes [] rise all of reach = sym (drop_past (i * 65536) bytes (omega (arith, reach)))
from_on zero i bytes (y ∷ ys) rise all of reach = absurd (omega (arith, all))
from_on (suc k) i bytes [] rise all of reach = absurd (omega (arith, all))
from_on (suc k) i bytes (y ∷ ys) rise all of reach =
    let first : y.number ≡ i = omega (arith, rise.0, rest_fits y ys all rise) in
    let rest : joined ys ≡ drop (suc i * 65536) bytes =
    from_on k (suc i) bytes ys (later y ys first rise.2) (omega (arith, all)) of.1 (omega (arith, reach)) in
    let here : y.bytes ≡ take 65536 (drop (i * 65536) bytes) = of.0 ∙ ap (λ n. part_at n bytes) first in
    let step : drop 65536 (drop (i * 65536) bytes) ≡ drop (suc i * 65536) bytes =
    drop-drop 65536 (i * 65536) bytes ∙ ap (λ n. drop n bytes) (omega arith) in
    ap (λ front. front ++ joined ys) here ∙ ap (λ end. take 65536 (drop (i * 65536) bytes) ++ end) (rest ∙ sym step)
    ∙ take-append-drop 65536 (drop (i * 65536) bytes)
  where
    rest_fits : (y : PartOf) (ys : List PartOf) → length (y ∷ ys) ≡ suc k → RiseFrom i (i + suc k) (y ∷ ys)
        → y.number ≤ i
    rest_fits y ys all rise = omega (arith, all, room y.number (i + suc k) y ys (omega arith, rise.1, rise.2))

    later : (y : PartOf) (ys : List PartOf) → y.number ≡ i → RiseFrom (suc y.number) (i + suc k) ys
        → RiseFrom (suc i) (suc i + k) ys
    later y ys first rise = subst (λ b. RiseFrom (suc i) b ys) (omega arith)
        (subst (λ a. RiseFrom (suc a) (i + suc k) ys) first rise)

-- all parts of some bytes
pub all_joined : (bytes : List ℕ) (parts : List PartOf) → RiseFrom 0 (parts_of bytes) parts
    → length parts ≡ parts_of bytes → AreOf bytes parts → joined parts ≡ bytes
all_joined bytes parts rise all of =
    from_on (parts_of bytes) 0 bytes parts (subst (λ b. RiseFrom 0 b parts) (omega arith) rise) all of (omega arith)

-- what is read of all parts of a packet that can be made
pub read_joined : (p : PacketOf) (parts : List PartOf) → is_packet p ≡ true
    → RiseFrom 0 (parts_of (packet.write p)) parts → length parts ≡ parts_of (packet.write p)
    → AreOf (packet.write p) parts → long_reading (joined parts) ≡ Ok p
unfolding long_reading
read_joined p parts whole rise all of =
    let bytes : List ℕ = packet.write p in
    let same : joined parts ≡ bytes ++ [] = all_joined bytes parts rise all of ∙ sym (append-nil bytes) in
    let read : packet.read (joined parts) ≡ Ok (p, []) =
    ap packet.read same ∙ packet_lawful.only (bytes ++ []) [] p (packet_lawful.writes p [] (packet_fits p whole)) in
    rw read refl
