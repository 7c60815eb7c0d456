-- What goes over the wire comes of whole packets, and what is whole goes; and parts that came, when
-- all are there, are an offer that was sent.
use Rattle.std.proofs.Common.{◌≡◌, ℕ, zero, suc, ◌+◌, ◌<◌, ◌≤◌, Bool, true, false, cond, ltb, List, [], ◌∷◌, ◌++◌, length, map, Ordering, Less, Equal, Greater, ◌⊎◌, inl, inr, ⊎_elim, Ok, refl, sym, ap, subst, ◌∙◌, arith}
use Rattle.std.specs.Prelude.{◌&&◌, not}
use Rattle.std.specs.List.{AllByRecursion}
use Rattle.std.specs.List.Sorted.{IsStrictlySortedBy}
use Rattle.std.specs.Ordering.{nat_cmp, ordering_then}
use Rattle.std.proofs.lemmas.Bool.{and_parts, ltb-true}
use Rattle.ids.specs.Named.{Name, name_cmp}
use Rattle.ids.specs.Ordered.{AreInOrder}
use Rattle.packet_fields.specs.Fields.{part_bytes}
use Rattle.codec.specs.declared.body.Body.{Body}
use Rattle.codec.specs.declared.body.Body.TheVariants as body
use Rattle.codec.specs.declared.body.Offer.{Offer}
use Rattle.codec.specs.declared.body.Piece.{Piece}
use Rattle.codec.specs.Pieces.{AreOf, PartOf, RiseFrom, cut, cut_all, cut_body, is_large, joined, long_reading, name_of_part, packet_of_piece, part_at, parts_of, piece_at, pieces_from}
use Rattle.codec.specs.Table.{PacketOf, is_packet, is_short, packet}
use Rattle.codec.proofs.Joining.{read_joined}
use Rattle.node_state.specs.Assemblies.{AssemblyOf}
use Rattle.table_laws.specs.Tables.{◌∈◌}
use Rattle.table_laws.proofs.Lists.{early, either, later}
use Rattle.actor_laws.specs.whole_offers.Gathered.{CameIn}
use Rattle.actor_laws.specs.whole_offers.Whole.{AreWhole, IsPieceOf, OneOffer, Went, came_in}

-- ---- the pieces of one packet

among : (q : PacketOf) (o : Offer) (i n : ℕ) (p : PacketOf) → p ∈ pieces_from q o i n
    → (k : ℕ) × (k < i + n) × (p ≡ packet_of_piece q o k)
among q o i zero p m = absurd m
among q o i (suc n) p (inl e) = (i, omega arith, e)
among q o i (suc n) p (inr m) = let r = among q o (suc i) n p m in (r.0, omega (arith, r.1), r.2)

of_one : (q p : PacketOf) → p ∈ cut q → (p ≡ q) ⊎ IsPieceOf (q ∷ []) p
of_one q p m = by_body q.body refl m
  where
    by_large : (o : Offer) → q.body ≡ body.Offer o → (b : Bool) → is_large q ≡ b
        → p ∈ cond b (pieces_from q o 0 (parts_of (packet.write q))) (q ∷ []) → (p ≡ q) ⊎ IsPieceOf (q ∷ []) p
    by_large o is true large x = let r =
        among q o 0 (parts_of (packet.write q)) p x in inr
        (record {
          whole = q;
          offer = o;
          index = r.0;
          there = inl refl;
          says = is;
          large = large;
          below = omega (arith, r.1);
          is = r.2;
        })
    by_large o is false large (inl e) = inl e
    by_large o is false large (inr x) = absurd x

    by_body : (b : Body) → q.body ≡ b → p ∈ cut_body q b → (p ≡ q) ⊎ IsPieceOf (q ∷ []) p
    by_body (body.Offer o) is x = by_large o is (is_large q) refl x
    by_body other is (inl e) = inl e
    by_body other is (inr x) = absurd x

-- ---- lists of packets

-- what goes over the wire was whole, or is a piece of what was
pub arrives : (wholes : List PacketOf) (p : PacketOf) → p ∈ cut_all wholes → (p ∈ wholes) ⊎ IsPieceOf wholes p
arrives [] p m = absurd m
arrives (q ∷ qs) p m = ⊎_elim
    (λ first. ⊎_elim (λ e. inl (inl e))
    (λ (k : IsPieceOf (q ∷ []) p). inr
    (record {
      whole = k.whole;
      offer = k.offer;
      index = k.index;
      there = in_front k.there;
      says = k.says;
      large = k.large;
      below = k.below;
      is = k.is;
    })) (of_one q p first))
    (λ rest. ⊎_elim (λ e. inl (inr e)) (λ (k : IsPieceOf qs p). inr
    (record {
      whole = k.whole;
      offer = k.offer;
      index = k.index;
      there = inr k.there;
      says = k.says;
      large = k.large;
      below = k.below;
      is = k.is;
    })) (arrives qs p rest))
    (either (cut q) (cut_all qs) p m)
  where
    in_front : {x : PacketOf} → x ∈ (q ∷ []) → x ∈ (q ∷ qs)
    in_front (inl e) = inl e
    in_front (inr y) = absurd y

went_later : (net more : List PacketOf) (q : PacketOf) → Went net q → Went (net ++ more) q
went_later net more q w = record {
  sent = w.sent;
  there = early net more w.sent w.there;
  job = w.job;
  to = w.to;
  what = w.what;
}

went_earlier : (more net : List PacketOf) (q : PacketOf) → Went net q → Went (more ++ net) q
went_earlier more net q w = record {
  sent = w.sent;
  there = later more net w.sent w.there;
  job = w.job;
  to = w.to;
  what = w.what;
}

went_one : (q : PacketOf) → Went (cut q) q
went_one q = by_body q.body refl
  where
    itself : Went (q ∷ []) q
    itself = record { sent = q; there = inl refl; job = refl; to = refl; what = inl refl }

    by_count : (o : Offer) → q.body ≡ body.Offer o → part_bytes < length (packet.write q) → (n : ℕ)
        → parts_of (packet.write q) ≡ n → Went (pieces_from q o 0 n) q
    by_count o is long zero e = absurd (omega (arith, long, e))
    by_count o is long (suc n) e = record {
      sent = packet_of_piece q o 0;
      there = inl refl;
      job = refl;
      to = refl;
      what = inr (o, is, refl);
    }

    by_large : (o : Offer) → q.body ≡ body.Offer o → (b : Bool) → is_large q ≡ b
        → Went (cond b (pieces_from q o 0 (parts_of (packet.write q))) (q ∷ [])) q
    by_large o is true large = by_count o is
        (ltb-true part_bytes (length (packet.write q))
        (and_parts (not (is_short q.body) && is_packet q) (ltb part_bytes (length (packet.write q))) large).1)
        (parts_of (packet.write q)) refl
    by_large o is false large = itself

    by_body : (b : Body) → q.body ≡ b → Went (cut_body q b) q
    by_body (body.Offer o) is = by_large o is (is_large q) refl
    by_body other is = itself

-- of each whole packet it went, or its first piece
pub goes : (wholes : List PacketOf) (q : PacketOf) → q ∈ wholes → Went (cut_all wholes) q
goes [] q m = absurd m
goes (x ∷ xs) q (inl e) = subst (λ (y : PacketOf). Went (cut x ++ cut_all xs) y) (sym e)
    (went_later (cut x) (cut_all xs) x (went_one x))
goes (x ∷ xs) q (inr m) = went_earlier (cut x) (cut_all xs) q (goes xs q m)

-- what is no offer is not cut
pub plain_uncut : (ps : List PacketOf) → ((p : PacketOf) → p ∈ ps → is_short p.body ≡ true) → cut_all ps ≡ ps
plain_uncut [] plain = refl
plain_uncut (p ∷ ps) plain = ap (λ front. front ++ cut_all ps) (alone p (plain p (inl refl)))
    ∙ ap (λ rest. p ∷ rest) (plain_uncut ps (λ q m. plain q (inr m)))
  where
    alone : (q : PacketOf) → is_short q.body ≡ true → cut q ≡ q ∷ []
    alone q short = by_body q.body short
      where
        by_body : (b : Body) → is_short b ≡ true → cut_body q b ≡ q ∷ []
        by_body (body.Offer o) e = cc
        by_body other e = refl

-- ---- parts that came

-- parts that stand in order rise
less : (a b : ℕ) → name_cmp (a, 0) (b, 0) ≡ Less → a < b
less a b e = by_cmp (nat_cmp a b) refl e
  where
    by_cmp : (o : Ordering) → nat_cmp a b ≡ o → ordering_then o (nat_cmp 0 0) ≡ Less → a < b
    by_cmp Less is f = grind (arith, is)
    by_cmp Equal is f = cc
    by_cmp Greater is f = cc

of_name : (P : Name → Type 0) (ys : List PartOf) (z : PartOf) → AllByRecursion P (map name_of_part ys) → z ∈ ys
    → P (name_of_part z)
of_name P [] z all m = absurd m
of_name P (y ∷ ys) z all (inl e) = subst (λ (w : PartOf). P (name_of_part w)) (sym e) all.0
of_name P (y ∷ ys) z all (inr m) = of_name P ys z all.1 m

pub rises : (a n : ℕ) (parts : List PartOf) → AreInOrder name_of_part parts → ((y : PartOf) → y ∈ parts → a ≤ y.number)
    → ((y : PartOf) → y ∈ parts → y.number < n) → RiseFrom a n parts
unfolding IsStrictlySortedBy
rises a n [] order low high = tt
rises a n (y ∷ ys) order low high = (
  low y (inl refl),
  high y (inl refl),
  rises (suc y.number) n ys order.1 (λ z m. (let b =
      less y.number z.number (of_name (λ k. name_cmp (y.number, 0) k ≡ Less) ys z order.0 m) in omega (arith, b)))
      (λ z m. high z (inr m)),
)

each_of : (bytes : List ℕ) (parts : List PartOf) → ((y : PartOf) → y ∈ parts → y.bytes ≡ part_at y.number bytes)
    → AreOf bytes parts
each_of bytes [] all = tt
each_of bytes (y ∷ ys) all = (all y (inl refl), each_of bytes ys (λ z m. all z (inr m)))

-- what one part that came is of an offer that was sent
record IsPart (whole : PacketOf) (o : Offer) (x : AssemblyOf) (y : PartOf) : Type 0 where
  below : y.number < parts_of (packet.write whole)
  bytes : y.bytes ≡ part_at y.number (packet.write whole)
  from : x.from ≡ o.from
  pieces : x.pieces ≡ parts_of (packet.write whole)

module _ (wholes : List PacketOf) (one : OneOffer wholes) (all_whole : AreWhole wholes) (job to : ℕ) (x : AssemblyOf)
    (came : CameIn (cut_all wholes) job to x) (whole : PacketOf) (o : Offer) (there : whole ∈ wholes)
    (says : whole.body ≡ body.Offer o) (grant : o.grant ≡ x.grant) (hop : o.hop ≡ x.hop) where
  part_is : (y : PartOf) → y ∈ x.parts → IsPart whole o x y
  part_is y m = ⊎_elim
      (λ (w : came_in job to x y ∈ wholes). absurd (all_whole (came_in job to x y) _ w refl))
      (λ (k : IsPieceOf wholes (came_in job to x y)).
      let said : Piece = piece_at k.offer (packet.write k.whole) k.index in
      let same : body.Piece (record {
        from = x.from;
        grant = x.grant;
        hop = x.hop;
        pieces = x.pieces;
        number = y.number;
        bytes = y.bytes;
      }) ≡ body.Piece said = ap (λ (p : PacketOf). p.body) k.is in
      let b : record {
        from = x.from;
        grant = x.grant;
        hop = x.hop;
        pieces = x.pieces;
        number = y.number;
        bytes = y.bytes;
      } ≡ said = cc in
      let here : whole ≡ k.whole = one whole k.whole o k.offer there k.there says k.says (grant
      ∙ ap (λ (p : Piece). p.grant) b) (hop ∙ ap (λ (p : Piece). p.hop) b) in
      let offer_is : body.Offer o ≡ body.Offer k.offer = sym says ∙ ap (λ (p : PacketOf). p.body) here ∙ k.says in
      let offer_same : o ≡ k.offer = cc in
      let number : y.number ≡ k.index = ap (λ (p : Piece). p.number) b in
      let r : IsPart k.whole k.offer x y = record {
        below = rw number k.below;
        bytes = ap (λ (p : Piece). p.bytes) b ∙ ap (λ n. part_at n (packet.write k.whole)) (sym number);
        from = ap (λ (p : Piece). p.from) b;
        pieces = ap (λ (p : Piece). p.pieces) b;
      } in
      rw (here, offer_same) r)
      (arrives wholes (came_in job to x y) (came.each y m))

  -- when all are there, what is read of them is that offer
  pub all_read : is_large whole ≡ true → length x.parts ≡ x.pieces → 0 < length x.parts
      → long_reading (joined x.parts) ≡ Ok whole
  all_read large all some = by_first x.parts refl
    where
      n : ℕ
      n = parts_of (packet.write whole)

      packet_is : is_packet whole ≡ true
      packet_is = (and_parts (not (is_short whole.body)) (is_packet whole)
          (and_parts (not (is_short whole.body) && is_packet whole)
          (ltb part_bytes (length (packet.write whole))) large).0).1

      by_first : (parts : List PartOf) → x.parts ≡ parts → long_reading (joined x.parts) ≡ Ok whole
      by_first [] e = absurd (let none : length x.parts ≡ 0 = ap length e in omega (arith, none, some))
      by_first (y ∷ ys) e =
          let first = part_is y (rw e (inl refl)) in
          read_joined whole x.parts packet_is
          (rises 0 n x.parts came.order (λ z m. omega arith) (λ z m. (part_is z m).below)) (all
          ∙ first.pieces) (each_of (packet.write whole) x.parts (λ z m. (part_is z m).bytes))
