-- The parts that a node keeps came in pieces that were sent, with each that comes; and all of one
-- Offer are read as it.
use Rattle.std.proofs.Common.{◌≡◌, ℕ, Bool, true, false, cond, not, nat_eq, nat_lt, ◌&&◌, ◌⊎◌, inl, inr, ⊎_elim, List, [], ◌∷◌, length, is_some, Option, None, Some, refl, sym, ap, subst, ◌∙◌, arith}
use Rattle.std.proofs.lemmas.Bool.{and_parts, eqb-true}
use Rattle.ids.specs.Names.{Grant}
use Rattle.ids.specs.Naming.{name_of_grant}
use Rattle.codec.specs.Pieces.{PartOf, cut_all, joined, long_reading, name_of_part, parts_of, piece_at}
use Rattle.codec.specs.Table.{PacketOf, packet}
use Rattle.codec.specs.declared.body.Body.TheVariants as body
use Rattle.codec.specs.declared.body.Piece.{Piece}
use Rattle.serial_meaning.specs.Job.{JobOf}
use Rattle.node_state.specs.Assemblies.{AssemblyOf, assembly_in, begun, name_of_assembly, part_in, part_of, put_part, with_part}
use Rattle.node_state.specs.Node.{NodeOf}
use Rattle.node_steps.specs.Cases.{Kept, Old, Whole, belongs, by_all, collects}
use Rattle.table_laws.specs.Tables.{◌∈◌}
use Rattle.table_laws.specs.View.{View}
use Rattle.table_laws.proofs.Among.{found_among, put_among}
use Rattle.content_laws.proofs.Apart.{grant_named}
use Rattle.content_laws.proofs.Orders.{none_order, first_order, put_order}
use Rattle.sub_rules.proofs.Sums.{found_name}
use Rattle.actor_laws.specs.node_moves.Steps.{AllShown}
use Rattle.actor_laws.specs.actor_agreement.Values.{AllRight}
use Rattle.actor_laws.specs.whole_offers.Gathered.{AllCameIn, CameIn, IsOfOne, IsOfRight, IsOfShown}
use Rattle.actor_laws.specs.whole_offers.Whole.{AreWhole, IsPieceOf, OneOffer, came_in}
use Rattle.actor_laws.proofs.whole_offers.Cutting.{all_read, arrives}

-- ---- what a Piece does to what is kept

-- what is kept of the Offer of a Piece, without the part that it brings
record Belongs (b : Piece) (a : AssemblyOf) : Type 0 where
  hop : b.hop ≡ a.hop
  from : b.from ≡ a.from
  pieces : b.pieces ≡ a.pieces

belongs_is : (b : Piece) (a : AssemblyOf) → belongs b a ≡ true → Belongs b a
belongs_is b a is =
    let one = and_parts (nat_eq b.hop a.hop && nat_eq b.from a.from && nat_eq b.pieces a.pieces)
    (not (is_some (part_in b.number a.parts))) is in
    let two = and_parts (nat_eq b.hop a.hop && nat_eq b.from a.from) (nat_eq b.pieces a.pieces) one.0 in
    let three = and_parts (nat_eq b.hop a.hop) (nat_eq b.from a.from) two.0 in
    record {
      hop = eqb-true b.hop a.hop three.0;
      from = eqb-true b.from a.from three.1;
      pieces = eqb-true b.pieces a.pieces two.1;
    }

-- with it all parts are there
record AllThere (b : Piece) (o : Option AssemblyOf) (bytes : List ℕ) : Type 0 where
  assembly : AssemblyOf
  there : o ≡ Some assembly
  belongs_to : Belongs b assembly
  bytes_are : bytes ≡ joined (put_part (part_of b) assembly.parts)
  count : length (put_part (part_of b) assembly.parts) ≡ assembly.pieces

all_there : (b : Piece) (o : Option AssemblyOf) (bytes : List ℕ) → collects b o ≡ Whole bytes → AllThere b o bytes
unfolding collects
all_there b None bytes e = cc
all_there b (Some a) bytes e = by_hop (nat_lt a.hop b.hop) e
  where
    parts : List PartOf
    parts = put_part (part_of b) a.parts

    by_count : Belongs b a → (x : Bool) → nat_eq (length parts) a.pieces ≡ x
        → cond x (Whole (joined parts)) (Kept (record a { parts = parts })) ≡ Whole bytes → AllThere b (Some a) bytes
    by_count to false n f = cc
    by_count to true n f = let same : joined parts ≡ bytes =
        cc in record {
          assembly = a;
          there = refl;
          belongs_to = to;
          bytes_are = sym same;
          count = eqb-true (length parts) a.pieces n;
        }

    by_belongs : (x : Bool) → belongs b a ≡ x → cond x (by_all (record a { parts = parts })) Old ≡ Whole bytes
        → AllThere b (Some a) bytes
    by_belongs false is f = cc
    by_belongs true is f = by_count (belongs_is b a is) (nat_eq (length parts) a.pieces) refl f

    by_hop : (x : Bool) → cond x (Kept (begun b)) (cond (belongs b a) (by_all (record a { parts = parts })) Old)
        ≡ Whole bytes → AllThere b (Some a) bytes
    by_hop true f = cc
    by_hop false f = by_belongs (belongs b a) refl f

-- its part is one more
record OneMore (b : Piece) (o : Option AssemblyOf) (x : AssemblyOf) : Type 0 where
  assembly : AssemblyOf
  there : o ≡ Some assembly
  belongs_to : Belongs b assembly
  is : x ≡ with_part (part_of b) assembly

-- its part is the first one, or one more
kept_is : (b : Piece) (o : Option AssemblyOf) (x : AssemblyOf) → collects b o ≡ Kept x → (x ≡ begun b) ⊎ OneMore b o x
unfolding collects
kept_is b None x e = let same : begun b ≡ x = cc in inl (sym same)
kept_is b (Some a) x e = by_hop (nat_lt a.hop b.hop) e
  where
    parts : List PartOf
    parts = put_part (part_of b) a.parts

    by_count : Belongs b a → (y : Bool) → cond y (Whole (joined parts)) (Kept (record a { parts = parts })) ≡ Kept x
        → (x ≡ begun b) ⊎ OneMore b (Some a) x
    by_count to true f = cc
    by_count to false f = let same : record a { parts = parts } ≡ x =
        cc in inr (record { assembly = a; there = refl; belongs_to = to; is = sym same })

    by_belongs : (y : Bool) → belongs b a ≡ y → cond y (by_all (record a { parts = parts })) Old ≡ Kept x
        → (x ≡ begun b) ⊎ OneMore b (Some a) x
    by_belongs false is f = cc
    by_belongs true is f = by_count (belongs_is b a is) (nat_eq (length parts) a.pieces) f

    by_hop : (y : Bool) → cond y (Kept (begun b)) (cond (belongs b a) (by_all (record a { parts = parts })) Old)
        ≡ Kept x → (x ≡ begun b) ⊎ OneMore b (Some a) x
    by_hop true f = let same : begun b ≡ x = cc in inl (sym same)
    by_hop false f = by_belongs (belongs b a) refl f

-- ---- parts that came in pieces that were sent

its_grant : (g : Grant) (x : AssemblyOf) (xs : List AssemblyOf) → assembly_in g xs ≡ Some x → g ≡ x.grant
its_grant g x xs there = grant_named g x.grant (found_name name_of_assembly (name_of_grant g) x xs there)

module _ (net : List PacketOf) (job : ℕ) (n : NodeOf) (p : PacketOf) (b : Piece) (there : p ∈ net) (own : p.job ≡ job)
    (here : p.to ≡ n.incarnation) (says : p.body ≡ body.Piece b) where
  -- the packet itself is the piece in which its part came
  is_itself : (x : AssemblyOf) (y : PartOf) → b.from ≡ x.from → b.grant ≡ x.grant → b.hop ≡ x.hop → b.pieces ≡ x.pieces
      → y ≡ part_of b → p ≡ came_in job n.incarnation x y
  is_itself x y from grant hop pieces part =
      let said : b ≡ record {
        from = x.from;
        grant = x.grant;
        hop = x.hop;
        pieces = x.pieces;
        number = y.number;
        bytes = y.bytes;
      } = rw (← from, ← grant, ← hop, ← pieces, part) refl in
      ap (λ j. record { job = j; to = p.to; body = p.body }) own
      ∙ ap (λ t. record { job = job; to = t; body = p.body }) here
      ∙ ap (λ q. record { job = job; to = n.incarnation; body = q }) (says ∙ ap body.Piece said)

  came : (x : AssemblyOf) (y : PartOf) → b.from ≡ x.from → b.grant ≡ x.grant → b.hop ≡ x.hop → b.pieces ≡ x.pieces
      → y ≡ part_of b → came_in job n.incarnation x y ∈ net
  came x y from grant hop pieces part = subst (λ q. q ∈ net) (is_itself x y from grant hop pieces part) there

  begun_came : CameIn net job n.incarnation (begun b)
  begun_came = record {
    each = λ y m. came (begun b) y refl refl refl refl (alone y m);
    order = first_order name_of_part (part_of b) [] tt (none_order name_of_part);
  }
    where
      alone : (y : PartOf) → y ∈ (part_of b ∷ []) → y ≡ part_of b
      alone y (inl e) = e
      alone y (inr m) = absurd m

  more_came : (a : AssemblyOf) → b.grant ≡ a.grant → Belongs b a → CameIn net job n.incarnation a
      → CameIn net job n.incarnation (with_part (part_of b) a)
  more_came a grant to before = record {
    each = λ y m. ⊎_elim
        (λ new. came (with_part (part_of b) a) y to.from grant to.hop to.pieces new)
        (λ old. before.each y old)
        (put_among name_of_part (part_of b) y a.parts m);
    order = put_order name_of_part (part_of b) a.parts before.order;
  }

  -- what is kept with it
  pub new_came : AllCameIn net job n → (x : AssemblyOf) → collects b (assembly_in b.grant n.assemblies) ≡ Kept x
      → CameIn net job n.incarnation x
  new_came all x e = ⊎_elim
      (λ same. subst (λ z. CameIn net job n.incarnation z) (sym same) begun_came)
      (λ (k : OneMore b (assembly_in b.grant n.assemblies) x). subst (λ z. CameIn net job n.incarnation z) (sym k.is)
      (more_came k.assembly (its_grant b.grant k.assembly n.assemblies k.there) k.belongs_to
      (all k.assembly (found_among _ k.assembly n.assemblies k.there))))
      (kept_is b (assembly_in b.grant n.assemblies) x e)

-- ---- a Piece that was sent is one of an Offer that was sent
module _ (wholes : List PacketOf) (one : OneOffer wholes) (all_whole : AreWhole wholes) (job : ℕ) (n : NodeOf)
    (all : AllCameIn (cut_all wholes) job n) (p : PacketOf) (b : Piece) (there : p ∈ cut_all wholes) (own : p.job ≡ job)
    (here : p.to ≡ n.incarnation) (says : p.body ≡ body.Piece b) where
  of_whole : IsPieceOf wholes p → IsOfOne wholes n b
  of_whole k =
      let said : body.Piece b ≡ body.Piece (piece_at k.offer (packet.write k.whole) k.index) =
      sym says ∙ ap (λ (q : PacketOf). q.body) k.is in
      let b_is : b ≡ piece_at k.offer (packet.write k.whole) k.index = cc in
      let grant : b.grant ≡ k.offer.grant = ap (λ (c : Piece). c.grant) b_is in
      let hop : b.hop ≡ k.offer.hop = ap (λ (c : Piece). c.hop) b_is in
      let pieces : b.pieces ≡ parts_of (packet.write k.whole) = ap (λ (c : Piece). c.pieces) b_is in
      record {
        whole = k.whole;
        offer = k.offer;
        there = k.there;
        of = record {
          says = k.says;
          to = sym (ap (λ (q : PacketOf). q.to) k.is) ∙ here;
          from = ap (λ (c : Piece). c.from) b_is;
          grant = grant;
          hop = hop;
          read = λ bytes e. (
              let t = all_there b (assembly_in b.grant n.assemblies) bytes e in
              let a : AssemblyOf = t.assembly in
              let its : b.grant ≡ a.grant = its_grant b.grant a n.assemblies t.there in
              let came : CameIn (cut_all wholes) job n.incarnation (with_part (part_of b) a) =
              more_came (cut_all wholes) job n p b there own here says a its t.belongs_to
              (all a (found_among _ a n.assemblies t.there)) in
              ap long_reading t.bytes_are ∙ all_read wholes one all_whole job n.incarnation
              (with_part (part_of b) a) came k.whole k.offer k.there k.says (sym grant ∙ its) (sym hop
              ∙ t.belongs_to.hop) k.large t.count (omega (arith, t.count, t.belongs_to.pieces, pieces, k.below)));
        };
      }

  pub of_one : IsOfOne wholes n b
  of_one = ⊎_elim (λ whole. absurd (all_whole p b whole says)) (λ piece. of_whole piece) (arrives wholes p there)

  pub of_shown : (v : View) → AllShown v wholes → IsOfShown v n b
  of_shown v shown =
      let x = of_one in
      let sent = shown x.whole x.there in
      record { whole = x.whole; offer = x.offer; of = x.of; sent = rw (x.of.says, x.of.to) at sent }

  pub of_right : (j : JobOf) → AllRight j wholes → IsOfRight j n b
  of_right j right =
      let x = of_one in
      let agrees = right x.whole x.there in
      record { whole = x.whole; offer = x.offer; of = x.of; right = rw x.of.says at agrees }
