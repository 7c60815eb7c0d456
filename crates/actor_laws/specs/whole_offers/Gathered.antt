-- The parts that a node keeps came in pieces that were sent; and with the last one they are read as
-- the Offer that was sent.
use Rattle.std.specs.Prelude.{◌≡◌, ℕ, List, Ok}
use Rattle.ids.specs.Ordered.{AreInOrder}
use Rattle.codec.specs.Pieces.{PartOf, long_reading, name_of_part}
use Rattle.codec.specs.Table.{PacketOf}
use Rattle.codec.specs.declared.body.Body.TheVariants as body
use Rattle.codec.specs.declared.body.Offer.{Offer}
use Rattle.codec.specs.declared.body.Piece.{Piece}
use Rattle.departure.specs.Offers.{offered}
use Rattle.serial_meaning.specs.Job.{JobOf}
use Rattle.node_state.specs.Assemblies.{AssemblyOf, assembly_in}
use Rattle.node_state.specs.Node.{NodeOf}
use Rattle.node_steps.specs.Cases.{Whole, collects}
use Rattle.table_laws.specs.View.{View}
use Rattle.table_laws.specs.Tables.{◌∈◌}
use Rattle.actor_laws.specs.actor_agreement.Values.{IsRight}
use Rattle.actor_laws.specs.node_moves.Shows.{OfferShown}
use Rattle.actor_laws.specs.whole_offers.Whole.{came_in}

-- each part of one Offer came in a piece that was sent, and they stand by rising number
pub record CameIn (net : List PacketOf) (job to : ℕ) (x : AssemblyOf) : Type 0 where
  pub each : (y : PartOf) → y ∈ x.parts → came_in job to x y ∈ net
  pub order : AreInOrder name_of_part x.parts

-- so did all that a node keeps
abbrev pub AllCameIn : List PacketOf → ℕ → NodeOf → Type 0
AllCameIn net job n = (x : AssemblyOf) → x ∈ n.assemblies → CameIn net job n.incarnation x

-- a Piece is one of an Offer, and where with it all parts are there that a node keeps of it, they
-- are read as a packet that says it
pub record IsOf (n : NodeOf) (b : Piece) (p : PacketOf) (o : Offer) : Type 0 where
  pub says : p.body ≡ body.Offer o
  pub to : p.to ≡ n.incarnation
  pub from : b.from ≡ o.from
  pub grant : b.grant ≡ o.grant
  pub hop : b.hop ≡ o.hop
  pub read : (bytes : List ℕ) → collects b (assembly_in b.grant n.assemblies) ≡ Whole bytes → long_reading bytes ≡ Ok p

-- it is one of an Offer that is among these
pub record IsOfOne (wholes : List PacketOf) (n : NodeOf) (b : Piece) : Type 0 where
  pub whole : PacketOf
  pub offer : Offer
  pub there : whole ∈ wholes
  pub of : IsOf n b whole offer

-- it is one of an Offer that the tables show as sent to the node
pub record IsOfShown (v : View) (n : NodeOf) (b : Piece) : Type 0 where
  pub whole : PacketOf
  pub offer : Offer
  pub of : IsOf n b whole offer
  pub sent : OfferShown v.transfers n.incarnation offer

-- it is one of an Offer that agrees
pub record IsOfRight (job : JobOf) (n : NodeOf) (b : Piece) : Type 0 where
  pub whole : PacketOf
  pub offer : Offer
  pub of : IsOf n b whole offer
  pub right : IsRight job (offered offer).content
