-- What goes over the wire, and the whole packets from which it is cut.
use Rattle.std.specs.Prelude.{◌≡◌, ◌<◌, ◌⊎◌, ℕ, true, List}
use Rattle.codec.specs.declared.body.Body.TheVariants as body
use Rattle.codec.specs.declared.body.Offer.{Offer}
use Rattle.codec.specs.declared.body.Piece.{Piece}
use Rattle.codec.specs.Pieces.{PartOf, cut_all, is_large, packet_of_piece, parts_of, piece_at}
use Rattle.codec.specs.Table.{PacketOf, packet}
use Rattle.node_state.specs.Assemblies.{AssemblyOf}
use Rattle.node_steps.specs.Steps.{Answer, Does, Forgets, Ignored, Refused, StepOf}
use Rattle.table_laws.specs.Tables.{◌∈◌}

-- p is a piece of a large offer that is among these packets
pub record IsPieceOf (wholes : List PacketOf) (p : PacketOf) : Type 0 where
  pub whole : PacketOf
  pub offer : Offer
  pub index : ℕ
  pub there : whole ∈ wholes
  pub says : whole.body ≡ body.Offer offer
  pub large : is_large whole ≡ true
  pub below : index < parts_of (packet.write whole)
  pub is : p ≡ packet_of_piece whole offer index

-- what went of a packet: itself, or its first piece
pub record Went (net : List PacketOf) (q : PacketOf) : Type 0 where
  pub sent : PacketOf
  pub there : sent ∈ net
  pub job : sent.job ≡ q.job
  pub to : sent.to ≡ q.to
  pub what : (sent ≡ q) ⊎ ((o : Offer) × (q.body ≡ body.Offer o) × (sent.body ≡ body.Piece (piece_at o (packet.write q) 0)))

-- each grant and hop has one offer
abbrev pub OneOffer : List PacketOf → Type 0
OneOffer wholes = (p q : PacketOf) (o u : Offer) → p ∈ wholes → q ∈ wholes → p.body ≡ body.Offer o → q.body ≡ body.Offer u → o.grant ≡ u.grant → o.hop ≡ u.hop → p ≡ q

-- none is a piece
abbrev pub AreWhole : List PacketOf → Type 0
AreWhole wholes = (p : PacketOf) (b : Piece) → p ∈ wholes → p.body ≡ body.Piece b → ⊥

-- the piece in which a part came to a worker
abbrev pub came_in : ℕ → ℕ → AssemblyOf → PartOf → PacketOf
came_in job to x y = record { job = job; to = to; body = body.Piece (record { from = x.from; grant = x.grant; hop = x.hop; pieces = x.pieces; number = y.number; bytes = y.bytes }) }

-- a step as it goes over the wire: large offers in their pieces
abbrev pub cut_step : StepOf → StepOf
cut_step s = record s { sent = cut_all s.sent }

abbrev pub cut_answer : Answer → Answer
cut_answer Ignored = Ignored
cut_answer (Refused e) = Refused e
cut_answer (Does s) = Does (cut_step s)
cut_answer (Forgets n) = Forgets n
