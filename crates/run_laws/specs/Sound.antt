-- What is kept from world to world of a run: it is cut from a world of whole packets, which is tied
-- to tables and right by value.
use Rattle.std.specs.Prelude.{◌≡◌, ℕ, Some}
use Rattle.codec.specs.Pieces.{cut_all}
use Rattle.serial_meaning.specs.Job.{JobOf}
use Rattle.node_state.specs.Node.{NodeOf}
use Rattle.table_laws.specs.View.{View}
use Rattle.world_steps.specs.World.{WorldOf, node_in}
use Rattle.actor_laws.specs.whole_offers.Kept.{NodeKept}
use Rattle.actor_laws.specs.whole_offers.Whole.{OneOffer}
use Rattle.run_laws.specs.Right.{WorldIsRight}
use Rattle.run_laws.specs.Shown.{Tied, TiedSince, tied_here, tied_of}

-- a world as it is where large Offers go in their pieces
abbrev pub cut_world : WorldOf → WorldOf
cut_world v = record v { net = cut_all v.net }

-- w is so cut from v; each grant and hop has one Offer, and of each node is kept what is kept of it
pub record IsCutFrom (job : JobOf) (v w : WorldOf) : Type 0 where
  pub cut : w ≡ cut_world v
  pub one : OneOffer v.net
  pub kept : (a : ℕ) (n : NodeOf) → node_in a v.nodes ≡ Some n → NodeKept job.number v.net n

pub record IsSound (job : JobOf) (w : WorldOf) : Type 0 where
  pub whole : WorldOf
  pub from : IsCutFrom job whole w
  pub tied : Tied job whole
  pub right : WorldIsRight job whole

-- and the tables come of others by moves
pub record SoundSince (job : JobOf) (base : View) (w : WorldOf) : Type 0 where
  pub whole : WorldOf
  pub from : IsCutFrom job whole w
  pub tied : TiedSince job base whole
  pub right : WorldIsRight job whole

abbrev pub sound_of : {job : JobOf} {base : View} {w : WorldOf} → SoundSince job base w → IsSound job w
sound_of s = record { whole = s.whole; from = s.from; tied = tied_of s.tied; right = s.right }

abbrev pub sound_here : {job : JobOf} {w : WorldOf} → (s : IsSound job w) → SoundSince job s.tied.view w
sound_here s = record { whole = s.whole; from = s.from; tied = tied_here s.tied; right = s.right }
