-- Where a node stands.
use Rattle.std.proofs.Common.{◌≡◌, refl}
use Rattle.codec.specs.declared.body.Roster.{Roster}
use Rattle.node_state.specs.Parts.{IsMember}
use Rattle.node_state.specs.declared.parts.State.{State}
use Rattle.node_state.specs.declared.parts.State.TheVariants as stands

-- a member has a roster
pub record HasRoster (st : State) : Type 0 where
  pub roster : Roster
  pub is : st ≡ stands.Member roster

pub has_roster : (st : State) → IsMember st → HasRoster st
has_roster stands.Joining is = absurd is
has_roster (stands.Member r) is = record { roster = r; is = refl }
has_roster (stands.Leaving r heir) is = absurd is
has_roster stands.Ended is = absurd is
