-- How a view shows the open clearinghouse: what each reader of it gives is in the tables, under its
-- name in its epoch.
use Rattle.std.specs.Prelude.{◌≡◌, ◌+◌, ◌≤◌, ℕ, ℤ, length, Option, None, Some}
use Rattle.ids.specs.Names.{Grant}
use Rattle.ids.specs.declared.outcome.Outcome.{Outcome}
use Rattle.steal_protocol.specs.Replies.{reply_in}
use Rattle.steal_protocol.specs.declared.replies.Reply.{Reply}
use Rattle.clearinghouse.specs.House.{HouseOf, name_of, roster_of}
use Rattle.clearinghouse.specs.Laws.{living}
use Rattle.clearinghouse.specs.declared.parts.RootGrant.{RootGrant}
use Rattle.table_laws.specs.View.{House, View}
use Rattle.table_laws.specs.View as tables
use Rattle.content_laws.specs.Shown.{outcome_number}
use Rattle.actor_laws.specs.node_moves.Shows.{ShowsReply, ShowsRoster, PacketShown}

-- the root's grant; who holds it stands in no table
abbrev pub ShowsRoot : Option Grant → Option RootGrant → Type 0
ShowsRoot None None = Unit {0}
ShowsRoot None (Some r) = ⊥
ShowsRoot (Some k) None = ⊥
ShowsRoot (Some k) (Some r) = k ≡ r.grant

-- the outcome, as tables have it
abbrev pub stored_of : Option Outcome → Option (Option ℤ)
stored_of None = None
stored_of (Some o) = Some (outcome_number o)

-- all that an open clearinghouse has
pub record OpenShown (v : View) (h : HouseOf) : Type 0 where
  pub mode : v.mode (name_of h) ≡ House
  pub roster : tables.Roster
  pub is : v.house ≡ Some roster
  pub shows : ShowsRoster roster (roster_of h)
  -- no more are counted as left than are listed and not live
  pub room : roster.left + living h.workers ≤ length h.workers
  pub minted : v.minted (name_of h) ≡ h.minted
  pub replies : (thief : ℕ) → ShowsReply (name_of h) thief (v.kept (name_of h) thief) (reply_in thief h.replies)
  pub said : (thief : ℕ) (r : Reply) → reply_in thief h.replies ≡ Some r → PacketShown v r.packet
  pub root : ShowsRoot v.root h.root
  pub stored : v.stored ≡ stored_of h.outcome
  pub epoch : v.epoch ≡ h.epoch
  -- no other is open
  pub only : (i : ℕ) → v.mode i ≡ House → i ≡ name_of h
