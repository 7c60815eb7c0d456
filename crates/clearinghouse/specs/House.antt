-- What the clearinghouse holds.
use Rattle.std.specs.Prelude.{ℕ, Bool, false, List, [], map, Option, None, Some}
use Rattle.std.specs.Ordering.{eq_by_cmp}
use Rattle.ids.specs.Named.{Name}
use Rattle.ids.specs.Names.{Grant, grant_cmp, house_of}
use Rattle.ids.specs.declared.member.Member.{Member}
use Rattle.ids.specs.declared.outcome.Outcome.{Outcome}
use Rattle.codec.specs.declared.body.Roster.{Roster}
use Rattle.saved_values.specs.declared.value.SavedValue.{SavedValue}
use Rattle.steal_protocol.specs.declared.replies.Reply.{Reply}
use Rattle.clearinghouse.specs.declared.parts.Enlisted.{Enlisted}
use Rattle.clearinghouse.specs.declared.parts.RootGrant.{RootGrant}
use Rattle.clearinghouse.specs.declared.parts.Stop.{Stop}

-- what the checkpoint of a job keeps: the count of its commits, the last epoch that began, the
-- outcome once there is one, and the values that are saved
pub record Kept : Type 0 where
  pub sequence : ℕ
  pub epoch : ℕ
  pub outcome : Option Outcome
  pub saved : List SavedValue

-- an open clearinghouse: its epoch; the version of its roster, and the workers on it by rising
-- incarnation; the last moment that it was told, and how long a member may be silent; the root's
-- grant while it is out, and how many grants were minted; the last answer to each thief; the
-- outcome; the count of its checkpoint's commits; and the values that are saved
pub record HouseOf : Type 0 where
  pub epoch : ℕ
  pub version : ℕ
  pub workers : List Enlisted
  pub moment : ℕ
  pub limit : ℕ
  pub root : Option RootGrant
  pub minted : ℕ
  pub replies : List Reply
  pub outcome : Option Outcome
  pub sequence : ℕ
  pub saved : List SavedValue

-- a clearinghouse is open until a call stops it
pub data State : Type 0 where
  Open : HouseOf → State
  Stopped : Stop → State

-- its name in its epoch
abbrev pub name_of : HouseOf → ℕ
name_of h = house_of h.epoch

-- the clearinghouse of a new epoch: nobody is listed, and the root isn't granted
abbrev pub opened : ℕ → Kept → HouseOf
opened limit k = record {
  epoch = k.epoch;
  version = 1;
  workers = [];
  moment = 0;
  limit = limit;
  root = None;
  minted = 0;
  replies = [];
  outcome = k.outcome;
  sequence = k.sequence;
  saved = k.saved;
}

-- what it keeps in its checkpoint
abbrev pub kept_of : HouseOf → Kept
kept_of h = record { sequence = h.sequence; epoch = h.epoch; outcome = h.outcome; saved = h.saved }

-- what it tells of a worker, and its roster
abbrev pub name_of_enlisted : Enlisted → Name
name_of_enlisted w = (w.incarnation, 0)

abbrev pub member_of : Enlisted → Member
member_of w = record { incarnation = w.incarnation; status = w.status }

abbrev pub members_of : HouseOf → List Member
members_of h = map member_of h.workers

abbrev pub roster_of : HouseOf → Roster
roster_of h = record { epoch = h.epoch; version = h.version; members = members_of h }

-- whether a grant is the root's, while that is out
abbrev pub is_root : Grant → Option RootGrant → Bool
is_root g None = false
is_root g (Some r) = eq_by_cmp grant_cmp r.grant g
