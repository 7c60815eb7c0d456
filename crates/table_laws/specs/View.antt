-- The world as its proofs see it: a table for each kind of fact, where the world has nodes, packets
-- and a clearinghouse. A name is a number: an incarnation of a worker, or a house, which is the
-- clearinghouse of one epoch.
use Rattle.std.specs.Prelude.{ℕ, ℤ, List, [], Option, None}
use Rattle.ids.specs.Names.{Grant}
use Rattle.table_laws.specs.Content.{Content, Fill}

-- The work of a grant goes from one name to another: by a Grant, hop 0, from its minter to the
-- thief whose Steal of that seq it answers, and by an Offer, hop 1 and up, from one that departs to
-- its heir.
pub record Transfer : Type 0 where
  pub grant : Grant
  pub hop : ℕ
  pub from : ℕ
  pub to : ℕ
  pub seq : ℕ
  pub content : Content

-- an OfferAck: who was sent that transfer has taken it, or a later one of that grant
pub record Ack : Type 0 where
  pub grant : Grant
  pub hop : ℕ
  pub from : ℕ
  pub to : ℕ

-- a Result: the outcome of a grant, for its parent host; it is none for one that was too deep
pub record Result : Type 0 where
  pub grant : Grant
  pub host : ℕ
  pub outcome : Option ℤ

-- a Steal; also the Refuse that answers it
pub record Steal : Type 0 where
  pub thief : ℕ
  pub seq : ℕ
  pub victim : ℕ

-- a Leave, to the house of an epoch: who departed holds nothing any more, its heir has all of it
pub record Leave : Type 0 where
  pub from : ℕ
  pub heir : ℕ
  pub epoch : ℕ

-- a member's status, as a roster shows it
pub data Status : Type 0 where
  Unlisted Live Dead : Status
  Left : ℕ → Status

-- a roster of the house of an epoch, the latest having the greatest version; left counts the
-- members that it shows left
pub record Roster : Type 0 where
  pub epoch : ℕ
  pub version : ℕ
  pub left : ℕ
  pub status : ℕ → Status

-- a subcomputation that a node holds, with the hop by which it came
pub record Sub : Type 0 where
  pub hop : ℕ
  pub content : Content

-- what a thief asked last
pub record Request : Type 0 where
  pub victim : ℕ
  pub seq : ℕ

-- what a victim answered a thief last: with a Grant, or without one for a Refuse
pub record Reply : Type 0 where
  pub seq : ℕ
  pub given : Option Transfer

-- what the owner of a name is: not started, ended or down; a worker that joins, is a member, or
-- departs and has frozen its subs for its heir; or the open clearinghouse
pub data Mode : Type 0 where
  Gone Joining Member House : Mode
  Leaving : ℕ → Mode

-- the owner is up
abbrev pub Works : Mode → Type 0
Works Gone = ⊥
Works Joining = Unit {0}
Works Member = Unit {0}
Works House = Unit {0}
Works (Leaving heir) = Unit {0}

-- the owner takes work, or may come to
abbrev pub Takes : Mode → Type 0
Takes Gone = ⊥
Takes Joining = Unit {0}
Takes Member = Unit {0}
Takes House = ⊥
Takes (Leaving heir) = ⊥

pub record View : Type 0 where
  -- the names that were ever used
  pub used : List ℕ
  pub mode : ℕ → Mode
  -- how many grants a name has minted, and how many Steals it has sent
  pub minted : ℕ → ℕ
  pub asked : ℕ → ℕ
  -- the greatest hop of a grant that a name has taken
  pub seen : ℕ → Grant → Option ℕ
  -- the subs that a name holds; they are frozen where its mode is Leaving
  pub subs : ℕ → Grant → Option Sub
  -- the Steal that a thief waits on
  pub pending : ℕ → Option Request
  -- the last reply of a victim to a thief
  pub kept : ℕ → ℕ → Option Reply
  -- the net: all packets ever sent, by their kinds, the newest first
  pub transfers : List Transfer
  pub acks : List Ack
  pub results : List Result
  -- the grants of which a ResultAck or an Abort was sent
  pub settled : List Grant
  pub steals : List Steal
  pub refusals : List Steal
  pub leaves : List Leave
  -- the rosters that houses have had, told or not
  pub rosters : List Roster
  -- the roster that a node keeps, and the open house's
  pub roster : ℕ → Option Roster
  pub house : Option Roster
  -- all fills so far, also those of nodes that are gone
  pub fills : List Fill
  -- who is lost to the open house: dead in its roster, gone or of an earlier epoch without a Leave
  -- to it
  pub lost : List ℕ
  -- the grant of the open house's root record
  pub root : Option Grant
  -- the outcome of the job that a house has recorded, if one has; it outlives the house
  pub stored : Option (Option ℤ)
  -- the last epoch that a house has opened, which is recorded as well
  pub epoch : ℕ

-- nothing was sent, nobody is up; the disk has this epoch, and the outcome that an earlier house
-- recorded, if one did
abbrev pub first_over : ℕ → Option (Option ℤ) → View
first_over epoch stored = record { used = []; mode = λ i. Gone; minted = λ i. 0; asked = λ i. 0; seen = λ i g. None; subs = λ i g. None; pending = λ i. None; kept = λ i j. None; transfers = []; acks = []; results = []; settled = []; steals = []; refusals = []; leaves = []; rosters = []; roster = λ i. None; house = None; fills = []; lost = []; root = None; stored = stored; epoch = epoch }

-- over the disk of a job that has just begun
abbrev pub first : View
first = first_over 0 None
