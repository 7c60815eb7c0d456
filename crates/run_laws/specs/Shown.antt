-- How a view shows a world.
use Rattle.std.specs.Prelude.{◌≡◌, ◌≤◌, ℕ, true, [], Some, None}
use Rattle.checkpoint.specs.Store.{KeepsRecord}
use Rattle.checkpoint.specs.declared.record.CheckpointRecord.{CheckpointRecord}
use Rattle.disk.specs.Device.{Device}
use Rattle.serial_meaning.specs.Job.{JobOf}
use Rattle.agreement_laws.specs.Agreement.{AllSavedAgree}
use Rattle.node_state.specs.Node.{NodeOf}
use Rattle.clearinghouse.specs.House.{HouseOf, State, Open, Stopped, kept_of}
use Rattle.clearinghouse.specs.Laws.{IsHouse}
use Rattle.clearinghouse.specs.Meeting.{record_of}
use Rattle.table_laws.specs.Tables.{◌∈◌}
use Rattle.table_laws.specs.View.{Transfer, House, Works, View}
use Rattle.table_laws.specs.Facts.{of_worker}
use Rattle.table_laws.specs.Runs.{Run, Leads, stays_at}
use Rattle.actor_laws.specs.node_moves.Shows.{NodeShown}
use Rattle.actor_laws.specs.node_moves.Steps.{AllShown, IsSent, shown_fills}
use Rattle.actor_laws.specs.house_moves.Shows.{OpenShown, stored_of}
use Rattle.actor_laws.specs.house_moves.Steps.{tables_meaning}
use Rattle.world_steps.specs.World.{Down, HouseAt, IsUp, WorldOf, is_used, node_in}

-- a node of that name is up
pub record UpAt (w : WorldOf) (i : ℕ) : Type 0 where
  pub at : ℕ
  pub node : NodeOf
  pub there : node_in at w.nodes ≡ Some node
  pub name : node.incarnation ≡ i

-- an open clearinghouse is shown, and holds what it holds between calls
pub record OpenHouse (v : View) (h : HouseOf) : Type 0 where
  pub shown : OpenShown v h
  pub sound : IsHouse h

-- none is open
pub record Closed (v : View) : Type 0 where
  pub none : v.house ≡ None
  pub nobody : (i : ℕ) → v.mode i ≡ House → ⊥

abbrev pub StateShown : View → State → Type 0
StateShown v (Open h) = OpenHouse v h
StateShown v (Stopped s) = Closed v

abbrev pub HouseShown : View → HouseAt → Type 0
HouseShown v Down = Closed v
HouseShown v (IsUp state) = StateShown v state

-- what an open clearinghouse has committed is the record on the disk
abbrev pub IsCommitted : JobOf → ℕ → CheckpointRecord → State → Type 0
IsCommitted job sequence r (Open h) = (sequence ≡ h.sequence) × (r ≡ record_of job (kept_of h))
IsCommitted job sequence r (Stopped s) = Unit {0}

abbrev pub IsHeldBy : JobOf → ℕ → CheckpointRecord → HouseAt → Type 0
IsHeldBy job sequence r Down = Unit {0}
IsHeldBy job sequence r (IsUp state) = IsCommitted job sequence r state

-- whatever a crash leaves of the disk is a checkpoint with one record of the job: its outcome is
-- that of the tables, its epoch is theirs, or a later one that began and was never open, and the
-- values that are saved there agree
pub record DiskShown (job : JobOf) (v : View) (d : Device) (house : HouseAt) : Type 0 where
  pub sequence : ℕ
  pub found : CheckpointRecord
  pub keeps : KeepsRecord d.file sequence found
  pub own : found.job ≡ job.number
  pub stored : v.stored ≡ stored_of found.outcome
  pub epoch : v.epoch ≤ found.epoch
  pub saved : AllSavedAgree job found.saved
  pub held : IsHeldBy job sequence found house

pub record Shown (job : JobOf) (v : View) (w : WorldOf) : Type 0 where
  -- each node is shown, and has a worker's name that no other has
  pub nodes : (a : ℕ) (n : NodeOf) → node_in a w.nodes ≡ Some n → NodeShown v n
  pub workers : (a : ℕ) (n : NodeOf) → node_in a w.nodes ≡ Some n → of_worker n.incarnation ≡ true
  pub started : (a : ℕ) (n : NodeOf) → node_in a w.nodes ≡ Some n → is_used n.incarnation w ≡ true
  pub apart : (a b : ℕ) (n o : NodeOf) → node_in a w.nodes ≡ Some n → node_in b w.nodes ≡ Some o → n.incarnation ≡ o.incarnation → a ≡ b
  -- a worker that is up in the tables is so in the world; and its name was a start word
  pub up : (i : ℕ) → Works (v.mode i) → (v.mode i ≡ House → ⊥) → UpAt w i
  pub words : (i : ℕ) → i ∈ v.used → of_worker i ≡ true → is_used i w ≡ true
  -- the clearinghouse and its disk, what was sent, and what was put into slots
  pub house : HouseShown v w.house
  pub disk : DiskShown job v w.disk w.house
  pub net : AllShown v w.net
  pub sent : (t : Transfer) → t ∈ v.transfers → IsSent job.number w.net t
  pub fills : v.fills ≡ shown_fills w.fills []

-- tables that come of right moves show it
pub record Tied (job : JobOf) (w : WorldOf) : Type 0 where
  pub view : View
  pub run : Run (tables_meaning job) view
  pub shown : Shown job view w

-- and so do tables to which others lead by moves
pub record TiedSince (job : JobOf) (base : View) (w : WorldOf) : Type 0 where
  pub view : View
  pub run : Run (tables_meaning job) view
  pub since : Leads base view
  pub shown : Shown job view w

-- a world is tied by itself, and a step from tables to tables
abbrev pub tied_of : {job : JobOf} {base : View} {w : WorldOf} → TiedSince job base w → Tied job w
tied_of t = record { view = t.view; run = t.run; shown = t.shown }

abbrev pub tied_here : {job : JobOf} {w : WorldOf} → (t : Tied job w) → TiedSince job t.view w
tied_here t = record { view = t.view; run = t.run; since = stays_at; shown = t.shown }
