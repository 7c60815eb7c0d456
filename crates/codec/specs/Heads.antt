-- A packet is read in two steps: what stands in front of its fields, and the fields; and it may be
-- looked through first.
use Rattle.std.specs.Prelude.{◌≡◌, ℕ, List, Result, Ok, Err}
use Rattle.packet_fields.specs.declared.fault.Fault.{Fault}
use Rattle.codec.specs.declared.body.Body.{Body}
use Rattle.codec.specs.Table.{PacketOf, fields}

-- what stands in front of a packet's fields: the number of its kind, that of its job, and whom it
-- goes to
pub record HeadOf : Type 0 where
  pub kind : ℕ
  pub job : ℕ
  pub to : ℕ

-- the packet of a head and of what was read of the fields
abbrev pub behind : HeadOf → Result (Body × List ℕ) Fault → Result (PacketOf × List ℕ) Fault
behind h (Ok x) = Ok (record { job = h.job; to = h.to; body = x.0 }, x.1)
behind h (Err f) = Err f

-- what was returned, seen by a view, is the head of a packet that is read, and its fields are what
-- is left; or its fault
abbrev pub StandsBefore : {X : Type 0} → (X → HeadOf) → List ℕ → Result X Fault → Result (PacketOf × List ℕ) Fault → Type 0
StandsBefore view left (Ok x) reading = reading ≡ behind (view x) ((fields (view x).kind).read left)
StandsBefore view left (Err f) reading = reading ≡ Err f

-- where nothing is refused, a packet is read, and else that is its fault
abbrev pub IsChecked : {X : Type 0} → Result X Fault → Result PacketOf Fault → Type 0
IsChecked (Ok x) reading = (p : PacketOf) × (reading ≡ Ok p)
IsChecked (Err f) reading = reading ≡ Err f
