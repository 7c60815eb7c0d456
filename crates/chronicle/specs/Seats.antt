-- A chronicle and its actors' seats, as callers see them.
use Rattle.std.specs.Prelude.{◌≡◌, ℕ, ◌==◌, if◌then◌else◌, flat_map, List, [], ◌∷◌, ◌++◌, map, Option, None, Some}
use Rattle.atomic_table.specs.Seated.{TableId}
use Rattle.disk.specs.Device.{Device}
use Rattle.serial_meaning.specs.Job.{JobOf}
use Rattle.turn_lock.specs.Claims.{ClaimOf, claim}
use Rattle.turn_lock.specs.Histories.{own}
use Rattle.turn_lock.specs.Seats.{LockOf, SeatOf}
use Rattle.chronicle.specs.declared.kept.Entry.{Entry}
use Rattle.chronicle.specs.History.{BeginningOf, actor_of, beginning}

-- a chronicle: which it is, how many actors have a seat, its job, and the disk with which its
-- history begins
pub record ChronicleOf : Type 0 where
  pub chronicle : TableId
  pub actors : ℕ
  pub job : JobOf
  pub first : Device

-- that of a lock
abbrev pub chronicle_of : LockOf BeginningOf → ChronicleOf
chronicle_of l = record { chronicle = l.table; actors = l.actors; job = l.fixed.job; first = l.fixed.disk }

-- a seat: its chronicle, and how many actors that has; its actor, and the entries of this actor's
-- events, the newest last; the history, while the kept value is out with the seat; and with what
-- the history begins
pub record ActorSeatOf : Type 0 where
  pub chronicle : TableId
  pub actors : ℕ
  pub actor : ℕ
  pub entries : List Entry
  pub taken : Option (List Entry)
  pub began : Option BeginningOf

-- that of a seat of the lock
abbrev pub seat_of : SeatOf Entry BeginningOf → ActorSeatOf
seat_of s = record { chronicle = s.table; actors = s.actors; actor = s.actor; entries = s.entries; taken = s.taken; began = s.fixed }

-- a seat of the chronicle, at a moment at which the kept value isn't out with it
pub record IsSeatIn (c : ChronicleOf) (s : ActorSeatOf) : Type 0 where
  pub chronicle : s.chronicle ≡ c.chronicle
  pub actors : s.actors ≡ c.actors
  pub free : s.taken ≡ None
  pub began : s.began ≡ Some (beginning c.job c.first)

-- a seat of the chronicle that committed nothing yet
abbrev pub IsBlankSeatIn : ChronicleOf → ActorSeatOf → Type 0
IsBlankSeatIn c s = IsSeatIn c s × (s.entries ≡ [])

-- the first goes behind the others
abbrev pub first_last : {A : Type 0} → List A → List A
first_last [] = []
first_last (x ∷ xs) = xs ++ x ∷ []

-- the entries of an actor in the seats
abbrev pub entries_of : List ActorSeatOf → ℕ → List Entry
entries_of seats a = flat_map (λ s. if s.actor == a then s.entries else []) seats

-- the trace has of each actor just what its seat has, in the same order, and of nobody else
-- anything
abbrev pub TellsOf : List ActorSeatOf → List Entry → Type 0
TellsOf seats trace = (a : ℕ) → own actor_of a trace ≡ entries_of seats a

-- what the seats claim
abbrev pub claims_of : List ActorSeatOf → List (ClaimOf Entry)
claims_of seats = map (λ s. claim s.actor s.entries) seats
