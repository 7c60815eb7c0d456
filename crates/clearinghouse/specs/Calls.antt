-- What the calls of a clearinghouse answer.
use Rattle.std.specs.Prelude.{ℕ, ◌+◌, ◌^◌, ◌&&◌, Bool, nat_lt, if◌then◌else◌, List, [], map, Option, Some, Result, Ok, Err}
use Rattle.std.specs.List.{list_any}
use Rattle.ids.specs.declared.outcome.Outcome.{Outcome}
use Rattle.codec.specs.Table.{reading}
use Rattle.serial_meaning.specs.Job.{JobOf}
use Rattle.clearinghouse.specs.Cases.{on_read}
use Rattle.clearinghouse.specs.Errors.{error_of_stop}
use Rattle.clearinghouse.specs.House.{HouseOf, Kept, State, Open, Stopped, opened}
use Rattle.clearinghouse.specs.Moves
use Rattle.clearinghouse.specs.Steps.{HouseStepOf, HouseAnswer, Ignored, Refused, Does, sends}
use Rattle.clearinghouse.specs.declared.error.HouseError.{HouseError}
use Rattle.clearinghouse.specs.declared.error.HouseError.TheVariants as error
use Rattle.clearinghouse.specs.declared.parts.Stop.TheVariants as by

-- a new epoch begins over what a checkpoint keeps, once it is committed; none where the epochs or
-- the commits are spent
abbrev pub next_epoch : Kept → Kept
next_epoch k = record k { sequence = k.sequence + 1; epoch = k.epoch + 1 }

abbrev pub can_begin : Kept → Bool
can_begin k = nat_lt (k.epoch + 1) (2 ^ 63) && nat_lt (k.sequence + 1) (2 ^ 64)

abbrev pub begins : ℕ → Kept → HouseStepOf
begins limit k = record { after = opened limit k; commits = Some k; sent = [] }

abbrev pub open_over : ℕ → Kept → HouseAnswer
open_over limit k = if can_begin k then Does (begins limit (next_epoch k)) else Refused error.Spent

-- a stopped clearinghouse answers every call by what stopped it
abbrev pub if_open : State → (HouseOf → HouseAnswer) → HouseAnswer
if_open (Open h) call = call h
if_open (Stopped s) call = Refused (error_of_stop s)

-- where a clearinghouse stands after a refused call: a call of the device that failed, and being
-- out of memory, stop it; any other refusal changes nothing
abbrev pub refused_state : HouseError → State → State
refused_state error.Device state = Stopped by.Device
refused_state error.Memory state = Stopped by.Memory
refused_state other state = state

abbrev pub state_after : HouseAnswer → State → State
state_after Ignored state = state
state_after (Refused e) state = refused_state e state
state_after (Does s) state = Open s.after

-- the outcome, where there is one
abbrev pub outcome : State → Result (Option Outcome) HouseError
outcome (Open h) = Ok h.outcome
outcome (Stopped s) = Err (error_of_stop s)

module _ (job : JobOf) where
  -- bytes come
  abbrev pub on_bytes : List ℕ → State → HouseAnswer
  on_bytes bytes state = if_open state (on_read job (reading bytes))

  -- a moment comes: members that were silent for too long are dead, and then the root's grant is
  -- settled
  abbrev pub declares_dead : ℕ → HouseOf → HouseStepOf
  declares_dead now h =
      let new : HouseOf = record h { moment = now } in
      if list_any (Moves.is_lost h.limit now) h.workers
      then Moves.settles job (Moves.with_workers (map (Moves.declared_dead h.limit now) h.workers) new)
      else sends [] new

  -- one that is no later than the last changes nothing
  unfoldable pub passes : ℕ → HouseOf → HouseStepOf
  passes now h = if nat_lt h.moment now then declares_dead now h else sends [] h

  abbrev pub tick : ℕ → State → HouseAnswer
  tick now state = if_open state (λ h. Does (passes now h))
