-- Worked runs of one clearinghouse, computed: what comes to it, call by call, and what all calls
-- together did.
use Rattle.std.specs.Prelude.{ℕ, pos, List, [], ◌∷◌, ◌++◌, None, Option, Some}
use Rattle.codec.specs.Table.{PacketOf}
use Rattle.codec.specs.declared.body.Body.{Body}
use Rattle.serial_meaning.proofs.Fib.{Pointer, fib}
use Rattle.serial_meaning.specs.Job.{JobOf}
use Rattle.clearinghouse.specs.Calls.{tick}
use Rattle.clearinghouse.specs.Cases.{on_packet}
use Rattle.clearinghouse.specs.House.{HouseOf, Kept, Open, opened}
use Rattle.clearinghouse.specs.Steps.{HouseAnswer, Ignored, Refused, Does}

-- a packet comes, or a moment
pub data Call : Type 0 where
  Comes : ℕ → Body → Call
  Ticks : ℕ → Call

-- the Fibonacci program on 2, as job 1
abbrev pub job_of : Pointer → JobOf
job_of p = record { program = fib p; input = pos 2 ∷ []; number = 1 }

-- the clearinghouse of the first epoch, where a member may be silent for 500
abbrev pub first : HouseOf
first = opened 500 (record { sequence = 1; epoch = 1; outcome = None; saved = [] })

-- a run: what was committed and sent so far, in the order of these
pub data Event : Type 0 where
  Commits : Kept → Event
  Sends : PacketOf → Event

pub record Run : Type 0 where
  pub after : HouseOf
  pub events : List Event

abbrev pub all_sent : List PacketOf → List Event
all_sent [] = []
all_sent (p ∷ ps) = Sends p ∷ all_sent ps

abbrev pub step_events : Option Kept → List PacketOf → List Event
step_events None sent = all_sent sent
step_events (Some k) sent = Commits k ∷ all_sent sent

-- what a call adds to a run; one that is ignored or refused adds nothing
abbrev pub adds : Run → HouseAnswer → Run
adds r Ignored = r
adds r (Refused e) = r
adds r (Does s) = record { after = s.after; events = r.events ++ step_events s.commits s.sent }

module _ (job : JobOf) where
  abbrev pub answer : Call → HouseOf → HouseAnswer
  answer (Comes to b) h = on_packet job (record { job = job.number; to = to; body = b }) h
  answer (Ticks now) h = tick job now (Open h)

  -- all that these calls do, one after the other
  abbrev pub play : List Call → Run → Run
  play [] r = r
  play (c ∷ cs) r = play cs (adds r (answer c r.after))

  -- the events of these calls, from the first epoch's clearinghouse on
  abbrev pub events : List Call → List Event
  events cs = (play cs (record { after = first; events = [] })).events

  -- the clearinghouse after them
  abbrev pub after : List Call → HouseOf
  after cs = (play cs (record { after = first; events = [] })).after

  -- the answer to a call after them
  abbrev pub answer_after : List Call → Call → HouseAnswer
  answer_after cs last = answer last (after cs)
