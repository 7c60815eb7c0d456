-- Actors of a host as they begin.
use Rattle.std.specs.Prelude.{◌≡◌, ℕ, ℤ, [], List, Option, None}
use Rattle.disk.specs.Device.{Device}
use Rattle.jobs.specs.Jobs.{IsJobOf}
use Rattle.serial_meaning.specs.Job.{JobOf}
use Rattle.clearinghouse.specs.Meeting.{IsOpened}
use Rattle.node_steps.specs.Calls as calls
use Rattle.actors.specs.Actors.{HouseActorOf, NodeActorOf}
use Rattle.actors.specs.declared.actor.Actor.{Actor}
use Rattle.actors.specs.declared.actor.Actor.TheVariants.{Node, House}
use Rattle.actors.specs.declared.host_file.FileCalls.{FileCalls}

-- a node of a job that starts with a word; its Join waits
abbrev pub started : JobOf → ℕ → NodeActorOf
started job word = record { on = record { job = job; node = (calls.start job word).after; posts = [] }; waits = (calls.start job word).sent }

-- an actor is such a node, of the job of a text, an input and a number
abbrev pub IsStarted : {D : Type 0} → List ℕ → List ℤ → (number word : ℕ) → Actor D → Type 0
IsStarted text input number word a = (job : JobOf) × IsJobOf text input number job × (a ≡ Node (record { node = started job word; last = None }))

-- or it is the clearinghouse of that job, opened over a disk, for which a member may be silent for
-- 500 moments; no packet waits
abbrev pub IsOpen : {D : Type 0} (device : D → Device) (planned : D → ℕ → Option (List ℕ)) → List ℕ → List ℤ → ℕ → Actor D → Type 0
IsOpen {D} device planned text input number a = (job : JobOf) × IsJobOf text input number job
    × (disk : D) × (h : HouseActorOf D) × (files : FileCalls) × IsOpened device planned job 500 disk h.on × (h.waits ≡ [])
    × (a ≡ House (record { house = h; files = files }))
