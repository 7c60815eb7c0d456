-- Calls of a host's actor by their numbers.
use Rattle.std.specs.Prelude.{◌≡◌, ◌≢◌, ℕ, ℤ, pos, List, length, Option, None, Some, IfNone, IfSome, Result, Err, if◌then◌else◌, ◌==◌}
use Rattle.disk.specs.Device.{Device}
use Rattle.actors.specs.Called.{HasFile, IsCalled, IsFileHanded, IsHanded, IsTaken, number}
use Rattle.actors.specs.declared.actor.Actor.{Actor}
use Rattle.actors.specs.declared.actor.Actor.TheVariants.{Over}
use Rattle.actors.specs.declared.call.Call.{Call}
use Rattle.actors.specs.declared.call.Call.TheVariants.{Work, AskHouse, Ask, Resend, Depart, Tick, See}
use Rattle.actors.specs.declared.call.Seen.TheVariants as see
use Rattle.actors.specs.declared.error.ActorError.{ActorError}
use Rattle.actors.specs.declared.error.ActorError.TheVariants.{NotThis}

-- to ask the worker 0 is to ask the clearinghouse
abbrev pub asking : ℕ → Call
asking word = if word == 0 then AskHouse else Ask word

-- the call of a number, with another one that it takes
abbrev pub call_of : (what a : ℕ) → Option Call
call_of what a =
    if what == 1 then Some Work else
    if what == 2 then Some (asking a) else
    if what == 3 then Some Resend else
    if what == 4 then Some (Depart a) else
    if what == 5 then Some (Tick a) else
    if what == 16 then Some (See see.State) else
    if what == 17 then Some (See (see.Ready a)) else
    if what == 18 then Some (See see.Asked) else
    if what == 19 then Some (See see.Members) else
    if what == 20 then Some (See (see.Member a)) else
    if what == 21 then Some (See see.Outcome) else
    if what == 22 then Some (See see.Value) else
    if what == 23 then Some (See see.Minter) else
    if what == 24 then Some (See see.Grant) else
    if what == 25 then Some (See see.Frame) else
    if what == 26 then Some (See see.Turns) else None

-- what is told by numbers of a call; 6 ends an actor
module _ {D : Type 0} (device : D → Device) (planned : D → ℕ → Option (List ℕ)) where
  abbrev pub IsCalledBy : (what a : ℕ) → ℤ → (old new : Actor D) → Type 0
  IsCalledBy what a result old new = (what ≡ 6 → (result ≡ pos 0) × (new ≡ Over))
      × IfSome (call_of what a) (λ c. (r : Result ℤ ActorError) × (result ≡ number r) × IsCalled device planned c r old new)
      × (what ≢ 6 → IfNone (call_of what a) ((result ≡ number (Err NotThis)) × (new ≡ old)))

  abbrev pub IsTakenBy : List ℕ → ℤ → (old new : Actor D) → Type 0
  IsTakenBy bytes result old new = (r : Result ℤ ActorError) × (result ≡ number r) × IsTaken device planned bytes r old new

-- and of what is handed to the host: by 0 a packet, by 1 what is to be done to the file
abbrev pub IsGivenBy : {D : Type 0} → ℕ → ℤ → (buffer given : List ℕ) → (old new : Actor D) → Type 0
IsGivenBy what result buffer given old new = (length given ≡ length buffer)
    × (what ≡ 0 → (r : Result ℤ ActorError) × (result ≡ number r) × IsHanded r buffer given old new)
    × (what ≡ 1 → (r : Result ℤ ActorError) × (result ≡ number r) × IsFileHanded old new × HasFile old r)
    × (what ≢ 0 → what ≢ 1 → (result ≡ number (Err NotThis)) × (given ≡ buffer) × (new ≡ old))
