-- Calls of a host's actor, and what is told of them by numbers.
use Rattle.std.specs.Prelude.{◌≡◌, ◌⊎◌, ◌<◌, ℕ, ℤ, pos, neg_ℤ, Bool, true, false, List, [], Option, None, Some, Result, Ok, Err, length}
use Rattle.ids.specs.declared.error_numbers.TheConstants.{NOT_THIS, UNSENT}
use Rattle.codec.specs.Table.{PacketOf}
use Rattle.ids.specs.declared.outcome.Outcome.{Outcome}
use Rattle.ids.specs.declared.outcome.Outcome.TheVariants.{Value, TooDeep}
use Rattle.disk.specs.Device.{Device}
use Rattle.clearinghouse.specs.Calls as house_calls
use Rattle.clearinghouse.specs.Errors.{number_of_error as number_of_house}
use Rattle.clearinghouse.specs.Meeting.{HouseMeets, HouseOn}
use Rattle.clearinghouse.specs.declared.error.HouseError.{HouseError}
use Rattle.clearinghouse.specs.declared.parts.HouseStep.{HouseStep}
use Rattle.node_steps.specs.Calls as calls
use Rattle.node_steps.specs.Cases as cases
use Rattle.node_steps.specs.Choosing.{own_candidate}
use Rattle.node_steps.specs.Errors.{number_of_error as number_of_node}
use Rattle.node_steps.specs.Meeting.{LacksMemoryLast, MayLackMemory, Meets, NodeOn}
use Rattle.node_steps.specs.declared.error.NodeError.{NodeError}
use Rattle.node_steps.specs.declared.parts.Step.{Step}
use Rattle.node_steps.specs.declared.parts.Victim.TheVariants as victim
use Rattle.actors.specs.Actors.{HouseActorOf, HouseCalled, IsGiven, IsWorked, MeetsStopped, MeetsUnless, NodeActorOf, NodeCalled}
use Rattle.actors.specs.declared.actor.Actor.{Actor}
use Rattle.actors.specs.declared.actor.Actor.TheVariants.{Node, House, Over}
use Rattle.actors.specs.declared.actor.HostHouse.{HostHouse}
use Rattle.actors.specs.declared.actor.HostNode.{HostNode}
use Rattle.actors.specs.declared.call.Call.{Call}
use Rattle.actors.specs.declared.call.Call.TheVariants as call
use Rattle.actors.specs.declared.call.Seen.{Seen}
use Rattle.actors.specs.declared.call.Seen.TheVariants as see
use Rattle.actors.specs.declared.error.ActorError.{ActorError}
use Rattle.actors.specs.declared.error.ActorError.TheVariants as error
use Rattle.actors.specs.declared.error.HouseCallError.{HouseCallError}
use Rattle.actors.specs.declared.error.HouseCallError.TheVariants as by_house
use Rattle.actors.specs.declared.error.NodeCallError.{NodeCallError}
use Rattle.actors.specs.declared.error.NodeCallError.TheVariants as by_node
use Rattle.actors.specs.declared.node_actor.Worked.{Worked}

-- the numbers of errors
abbrev pub number_of_error : ActorError → ℕ
number_of_error error.NotThis = NOT_THIS
number_of_error error.Unsent = UNSENT
number_of_error (error.Node e) = number_of_node e
number_of_error (error.House e) = number_of_house e

abbrev pub of_node : NodeCallError → ActorError
of_node by_node.Unsent = error.Unsent
of_node (by_node.Node e) = error.Node e

abbrev pub of_house : HouseCallError → ActorError
of_house by_house.Unsent = error.Unsent
of_house (by_house.House e) = error.House e

-- what is told of a call: 1 where a packet was ignored, and 0 where one wasn't
abbrev pub told : Bool → ℤ
told false = pos 0
told true = pos 1

abbrev pub told_node : Result Bool NodeCallError → Result ℤ ActorError
told_node (Ok ignored) = Ok (told ignored)
told_node (Err e) = Err (of_node e)

abbrev pub told_house : Result Bool HouseCallError → Result ℤ ActorError
told_house (Ok ignored) = Ok (told ignored)
told_house (Err e) = Err (of_house e)

-- of the ready frame that came first: 0 where there was none, 1 where it was carried out by its own
-- turn, 2 where by its task's whole value
abbrev pub told_turns : Option ℕ → ℤ
told_turns None = pos 1
told_turns (Some n) = pos 2

abbrev pub told_work : Option Worked → ℤ
told_work None = pos 0
told_work (Some w) = told_turns w.turns

-- the same as one number: an error's is negative
abbrev pub number : Result ℤ ActorError → ℤ
number (Ok n) = n
number (Err e) = neg_ℤ (pos (number_of_error e))

-- a call of a node that may send
abbrev pub NodeDoes : (Result Step NodeError → NodeOn → NodeOn → Type 0) → Result ℤ ActorError → (old new : NodeActorOf) → Type 0
NodeDoes meets result old new = (r : Result Bool NodeCallError) × (result ≡ told_node r)
    × (0 < length old.waits → (r ≡ Err by_node.Unsent) × (new ≡ old)) × (old.waits ≡ [] → NodeCalled meets r old new)

-- it carries out the ready frame that comes first, and which one that was is noted
abbrev pub IsToldWork : Result (Option Worked) NodeCallError → Result ℤ ActorError → (last noted : Option Worked) → Type 0
IsToldWork (Ok w) result last noted = (result ≡ Ok (told_work w)) × (noted ≡ w)
IsToldWork (Err e) result last noted = (result ≡ Err (of_node e)) × (noted ≡ last)

abbrev pub NodeWorks : Result ℤ ActorError → (old new : HostNode) → Type 0
NodeWorks result old new = (r : Result (Option Worked) NodeCallError) × IsToldWork r result old.last new.last
    × (0 < length old.node.waits → (r ≡ Err by_node.Unsent) × (new.node ≡ old.node)) × (old.node.waits ≡ [] → IsWorked r old.node new.node)

-- what a call comes to at a node. What it is only asked to show changes nothing
abbrev pub NodeIsCalled : Call → Result ℤ ActorError → (old new : HostNode) → Type 0
NodeIsCalled call.Work result old new = NodeWorks result old new
NodeIsCalled call.AskHouse result old new = (new.last ≡ old.last) × NodeDoes (MeetsUnless (calls.ask old.node.on.job victim.House old.node.on.node) LacksMemoryLast) result old.node new.node
NodeIsCalled (call.Ask word) result old new = (new.last ≡ old.last) × NodeDoes (MeetsUnless (calls.ask old.node.on.job (victim.Worker word) old.node.on.node) LacksMemoryLast) result old.node new.node
NodeIsCalled call.Resend result old new = (new.last ≡ old.last) × NodeDoes (MeetsUnless (calls.resend old.node.on.job old.node.on.node) MayLackMemory) result old.node new.node
NodeIsCalled (call.Depart heir) result old new = (new.last ≡ old.last) × NodeDoes (MeetsUnless (calls.depart old.node.on.job heir old.node.on.node) MayLackMemory) result old.node new.node
NodeIsCalled (call.Tick now) result old new = (result ≡ Err error.NotThis) × (new ≡ old)
NodeIsCalled (call.See seen) result old new = new ≡ old

-- a call of a clearinghouse that may send: it is refused while something waits for the host
abbrev pub HouseDoes : {D : Type 0} → (Result HouseStep HouseError → HouseOn D → HouseOn D → Type 0) → Result ℤ ActorError → (old new : HouseActorOf D) → Type 0
HouseDoes meets result old new = ((result ≡ Err error.Unsent) × (new ≡ old))
    ⊎ ((old.waits ≡ []) × (r : Result Bool HouseCallError) × (result ≡ told_house r) × HouseCalled meets r old new)

-- the outcome that it has recorded: 0 where there is none, 1 for a value, 2 for too deep
abbrev pub told_outcome : Option Outcome → ℤ
told_outcome None = pos 0
told_outcome (Some (Value v)) = pos 1
told_outcome (Some TooDeep) = pos 2

abbrev pub told_value : Option Outcome → ℤ
told_value None = pos 0
told_value (Some (Value v)) = v
told_value (Some TooDeep) = pos 0

-- what it is asked to show changes nothing
abbrev pub show_outcome : Result (Option Outcome) HouseError → Result ℤ ActorError
show_outcome (Ok o) = Ok (told_outcome o)
show_outcome (Err e) = Err (error.House e)

abbrev pub show_value : Result (Option Outcome) HouseError → Result ℤ ActorError
show_value (Ok o) = Ok (told_value o)
show_value (Err e) = Err (error.House e)

abbrev pub HouseShows : {D : Type 0} → Seen → Result ℤ ActorError → HouseActorOf D → Type 0
HouseShows see.Outcome result h = result ≡ show_outcome (house_calls.outcome h.on.state)
HouseShows see.Value result h = result ≡ show_value (house_calls.outcome h.on.state)
HouseShows other result h = Unit {0}

-- the first packet that waits is handed to the host, and how many bytes it has is told
abbrev pub IsPacket : Result ℤ ActorError → (buffer given : List ℕ) → (old new : List PacketOf) → Type 0
IsPacket result buffer given old new = (count : ℕ) × (result ≡ Ok (pos count)) × IsGiven count buffer given old new

module _ {D : Type 0} (device : D → Device) (planned : D → ℕ → Option (List ℕ)) where
  -- what a call comes to at a clearinghouse
  abbrev pub HouseIsCalled : Call → Result ℤ ActorError → (old new : HostHouse D) → Type 0
  HouseIsCalled (call.Tick now) result old new = HouseDoes (MeetsStopped (HouseMeets device planned (house_calls.tick old.house.on.job now old.house.on.state))) result old.house new.house
  HouseIsCalled (call.See seen) result old new = (new ≡ old) × HouseShows seen result old.house
  HouseIsCalled other result old new = (result ≡ Err error.NotThis) × (new ≡ old)

  abbrev pub HouseIsTaken : List ℕ → Result ℤ ActorError → (old new : HostHouse D) → Type 0
  HouseIsTaken bytes result old new = HouseDoes (MeetsStopped (HouseMeets device planned (house_calls.on_bytes old.house.on.job bytes old.house.on.state))) result old.house new.house

  -- and at an actor
  abbrev pub IsCalled : Call → Result ℤ ActorError → (old new : Actor D) → Type 0
  IsCalled c result (Node n) new = (m : HostNode) × (new ≡ Node m) × NodeIsCalled c result n m
  IsCalled c result (House h) new = (k : HostHouse D) × (new ≡ House k) × HouseIsCalled c result h k
  IsCalled c result Over new = (result ≡ Err error.NotThis) × (new ≡ Over)

  -- bytes come to it
  abbrev pub IsTaken : List ℕ → Result ℤ ActorError → (old new : Actor D) → Type 0
  IsTaken bytes result (Node n) new = (m : HostNode) × (new ≡ Node m) × (m.last ≡ n.last)
      × NodeDoes (Meets (cases.on_bytes n.node.on.job (own_candidate n.node.on.posts) bytes n.node.on.node)) result n.node m.node
  IsTaken bytes result (House h) new = (k : HostHouse D) × (new ≡ House k) × HouseIsTaken bytes result h k
  IsTaken bytes result Over new = (result ≡ Err error.NotThis) × (new ≡ Over)

abbrev pub HouseIsGiven : {D : Type 0} → Result ℤ ActorError → (buffer given : List ℕ) → (old new : HostHouse D) → Type 0
HouseIsGiven result buffer given old new = (new.house.on ≡ old.house.on)
    × (((result ≡ Err error.Unsent) × (given ≡ buffer) × (new.house.waits ≡ old.house.waits)) ⊎ IsPacket result buffer given old.house.waits new.house.waits)

abbrev pub IsHanded : {D : Type 0} → Result ℤ ActorError → (buffer given : List ℕ) → (old new : Actor D) → Type 0
IsHanded result buffer given (Node n) new = (m : HostNode) × (new ≡ Node m) × (m.last ≡ n.last) × (m.node.on ≡ n.node.on) × IsPacket result buffer given n.node.waits m.node.waits
IsHanded {D} result buffer given (House h) new = (k : HostHouse D) × (new ≡ House k) × HouseIsGiven result buffer given h k
IsHanded result buffer given Over new = (result ≡ Err error.NotThis) × (given ≡ buffer) × (new ≡ Over)

-- what is to be done to a clearinghouse's file is handed to the host, which changes nothing else
abbrev pub IsFileHanded : {D : Type 0} → (old new : Actor D) → Type 0
IsFileHanded {D} (House h) new = (k : HostHouse D) × (new ≡ House k) × (k.house ≡ h.house)
IsFileHanded other new = new ≡ other

-- no other actor has a file
abbrev pub HasFile : {D : Type 0} → Actor D → Result ℤ ActorError → Type 0
HasFile (House h) result = Unit {0}
HasFile other result = result ≡ Err error.NotThis
