-- Calls of actors.
use Rattle.std.specs.Prelude.{◌≡◌, ◌<◌, ◌≤◌, ◌∷◌, [], ℕ, Bool, List, Option, None, Some, Result, Ok, Err, IsErrOf, length, reverse}
use Rattle.std.specs.List.{splice}
use Rattle.codec.specs.Table.{PacketOf, Spells}
use Rattle.clearinghouse.specs.Errors.{error_of_stop}
use Rattle.clearinghouse.specs.House.{Stopped}
use Rattle.clearinghouse.specs.Meeting.{HouseOn}
use Rattle.clearinghouse.specs.declared.error.HouseError.{HouseError}
use Rattle.clearinghouse.specs.declared.parts.HouseStep.{HouseStep}
use Rattle.clearinghouse.specs.declared.parts.Stop.{Stop}
use Rattle.node_steps.specs.Calls as calls
use Rattle.node_steps.specs.Meeting.{Meets, NodeOn}
use Rattle.node_steps.specs.Steps.{Answer}
use Rattle.node_steps.specs.declared.error.NodeError.{NodeError}
use Rattle.node_steps.specs.declared.error.NodeError.TheVariants.{Memory}
use Rattle.node_steps.specs.declared.parts.Step.{Step}
use Rattle.node_steps.specs.Ready.{work_at}
use Rattle.node_steps.specs.declared.work.Work.{Work}
use Rattle.ids.specs.Names.{Grant}
use Rattle.node_state.specs.Node.{NodeOf}
use Rattle.serial_meaning.specs.Job.{JobOf}
use Rattle.actors.specs.declared.node_actor.Worked.{Worked}
use Rattle.actors.specs.declared.error.HouseCallError.{HouseCallError}
use Rattle.actors.specs.declared.error.HouseCallError.TheVariants.{House}
use Rattle.actors.specs.declared.error.NodeCallError.{NodeCallError}
use Rattle.actors.specs.declared.error.NodeCallError.TheVariants.{Node}

-- packets in their order: one, if it was taken from among them, and others, the first of which
-- stands last
abbrev pub waiting : Option PacketOf → List PacketOf → List PacketOf
waiting None turned = reverse turned
waiting (Some p) turned = p ∷ reverse turned

-- the first packet that waits is given as bytes, where there is room for them, and waits no longer;
-- and how many these are
abbrev pub IsGiven : (count : ℕ) → (buffer given : List ℕ) → (old new : List PacketOf) → Type 0
IsGiven count buffer given [] new = (count ≡ 0) × (given ≡ buffer) × (new ≡ [])
IsGiven count buffer given (p ∷ ps) new = (bytes : List ℕ) × Spells bytes p × (count ≡ length bytes)
    × (length buffer < count → (given ≡ buffer) × (new ≡ p ∷ ps))
    × (count ≤ length buffer → (given ≡ splice buffer 0 count bytes) × (new ≡ ps))

-- a node, and the packets that wait for its host
pub record NodeActorOf : Type 0 where
  pub on : NodeOn
  pub waits : List PacketOf

-- how a ready frame is carried out: by its own turn, or by its task's whole value, which is found
-- in so many turns
abbrev pub carried : JobOf → Grant → ℕ → Option ℕ → NodeOf → Answer
carried job g f None n = calls.exec_ready job g f n
carried job g f (Some turns) n = calls.whole_ready job turns g f n

-- a call of a node by one case: what it sends waits. A refusal changes nothing
abbrev pub Did : Answer → Result Bool NodeCallError → (old new : NodeActorOf) → Type 0
Did expected (Ok ignored) old new = (step : Step) × Meets expected (Ok step) old.on new.on × (new.waits ≡ step.sent)
Did expected (Err e) old new = new ≡ old

-- the same of a frame that is carried out, with in how many turns its task's whole value was found,
-- if it was
abbrev pub IsCarried : Grant → ℕ → Result (Option ℕ) NodeCallError → (old new : NodeActorOf) → Type 0
IsCarried g f (Ok turns) old new = (step : Step) × Meets (carried old.on.job g f turns old.on.node) (Ok step) old.on new.on × (new.waits ≡ step.sent)
IsCarried g f (Err e) old new = new ≡ old

-- a node carries out the ready frame that comes first, if there is one. A refusal changes nothing
abbrev pub IsWorked : Result (Option Worked) NodeCallError → (old new : NodeActorOf) → Type 0
IsWorked (Ok None) old new = (work_at old.on.node old.on.posts 0 ≡ None) × (new ≡ old)
IsWorked (Ok (Some w)) old new = (work : Work) × (work_at old.on.node old.on.posts 0 ≡ Some work)
    × (w.minter ≡ work.grant.minter) × (w.number ≡ work.grant.number) × (w.frame ≡ work.frame)
    × (step : Step) × Meets (carried old.on.job work.grant work.frame w.turns old.on.node) (Ok step) old.on new.on × (new.waits ≡ step.sent)
IsWorked (Err e) old new = new ≡ old

-- what is told of what a node answers: whether it ignored a packet, or why it refuses; and what
-- waits then
abbrev pub NodeTells : Result Step NodeError → Result Bool NodeCallError → (before after : List PacketOf) → Type 0
NodeTells (Ok step) result before after = (result ≡ Ok step.ignored) × (after ≡ step.sent)
NodeTells (Err e) result before after = (result ≡ Err (Node e)) × (after ≡ before)

-- what a node answers meets a case, and being out of memory comes only where it may
abbrev pub MeetsUnless : Answer → (Answer → Type 0) → Result Step NodeError → NodeOn → NodeOn → Type 0
MeetsUnless expected may_lack r old new = Meets expected r old new × (IsErrOf r Memory → may_lack expected)

-- what a node answers meets a case, and so is told
abbrev pub NodeCalled : (Result Step NodeError → NodeOn → NodeOn → Type 0) → Result Bool NodeCallError → (old new : NodeActorOf) → Type 0
NodeCalled meets result old new = (r : Result Step NodeError) × meets r old.on new.on × NodeTells r result old.waits new.waits

-- a clearinghouse over a disk, and the packets that wait for its host
pub record HouseActorOf (D : Type 0) : Type 0 where
  pub on : HouseOn D
  pub waits : List PacketOf

-- what a clearinghouse answers meets a case, and one that is stopped answers why, and stays as it
-- is
abbrev pub MeetsStopped : {D : Type 0} → (Result HouseStep HouseError → HouseOn D → HouseOn D → Type 0) → Result HouseStep HouseError → HouseOn D → HouseOn D → Type 0
MeetsStopped meets r old new = meets r old new × ((s : Stop) → old.state ≡ Stopped s → IsErrOf r (error_of_stop s) × (new ≡ old))

abbrev pub HouseTells : Result HouseStep HouseError → Result Bool HouseCallError → (before after : List PacketOf) → Type 0
HouseTells (Ok step) result before after = (result ≡ Ok step.ignored) × (after ≡ step.sent)
HouseTells (Err e) result before after = (result ≡ Err (House e)) × (after ≡ before)

abbrev pub HouseCalled : {D : Type 0} → (Result HouseStep HouseError → HouseOn D → HouseOn D → Type 0) → Result Bool HouseCallError → (old new : HouseActorOf D) → Type 0
HouseCalled meets result old new = (r : Result HouseStep HouseError) × meets r old.on new.on × HouseTells r result old.waits new.waits
