-- A worker that starts anew, and does all of a job alone.
use Rattle.std.specs.Prelude.{◌≡◌, ◌+◌, ◌<◌, ◌^◌, ℕ, true, List, [], ◌∷◌, length, Option, None, Some}
use Rattle.ids.specs.Named.{item_in}
use Rattle.steal_protocol.specs.Replies.{reply_in}
use Rattle.serial_meaning.specs.Job.{JobOf}
use Rattle.serial_meaning.specs.Places.{Call, room, root}
use Rattle.serial_meaning.specs.Serial.{serial_turns}
use Rattle.clearinghouse.specs.House.{HouseOf, name_of, name_of_enlisted}
use Rattle.event_script.specs.declared.event.Asked.TheVariants as asked
use Rattle.event_script.specs.declared.event.Event.{Event}
use Rattle.event_script.specs.declared.event.Event.TheVariants.{Start, AtNode, AtHouse}
use Rattle.event_script.specs.declared.event.HouseEvent.TheVariants as at_house
use Rattle.event_script.specs.declared.event.NodeEvent.TheVariants.{Deliver, Whole, Ask}
use Rattle.world_steps.specs.Answers.{StepResult}
use Rattle.world_steps.specs.Nodes.{can_start}
use Rattle.world_steps.specs.Steps.{CarriedOut}
use Rattle.world_steps.specs.World.{WorldOf, open_house}

-- events are carried out one after another, whatever each of them leads to, and lead from a world
-- to a last one
abbrev pub AllCarriedOut : JobOf → List Event → WorldOf → WorldOf → Type 0
AllCarriedOut job [] w last = last ≡ w
AllCarriedOut job (e ∷ es) w last = (o : StepResult) × CarriedOut job e w o × AllCarriedOut job es o.world last

-- the root isn't granted, there is no outcome, and a number for a grant and a commit are left
pub record CanFinish (h : HouseOf) : Type 0 where
  pub root : h.root ≡ None
  pub outcome : h.outcome ≡ None
  pub grant : h.minted + 1 < 2 ^ 64
  pub commit : h.sequence + 1 < 2 ^ 64

-- a node can start at a place with a word that the clearinghouse doesn't list and never answered,
-- and one more can be listed
pub record CanCome (w : WorldOf) (h : HouseOf) (a word : ℕ) : Type 0 where
  pub starts : can_start a word w ≡ true
  pub unlisted : item_in name_of_enlisted (word, 0) h.workers ≡ None
  pub unanswered : reply_in word h.replies ≡ None
  pub room : length h.workers < 4096

-- so it is in a world
pub record IsReady (w : WorldOf) (a word : ℕ) : Type 0 where
  pub house : HouseOf
  pub open_now : open_house w.house ≡ Some house
  pub finishes : CanFinish house
  pub comes : CanCome w house a word

-- how many turns the evaluation of a job takes
abbrev pub turns_by : JobOf → Option Call → ℕ
turns_by job None = 0
turns_by job (Some call) = serial_turns job.program (room []) call.thread call.numbers

abbrev pub turns_of : JobOf → ℕ
turns_of job = turns_by job (root job.program job.input)

-- the newcomer starts at place a; its Join and then the roster are delivered; it asks the
-- clearinghouse, and its Steal and then the Grant are delivered; it carries out the root's task by
-- its whole value, in at most so many turns, and its Result is delivered. Packets are numbered as
-- they are sent
abbrev pub newcomers : (a word most : ℕ) → HouseOf → WorldOf → List Event
newcomers a word most h w =
    Start a word
    ∷ AtHouse (at_house.Deliver (length w.net))
    ∷ AtNode a (Deliver (length w.net + 1))
    ∷ AtNode a (Ask asked.House)
    ∷ AtHouse (at_house.Deliver (length w.net + 2))
    ∷ AtNode a (Deliver (length w.net + 3))
    ∷ AtNode a (Whole (record { minter = name_of h; number = h.minted + 1; frame = 0 }) most)
    ∷ AtHouse (at_house.Deliver (length w.net + 4))
    ∷ []
