-- One order of what many actors did: each actor's lines, all of them and in their order, and each
-- packet behind its sending.
use Rattle.std.specs.Prelude.{◌≡◌, ◌≢◌, ℕ, Bool, true, List, [], ◌∷◌, ◌++◌, map, Option, None, Some, slice_get, slice_set}
use Rattle.std.specs.List.{list_all}
use Rattle.event_script.specs.Words.{none_left}
use Rattle.event_script.specs.declared.event.Event.{Event}
use Rattle.event_script.specs.declared.event.Event.TheVariants.{Start, AtNode, Crash, AtHouse, HouseCrash, Cut}
use Rattle.event_script.specs.declared.event.HouseEvent.TheVariants as house
use Rattle.event_script.specs.declared.event.NodeEvent.{NodeEvent}
use Rattle.event_script.specs.declared.event.NodeEvent.TheVariants as node
use Rattle.traces.specs.declared.line.TraceLine.{TraceLine}
use Rattle.traces.specs.declared.line.TraceLine.TheVariants.{Sent, Took, Did}
use Rattle.traces.specs.declared.seat.Seat.{Seat}
use Rattle.traces.specs.declared.seat.Seat.TheVariants.{Place, House}

-- an actor: the lines of its trace that are left, and where it stands, once it has begun and until
-- it ends
pub record ActorOf : Type 0 where
  pub lines : List TraceLine
  pub stands : Option Seat

-- what was merged so far: the events in one order, and the names of the packets that were sent; and
-- the actors
pub record MergeOf : Type 0 where
  pub actors : List ActorOf
  pub events : List Event
  pub sent : List (List ℕ)

-- of the others nobody stands there who has a line left: who was there is gone, whether something
-- tells so or not
abbrev pub IsFree : Seat → ℕ → List ActorOf → Type 0
IsFree seat a actors = (b : ℕ) (other : ActorOf) → b ≢ a → slice_get actors b ≡ Some other → other.stands ≡ Some seat → other.lines ≡ []

-- the delivery of the packet after so many others to who stands there, and that who stands there is
-- gone
abbrev pub delivery : ℕ → Seat → Event
delivery k (Place p) = AtNode p (node.Deliver k)
delivery k House = AtHouse (house.Deliver k)

abbrev pub gone : Seat → Event
gone (Place p) = Crash p
gone House = HouseCrash

-- a packet comes that was sent before
pub record Takes (m : MergeOf) (name : List ℕ) (at then : Option Seat) (es : List Event) : Type 0 where
  pub number : ℕ
  pub sent : slice_get m.sent number ≡ Some name
  pub seat : Seat
  pub stands : at ≡ Some seat
  pub stays : then ≡ at
  pub is : es ≡ delivery number seat ∷ []

-- a node begins where nobody is any more, and so does the clearinghouse
pub record Starts (m : MergeOf) (a word : ℕ) (then : Option Seat) (es : List Event) : Type 0 where
  pub place : ℕ
  pub free : IsFree (Place place) a m.actors
  pub stands : then ≡ Some (Place place)
  pub is : es ≡ Crash place ∷ Start place word ∷ []

pub record Opens (m : MergeOf) (a : ℕ) (then : Option Seat) (es : List Event) : Type 0 where
  pub free : IsFree House a m.actors
  pub stands : then ≡ Some House
  pub is : es ≡ HouseCrash ∷ AtHouse house.Restart ∷ []

-- who stands there is let go
pub record Ends (at then : Option Seat) (es : List Event) : Type 0 where
  pub seat : Seat
  pub stands : at ≡ Some seat
  pub none : then ≡ None
  pub is : es ≡ gone seat ∷ []

-- a node does something of its own
pub record Does (e : NodeEvent) (at then : Option Seat) (es : List Event) : Type 0 where
  pub place : ℕ
  pub stands : at ≡ Some (Place place)
  pub stays : then ≡ at
  pub is : es ≡ AtNode place e ∷ []

-- a moment comes to the clearinghouse
pub record Passes (moment : ℕ) (at then : Option Seat) (es : List Event) : Type 0 where
  pub stands : at ≡ Some House
  pub stays : then ≡ at
  pub is : es ≡ AtHouse (house.Tick moment) ∷ []

-- what a line of actor a comes to, that stands there: where it stands then, and the events. In a
-- trace the place of an event tells nothing, and a delivery is told by the packet's name alone
abbrev pub Comes : MergeOf → ℕ → TraceLine → (at then : Option Seat) → List Event → Type 0
Comes m a (Sent name) at then es = (then ≡ at) × (es ≡ [])
Comes m a (Took name) at then es = Takes m name at then es
Comes m a (Did (Start p word)) at then es = Starts m a word then es
Comes m a (Did (Crash p)) at then es = Ends at then es
Comes m a (Did HouseCrash) at then es = Ends at then es
Comes m a (Did (AtHouse house.Restart)) at then es = Opens m a then es
Comes m a (Did (AtHouse (house.Tick moment))) at then es = Passes moment at then es
Comes m a (Did (AtHouse (house.Deliver k))) at then es = ⊥
Comes m a (Did (AtNode p (node.Deliver k))) at then es = ⊥
Comes m a (Did (AtNode p node.Resend)) at then es = Does node.Resend at then es
Comes m a (Did (AtNode p (node.Exec f))) at then es = Does (node.Exec f) at then es
Comes m a (Did (AtNode p (node.Whole f t))) at then es = Does (node.Whole f t) at then es
Comes m a (Did (AtNode p (node.Ask v))) at then es = Does (node.Ask v) at then es
Comes m a (Did (AtNode p (node.Depart h))) at then es = Does (node.Depart h) at then es
Comes m a (Did (Cut c)) at then es = ⊥

abbrev pub name_sent : TraceLine → List (List ℕ)
name_sent (Sent name) = name ∷ []
name_sent (Took name) = []
name_sent (Did e) = []

-- actor a goes on by its next line
pub record Moves (a : ℕ) (m after : MergeOf) : Type 0 where
  pub line : TraceLine
  pub rest : List TraceLine
  pub at : Option Seat
  pub then : Option Seat
  pub new : List Event
  pub next : slice_get m.actors a ≡ Some (record { lines = line ∷ rest; stands = at })
  pub comes : Comes m a line at then new
  pub actors : after.actors ≡ slice_set m.actors a (record { lines = rest; stands = then })
  pub events : after.events ≡ m.events ++ new
  pub sent : after.sent ≡ m.sent ++ name_sent line

-- one after another they go on
pub data Leads : MergeOf → MergeOf → Type 0 where
  stays : {m : MergeOf} → Leads m m
  goes : {m n o : MergeOf} {a : ℕ} → Leads m n → Moves a n o → Leads m o

-- at first nobody has begun
abbrev pub at_first : List TraceLine → ActorOf
at_first trace = record { lines = trace; stands = None }

abbrev pub begun : List (List TraceLine) → MergeOf
begun traces = record { actors = map at_first traces; events = []; sent = [] }

-- no line is left
abbrev pub all_taken : List ActorOf → Bool
all_taken actors = list_all (λ actor. none_left actor.lines) actors

-- one order of traces: their actors go on, each by its next line, until no line is left
pub record IsMerge (traces : List (List TraceLine)) (es : List Event) (names : List (List ℕ)) : Type 0 where
  pub end : MergeOf
  pub led : Leads (begun traces) end
  pub all : all_taken end.actors ≡ true
  pub events : es ≡ end.events
  pub sent : names ≡ end.sent
