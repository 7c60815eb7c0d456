-- What nodes, the clearinghouse and packets have agrees with the serial meaning, by value.
use Rattle.std.specs.Prelude.{◌≡◌, ◌+◌, IsTrue, List, [], None, Some}
use Rattle.std.specs.List.{AllByRecursion}
use Rattle.ids.specs.Names.{Grant}
use Rattle.ids.specs.declared.work.Record.{Record}
use Rattle.codec.specs.Table.{PacketOf}
use Rattle.codec.specs.declared.body.Body.{Body}
use Rattle.codec.specs.declared.body.Body.TheVariants as body
use Rattle.codec.specs.declared.body.TaskResult.{TaskResult}
use Rattle.serial_meaning.specs.Job.{JobOf}
use Rattle.serial_meaning.specs.Places.{outcome_at}
use Rattle.victim_records.specs.Records.{record_in}
use Rattle.sub_rules.specs.declared.change.Filling.{Filling}
use Rattle.sub_rules.specs.declared.content.Content.{Content}
use Rattle.agreement_laws.specs.Agreement.{AllSavedAgree, ContentAgrees, IsReceived, IsSavedOf, TaskAgrees}
use Rattle.departure.specs.Offers.{offered}
use Rattle.saved_values.specs.Places.{is_under}
use Rattle.saved_values.specs.declared.value.SavedValue.{SavedValue}
use Rattle.steal_protocol.specs.declared.replies.Reply.{Reply}
use Rattle.subcomputation.specs.Subs.{SubOf}
use Rattle.node_state.specs.Node.{NodeOf}
use Rattle.node_steps.specs.Cases.{saved_fit}
use Rattle.node_steps.specs.Steps.{StepOf, Answer, Ignored, Refused, Does, Forgets}
use Rattle.node_steps.specs.declared.parts.Fill.{Fill}
use Rattle.clearinghouse.specs.House.{HouseOf}
use Rattle.clearinghouse.specs.Steps as house
use Rattle.table_laws.specs.Tables.{◌∈◌}
use Rattle.content_laws.specs.Moved.{IsKept}

-- a content agrees, and is kept as its holder keeps it
pub record IsRight (job : JobOf) (c : Content) : Type 0 where
  pub agrees : ContentAgrees job c
  pub kept : IsKept c

-- what a packet gives away agrees: the task of a Grant and its saved values, which are of places
-- below it; what an Offer hands on; and the value of a Save. Of a Result nothing is asked here. No
-- whole packet is a Piece
abbrev pub BodyIsRight : JobOf → Body → Type 0
BodyIsRight job (body.Grant b) = TaskAgrees job b.task × AllSavedAgree job b.saved × IsTrue (saved_fit b.task b.saved)
BodyIsRight job (body.Offer b) = IsRight job (offered b).content
BodyIsRight job (body.Save b) = IsSavedOf job (record { place = b.place; value = b.value })
BodyIsRight job (body.Piece b) = ⊥
BodyIsRight job other = Unit {0}

abbrev pub AllRight : JobOf → List PacketOf → Type 0
AllRight job packets = (p : PacketOf) → p ∈ packets → BodyIsRight job p.body

-- the last answers to thieves agree
abbrev pub RepliesAreRight : JobOf → List Reply → Type 0
RepliesAreRight job replies = (r : Reply) → r ∈ replies → BodyIsRight job r.packet.body

-- a subcomputation agrees: its content, and the values that came with its task
pub record SubIsRight (job : JobOf) (s : SubOf) : Type 0 where
  pub content : IsRight job s.content
  pub saved : AllSavedAgree job s.saved

-- what a node holds agrees, and what it may send again
pub record NodeIsRight (job : JobOf) (n : NodeOf) : Type 0 where
  pub subs : (s : SubOf) → s ∈ n.subs → SubIsRight job s
  pub replies : RepliesAreRight job n.replies

-- a Result tells the outcome of the task of each record that the node has of its grant
abbrev pub IsOutcomeAt : JobOf → NodeOf → TaskResult → Type 0
IsOutcomeAt job n b = (s : SubOf) (r : Record) → s ∈ n.subs → record_in b.grant s.content.records ≡ Some r → b.outcome ≡ outcome_at job.program job.input r.task.place

abbrev pub BodyMayCome : JobOf → NodeOf → Body → Type 0
BodyMayCome job n (body.Result b) = IsOutcomeAt job n b
BodyMayCome job n other = BodyIsRight job other

-- the next grant that a node mints, of which nothing that it holds has a record
abbrev pub next_grant : NodeOf → Grant
next_grant n = record { minter = n.incarnation; number = n.minted + 1 }

abbrev pub NextGrantIsFresh : NodeOf → Type 0
NextGrantIsFresh n = (s : SubOf) → s ∈ n.subs → record_in (next_grant n) s.content.records ≡ None

-- a value that came to a slot
abbrev pub filling_of : Fill → Filling
filling_of f = record { frame = f.frame; slot = f.slot; place = f.place; value = f.value }

-- a step of a node after which all agrees, what it sends and what it puts into slots included
pub record StepIsRight (job : JobOf) (s : StepOf) : Type 0 where
  pub after : NodeIsRight job s.after
  pub sent : AllRight job s.sent
  pub fills : (f : Fill) → f ∈ s.fills → IsReceived job (filling_of f)

abbrev pub AnswerIsRight : JobOf → Answer → Type 0
AnswerIsRight job Ignored = Unit {0}
AnswerIsRight job (Refused e) = Unit {0}
AnswerIsRight job (Does s) = StepIsRight job s
AnswerIsRight job (Forgets n) = NodeIsRight job n

-- values of places below the root's
abbrev pub AreBelowRoot : List SavedValue → Type 0
AreBelowRoot saved = AllByRecursion (λ x. IsTrue (is_under [] x.place)) saved

-- the same of the clearinghouse, which holds its last answers, and the values that are saved
abbrev pub HouseIsRight : JobOf → HouseOf → Type 0
HouseIsRight job h = RepliesAreRight job h.replies × AllSavedAgree job h.saved × AreBelowRoot h.saved

-- what a packet says of a value that may be saved agrees
abbrev pub SaveIsRight : JobOf → Body → Type 0
SaveIsRight job (body.Save b) = IsSavedOf job (record { place = b.place; value = b.value })
SaveIsRight job other = Unit {0}

pub record HouseStepIsRight (job : JobOf) (s : house.HouseStepOf) : Type 0 where
  pub after : HouseIsRight job s.after
  pub sent : AllRight job s.sent

abbrev pub HouseAnswerIsRight : JobOf → house.HouseAnswer → Type 0
HouseAnswerIsRight job house.Ignored = Unit {0}
HouseAnswerIsRight job (house.Refused e) = Unit {0}
HouseAnswerIsRight job (house.Does s) = HouseStepIsRight job s
