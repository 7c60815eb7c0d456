-- A step of a worker, as moves.
use Rattle.std.specs.Prelude.{◌≡◌, ◌⊎◌, ℕ, List, [], ◌∷◌}
use Rattle.codec.specs.Table.{PacketOf}
use Rattle.codec.specs.declared.body.Body.{Body}
use Rattle.codec.specs.declared.body.Body.TheVariants as body
use Rattle.node_state.specs.Node.{NodeOf}
use Rattle.node_steps.specs.Steps.{StepOf, Answer, Ignored, Refused, Does, Forgets}
use Rattle.node_steps.specs.declared.parts.Fill.{Fill}
use Rattle.table_laws.specs.Tables.{◌∈◌}
use Rattle.table_laws.specs.Content as tables
use Rattle.table_laws.specs.View.{Transfer, View}
use Rattle.table_laws.specs.Meaning.{Meaning}
use Rattle.content_laws.specs.Shown.{task_of}
use Rattle.move_laws.specs.Beside.{MovedBy}
use Rattle.actor_laws.specs.node_moves.Shows.{PacketShown, NodeShown}

abbrev pub AllShown : View → List PacketOf → Type 0
AllShown v packets = (p : PacketOf) → p ∈ packets → PacketShown v p

-- a transfer went in one of these packets of a job
abbrev pub Carries : Transfer → Body → Type 0
Carries t (body.Grant b) = (b.grant ≡ t.grant) × (b.seq ≡ t.seq) × (t.hop ≡ 0) × (task_of b.task ≡ t.content.task)
Carries t (body.Offer b) = (b.grant ≡ t.grant) × (b.hop ≡ t.hop)
Carries t other = ⊥

pub record IsSent (job : ℕ) (packets : List PacketOf) (t : Transfer) : Type 0 where
  pub packet : PacketOf
  pub there : packet ∈ packets
  pub job_is : packet.job ≡ job
  pub to : packet.to ≡ t.to
  pub carries : Carries t packet.body

-- fills, the first one first, before those that tables have
abbrev pub shown_fill : Fill → tables.Fill
shown_fill f = record { grant = f.grant; frame = f.frame; slot = f.slot; place = f.place; value = f.value }

abbrev pub shown_fills : List Fill → List tables.Fill → List tables.Fill
shown_fills [] before = before
shown_fills (f ∷ fills) before = shown_fills fills (shown_fill f ∷ before)

-- a step of a node is shown by moves of it
pub record StepShown (m : Meaning) (job : ℕ) (v : View) (n : NodeOf) (s : StepOf) : Type 0 where
  pub view : View
  pub way : MovedBy m n.incarnation v view
  pub name : s.after.incarnation ≡ n.incarnation
  pub node : NodeShown view s.after
  pub sent : AllShown view s.sent
  pub transfers : (t : Transfer) → t ∈ view.transfers → (t ∈ v.transfers) ⊎ IsSent job s.sent t
  pub fills : view.fills ≡ shown_fills s.fills v.fills

-- an answer changes nothing, or is a step that is shown, or leaves a node that the same tables show
abbrev pub AnswerShown : Meaning → ℕ → View → NodeOf → Answer → Type 0
AnswerShown m job v n Ignored = Unit {0}
AnswerShown m job v n (Refused e) = Unit {0}
AnswerShown m job v n (Does s) = StepShown m job v n s
AnswerShown m job v n (Forgets k) = NodeShown v k × (k.incarnation ≡ n.incarnation)
