-- What is done with a packet that brings work, or the outcome of work, if it comes now.
use Rattle.std.specs.Prelude.{◌≡◌, ℕ, List, [], ◌∷◌, None, Some}
use Rattle.ids.specs.Names.{Grant}
use Rattle.ids.specs.declared.work.Record.{Record}
use Rattle.codec.specs.declared.body.Offer.{Offer}
use Rattle.codec.specs.declared.body.Roster.{Roster}
use Rattle.serial_meaning.specs.Job.{JobOf}
use Rattle.frames.specs.Frames.{frame_in}
use Rattle.victim_records.specs.Records.{record_in}
use Rattle.sub_rules.specs.declared.content.Content.{Content}
use Rattle.subcomputation.specs.Subs.{SubOf, sub_in}
use Rattle.node_state.specs.Assemblies.{AssemblyOf}
use Rattle.node_state.specs.Node.{NodeOf}
use Rattle.node_steps.specs.Cases.{member_offered}
use Rattle.node_steps.specs.declared.error.NodeError.TheVariants as error
use Rattle.node_steps.specs.Moves.{accepts, recovers}
use Rattle.node_steps.specs.Steps.{Answer, Ignored, Refused, Does, Forgets, ◌then◌}

-- a member takes an Offer: it holds what was offered and acknowledges it, and recovers that by its
-- present roster; whatever parts of Offers it keeps
abbrev pub TakesOffer : JobOf → Roster → Offer → NodeOf → Type 0
TakesOffer job r o n =
    (parts : List AssemblyOf)
    → member_offered job r o (record n { assemblies = parts }) ≡ Does (accepts job o (record n { assemblies = parts }) then recovers job r.members (o.grant ∷ []))

-- nothing of this has an open record of a grant
abbrev pub NoRecord : Grant → List SubOf → Type 0
NoRecord g subs = (k : Grant) (s : SubOf) → sub_in k subs ≡ Some s → record_in g s.content.records ≡ None

-- so it is behind an answer, which is a step
abbrev pub AnswerCloses : Grant → Answer → Type 0
AnswerCloses g Ignored = ⊥
AnswerCloses g (Refused e) = ⊥
AnswerCloses g (Does s) = NoRecord g s.after.subs
AnswerCloses g (Forgets n) = ⊥

-- no subcomputation of that grant has a frame of that number
abbrev pub NoFrame : Grant → ℕ → List SubOf → Type 0
NoFrame g f subs = (s : SubOf) → sub_in g subs ≡ Some s → frame_in f s.content.frames ≡ None

-- so it is behind an answer, or frame numbers are spent
abbrev pub AnswerCarries : Grant → ℕ → Answer → Type 0
AnswerCarries g f Ignored = ⊥
AnswerCarries g f (Refused e) = e ≡ error.Spent
AnswerCarries g f (Does s) = NoFrame g f s.after.subs
AnswerCarries g f (Forgets n) = ⊥

-- no record of what is offered to node i, which holds this, was minted there, nor is open there
pub record AreForeign (i : ℕ) (subs : List SubOf) (c : Content) : Type 0 where
  pub minter : (g : Grant) (r : Record) → record_in g c.records ≡ Some r → g.minter ≡ i → ⊥
  pub unrecorded : (g : Grant) (r : Record) → record_in g c.records ≡ Some r → NoRecord g subs
