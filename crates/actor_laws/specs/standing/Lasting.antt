-- Who goes on is live by its own roster, and a leaver that holds something has a live heir.
use Rattle.std.specs.Prelude.{◌≡◌, ◌⊎◌, ℕ, true, None}
use Rattle.ids.specs.Members.{is_live}
use Rattle.codec.specs.declared.body.Roster.{Roster}
use Rattle.node_state.specs.Node.{NodeOf}
use Rattle.node_state.specs.declared.parts.State.{State}
use Rattle.node_state.specs.declared.parts.State.TheVariants.{Joining, Member, Leaving, Ended}
use Rattle.node_steps.specs.Moves.{is_empty}
use Rattle.node_steps.specs.Steps.{Answer, Ignored, Refused, Does, Forgets}

pub record LeaverLasts (n : NodeOf) (r : Roster) (heir : ℕ) : Type 0 where
  pub own : is_live n.incarnation r.members ≡ true
  pub idle : n.asker.pending ≡ None
  pub heirs : (is_empty n.subs ≡ true) ⊎ (is_live heir r.members ≡ true)

-- and one that has ended has no request that is pending
abbrev pub LastsAt : NodeOf → State → Type 0
LastsAt n Joining = Unit {0}
LastsAt n (Member r) = is_live n.incarnation r.members ≡ true
LastsAt n (Leaving r heir) = LeaverLasts n r heir
LastsAt n Ended = n.asker.pending ≡ None

abbrev pub NodeLasts : NodeOf → Type 0
NodeLasts n = LastsAt n n.state

-- so it is behind an answer
abbrev pub AnswerLasts : Answer → Type 0
AnswerLasts Ignored = Unit {0}
AnswerLasts (Refused e) = Unit {0}
AnswerLasts (Does s) = NodeLasts s.after
AnswerLasts (Forgets n) = NodeLasts n
