-- Which ready frame a thief is granted. The protocol lets it be any; a node takes the newest of the
-- least level.
use Rattle.std.specs.Prelude.{◌≡◌, ℕ, List, Option, None, Some, IsSome}
use Rattle.ids.specs.Names.{Grant}
use Rattle.level_deques.specs.declared.posts.Post.{Post}
use Rattle.level_deques.specs.Posts.{shallowest}
use Rattle.node_state.specs.Node.{NodeOf}
use Rattle.node_state.specs.Posts.{ready_at}
use Rattle.node_steps.specs.Cases.{Candidate}

-- a frame that may be granted: one that is ready, and none only where none is
abbrev pub IsCandidate : NodeOf → Option Candidate → Type 0
IsCandidate n None = (g : Grant) (f : ℕ) → ready_at n g f ≡ None
IsCandidate n (Some c) = IsSome (ready_at n c.grant c.frame)

abbrev pub candidate_of : Option Post → Option Candidate
candidate_of None = None
candidate_of (Some p) = Some (record { grant = p.grant; frame = p.frame })

-- what a node with these posts chooses
abbrev pub own_candidate : List Post → Option Candidate
own_candidate posts = candidate_of (shallowest posts)
