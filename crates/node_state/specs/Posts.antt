-- The ready frames of a node, in the order in which they are posted. Those of the same level stand
-- together, the newest last.
use Rattle.std.specs.Prelude.{ℕ, Bool, List, [], ◌∷◌, Option, Some, is_some}
use Rattle.std.specs.List.{filter}
use Rattle.ids.specs.Names.{Grant}
use Rattle.ids.specs.Options.{◌>>=◌}
use Rattle.level_deques.specs.declared.posts.Post.{Post}
use Rattle.level_deques.specs.Posts.{posted}
use Rattle.sub_rules.specs.Content.{Ready, ready_in}
use Rattle.subcomputation.specs.Subs.{SubOf, sub_in}
use Rattle.subcomputation.specs.declared.sub.ReadiedOf.{ReadiedOf}
use Rattle.node_state.specs.Node.{NodeOf, by_state}

-- the subcomputations of a node that aren't frozen
abbrev pub live_subs : NodeOf → List SubOf
live_subs n = by_state n.state [] (λ r. n.subs) (λ r heir. []) []

-- a ready frame, in its subcomputation
pub record ReadyFrame : Type 0 where
  pub sub : SubOf
  pub ready : Ready

-- the ready frame of a subcomputation that may be there
abbrev pub ready_of_sub : ℕ → Option SubOf → Option ReadyFrame
ready_of_sub f sub = do
  s ← sub
  r ← ready_in f s.content
  Some (record { sub = s; ready = r })

-- the ready frame of a grant's subcomputation, where that isn't frozen
abbrev pub ready_at : NodeOf → Grant → ℕ → Option ReadyFrame
ready_at n g f = ready_of_sub f (sub_in g (live_subs n))

-- the post of a ready frame
abbrev pub post_of : ReadiedOf → Post
post_of r = record { level = r.frame.level; grant = r.grant; frame = r.frame.frame }

-- frames that became ready are posted, in their order
abbrev pub posted_all : List ReadiedOf → List Post → List Post
posted_all [] posts = posts
posted_all (r ∷ rs) posts = posted_all rs (posted (post_of r) posts)

-- whether what a post names is ready
abbrev pub is_ready_post : NodeOf → Post → Bool
is_ready_post n p = is_some (ready_at n p.grant p.frame)

-- the posts of a node after a step: what became ready stands behind the others of its level, and
-- what is ready no more goes
abbrev pub posts_after : NodeOf → List ReadiedOf → List Post → List Post
posts_after after became posts = filter (is_ready_post after) (posted_all became posts)
