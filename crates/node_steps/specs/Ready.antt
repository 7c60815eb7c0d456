-- A ready frame, as work.
use Rattle.std.specs.Prelude.{ℕ, List, Option, Some, slice_get}
use Rattle.ids.specs.Names.{Grant}
use Rattle.ids.specs.Options.{◌>>=◌}
use Rattle.level_deques.specs.Posts.{by_depth}
use Rattle.level_deques.specs.declared.posts.Post.{Post}
use Rattle.serial_meaning.specs.Places.{room}
use Rattle.sub_rules.specs.Content.{Ready, ready_in}
use Rattle.sub_rules.specs.declared.content.Content.{Content}
use Rattle.node_state.specs.Node.{NodeOf}
use Rattle.node_state.specs.Posts.{ReadyFrame, ready_at}
use Rattle.node_steps.specs.declared.work.Work.{Work}

-- a ready frame, as work: the thread that is to run, the numbers that it takes, and how many places
-- can be below its own
abbrev pub work_with : Grant → Ready → Work
work_with g r = record { grant = g; frame = r.frame.number; thread = r.frame.thread; numbers = r.numbers; room = room r.frame.place }

-- that of a frame of a content, where it is ready
abbrev pub work_in : Grant → ℕ → Content → Option Work
work_in g f c = do
  r ← ready_in f c
  Some (work_with g r)

abbrev pub work_of : Grant → ReadyFrame → Work
work_of g f = work_with g f.ready

-- the work of the post that comes after so many others, from the deepest level on and in a level
-- the newest first
abbrev pub work_at : NodeOf → List Post → ℕ → Option Work
work_at n posts i = do
  post ← slice_get (by_depth posts) i
  f ← ready_at n post.grant post.frame
  Some (work_of post.grant f)
