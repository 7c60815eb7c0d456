-- A run on one node: a subcomputation of the root task alone. A turn runs the newest ready frame of
-- the greatest level.
use Rattle.std.specs.Prelude.{ℕ, zero, suc, List, [], ◌∷◌, Option, Some}
use Rattle.ids.specs.Names.{Grant, house_of}
use Rattle.ids.specs.Options.{◌>>=◌}
use Rattle.ids.specs.declared.work.Task.{Task}
use Rattle.task_tree.specs.declared.tree.Program.{Program}
use Rattle.kind_check.specs.declared.turn.Turn.{Turn}
use Rattle.kind_check.specs.Turns.{turn_of}
use Rattle.serial_meaning.specs.Job.{JobOf}
use Rattle.serial_meaning.specs.Places.{root}
use Rattle.level_deques.specs.declared.posts.Post.{Post}
use Rattle.level_deques.specs.Posts.{deepest, posted, withdrawn}
use Rattle.sub_rules.specs.declared.change.ContentChange.{ContentChange}
use Rattle.sub_rules.specs.declared.change.Readied.{Readied}
use Rattle.sub_rules.specs.declared.content.Content.{Content}
use Rattle.sub_rules.specs.Content.{Ready, first_frame, granted_content, ready_in}
use Rattle.sub_rules.specs.Changes.{readied, turned}
use Rattle.one_node.specs.declared.begin.Run.{Run}

-- what a run holds, and its ready frames, in the order of their posting
pub record RunOf : Type 0 where
  pub content : Content
  pub posts : List Post

abbrev pub run_of : Run → RunOf
run_of run = record { content = run.content; posts = run.posts }

-- the name under which they are posted
abbrev pub own_grant : Grant
own_grant = record { minter = house_of 1; number = 1 }

abbrev pub post_of : Readied → Post
post_of r = record { level = r.level; grant = own_grant; frame = r.frame }

-- frames that became ready are posted one after the other
abbrev pub posted_readied : List Readied → List Post → List Post
posted_readied [] posts = posts
posted_readied (r ∷ rs) posts = posted_readied rs (posted (post_of r) posts)

-- the run of a task before its first turn
abbrev pub begun : Task → RunOf
begun task = record { content = granted_content (house_of 1) task; posts = post_of (readied (first_frame task)) ∷ [] }

-- the root task of a job: thread `main` on the input
abbrev pub root_task : JobOf → Option Task
root_task job = do
  call ← root job.program job.input
  Some (record { place = []; thread = call.thread; numbers = call.numbers })

abbrev pub start_of : JobOf → Option RunOf
start_of job = do
  task ← root_task job
  Some (begun task)

-- the frame that runs next, if one is ready
abbrev pub frame_to_run : RunOf → Option Ready
frame_to_run run = do
  post ← deepest run.posts
  ready_in post.frame run.content

-- a run after the change that a frame's turn makes: the frame is posted no longer, and those that
-- became ready are
abbrev pub with_change : ℕ → ContentChange → RunOf → RunOf
with_change n change run = record { content = change.after; posts = posted_readied change.ready (withdrawn own_grant n run.posts) }

-- a run after the turn of a frame
abbrev pub next_of : RunOf → Ready → Turn → RunOf
next_of run r turn = with_change r.frame.number (turned r.frame turn run.content) run

-- one turn; none where no frame is ready
abbrev pub one_turn : Program → RunOf → Option RunOf
one_turn p run = do
  r ← frame_to_run run
  turn ← turn_of p r.frame.thread r.numbers
  Some (next_of run r turn)

-- the run of a job after so many turns, each of which was taken
abbrev pub after : JobOf → ℕ → Option RunOf
after job zero = start_of job
after job (suc n) = do
  run ← after job n
  one_turn job.program run
