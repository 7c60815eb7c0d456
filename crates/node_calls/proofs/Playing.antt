-- Worked runs of one node, computed: what comes to it, call by call, and what all calls together
-- did.
use Rattle.std.specs.Prelude.{ℕ, pos, List, [], ◌∷◌}
use Rattle.ids.specs.Names.{Grant}
use Rattle.codec.specs.declared.body.Body.{Body}
use Rattle.level_deques.specs.declared.posts.Post.{Post}
use Rattle.serial_meaning.proofs.Fib.{Pointer, fib}
use Rattle.serial_meaning.specs.Job.{JobOf}
use Rattle.node_state.specs.Node.{NodeOf}
use Rattle.node_state.specs.Posts.{posts_after}
use Rattle.node_steps.specs.Calls.{ask, depart, exec_ready, resend}
use Rattle.node_steps.specs.Cases.{on_packet}
use Rattle.node_steps.specs.Choosing.{own_candidate}
use Rattle.node_steps.specs.Steps.{StepOf, Answer, Ignored, Refused, Does, Forgets, quiet, ◌then◌}
use Rattle.node_steps.specs.declared.parts.Victim.{Victim}

-- a packet comes to the node, or it makes a call of its own
pub data Call : Type 0 where
  Comes : Body → Call
  Asks : Victim → Call
  Runs : Grant → ℕ → Call
  Departs : ℕ → Call
  Resends : Call

-- the Fibonacci program on 2, as job 1
abbrev pub job_of : Pointer → JobOf
job_of p = record { program = fib p; input = pos 2 ∷ []; number = 1 }

module _ (job : JobOf) where
  abbrev pub answer : Call → List Post → NodeOf → Answer
  answer (Comes b) posts n = on_packet job (own_candidate posts)
      (record { job = job.number; to = n.incarnation; body = b }) n
  answer (Asks v) posts n = ask job v n
  answer (Runs g f) posts n = exec_ready job g f n
  answer (Departs heir) posts n = depart job heir n
  answer Resends posts n = resend job n

  abbrev pub step_of : NodeOf → Answer → StepOf
  step_of n Ignored = quiet n
  step_of n (Refused e) = quiet n
  step_of n (Does s) = s
  step_of n (Forgets m) = quiet m

  -- all that these calls do, one after the other
  abbrev pub play : List Call → List Post → StepOf → StepOf
  play [] posts s = s
  play (c ∷ cs) posts s =
      let t = step_of s.after (answer c posts s.after) in
      play cs (posts_after t.after t.ready posts) (s then λ n. t)

  -- the answer to a call after them
  abbrev pub answer_after : List Call → Call → List Post → NodeOf → Answer
  answer_after [] last posts n = answer last posts n
  answer_after (c ∷ cs) last posts n =
      let t = step_of n (answer c posts n) in
      answer_after cs last (posts_after t.after t.ready posts) t.after
