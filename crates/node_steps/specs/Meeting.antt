-- What a call of a node answers, and what it leaves.
use Rattle.std.specs.Prelude.{◌≡◌, ◌+◌, ◌++◌, true, false, List, [], ◌∷◌, nat_eq, Some, Result, Ok, Err, IsTrue}
use Rattle.std.specs.List.{AllByRecursion}
use Rattle.ids.specs.Names.{Grant}
use Rattle.ids.specs.Naming.{name_of_member}
use Rattle.ids.specs.Ordered.{AreInOrder}
use Rattle.codec.specs.Table.{PacketOf, is_short}
use Rattle.codec.specs.declared.body.Body.{Body}
use Rattle.codec.specs.declared.body.Body.TheVariants as body
use Rattle.codec.specs.declared.body.Roster.{Roster}
use Rattle.codec.specs.declared.body.Steal.{Steal}
use Rattle.level_deques.specs.declared.posts.Post.{Post}
use Rattle.saved_values.specs.Saved.{saved_under}
use Rattle.serial_meaning.specs.Job.{JobOf}
use Rattle.departure.specs.Freezing.{AreMovable}
use Rattle.departure.specs.declared.freezing.Move.{Move}
use Rattle.node_state.specs.Node.{NodeOf, ended, holding}
use Rattle.node_state.specs.Posts.{posts_after}
use Rattle.node_state.specs.declared.parts.State.{State}
use Rattle.node_state.specs.declared.parts.State.TheVariants.{Joining, Member, Leaving, Ended}
use Rattle.node_steps.specs.declared.error.NodeError.{NodeError}
use Rattle.node_steps.specs.declared.error.NodeError.TheVariants as error
use Rattle.node_steps.specs.declared.parts.Step.{Step}
use Rattle.subcomputation.specs.Fitting.{Fits}
use Rattle.subcomputation.specs.Subs.{SubOf, put_sub, ready_frames, sub_in}
use Rattle.subcomputation.specs.Told.{SubChange, SubGrant}
use Rattle.node_state.specs.Parts.{MayUpdateIn, ready_of}
use Rattle.ids.specs.declared.outcome.Progress.TheVariants.{Active}
use Rattle.sub_rules.specs.declared.updates.Prepared.{Prepared}
use Rattle.sub_rules.specs.Updates.{updated}
use Rattle.node_steps.specs.Cases
use Rattle.node_steps.specs.Choosing.{own_candidate}
use Rattle.node_steps.specs.Moves
use Rattle.node_steps.specs.declared.rosters.News.{News}
use Rattle.node_steps.specs.declared.rosters.News.TheVariants as news
use Rattle.node_steps.specs.Steps.{Answer, Ignored, Refused, Does, Forgets, StepOf, fills_of, quiet, ◌then◌}

-- a node of a job, and the posts of its ready frames
pub record NodeOn : Type 0 where
  pub job : JobOf
  pub node : NodeOf
  pub posts : List Post

-- what is told of an answer that is no refusal, and what becomes of the node
abbrev pub Carries : Answer → Step → NodeOn → NodeOn → Type 0
Carries Ignored step old new = (step ≡ record { sent = []; fills = []; ignored = true }) × (new ≡ old)
Carries (Refused e) step old new = ⊥
Carries (Does s) step old new = (step ≡ record { sent = s.sent; fills = s.fills; ignored = false }) × (new ≡ record old { node = s.after; posts = posts_after s.after s.ready old.posts })
Carries (Forgets n) step old new = (step ≡ record { sent = []; fills = []; ignored = true }) × (new ≡ record old { node = n })

-- what is answered is what was to be answered, or there was no memory, and then nothing changed
abbrev pub Meets : Answer → Result Step NodeError → NodeOn → NodeOn → Type 0
Meets expected (Ok step) old new = Carries expected step old new
Meets expected (Err error.Memory) old new = new ≡ old
Meets expected (Err (error.Bytes fault)) old new = (expected ≡ Refused (error.Bytes fault)) × (new ≡ old)
Meets expected (Err error.Stale) old new = (expected ≡ Refused error.Stale) × (new ≡ old)
Meets expected (Err error.NoValue) old new = (expected ≡ Refused error.NoValue) × (new ≡ old)
Meets expected (Err error.Pending) old new = (expected ≡ Refused error.Pending) × (new ≡ old)
Meets expected (Err error.TooBig) old new = (expected ≡ Refused error.TooBig) × (new ≡ old)
Meets expected (Err error.HopSpent) old new = (expected ≡ Refused error.HopSpent) × (new ≡ old)
Meets expected (Err error.NoHeir) old new = (expected ≡ Refused error.NoHeir) × (new ≡ old)
Meets expected (Err error.NotJoined) old new = (expected ≡ Refused error.NotJoined) × (new ≡ old)
Meets expected (Err error.Busy) old new = (expected ≡ Refused error.Busy) × (new ≡ old)
Meets expected (Err error.Spent) old new = (expected ≡ Refused error.Spent) × (new ≡ old)

-- what is answered to a packet is what was to be answered to its body
abbrev pub MeetsBody : Body → Result Step NodeError → NodeOn → NodeOn → Type 0
MeetsBody b result old new = Meets (Cases.on_body old.job (own_candidate old.posts) b old.node) result old new

-- what a roster that is old, that ends the node, or that is newer leads to
abbrev pub by_news : News → NodeOf → Answer → Answer
by_news news.Old n kept = Ignored
by_news news.Over n kept = Does (quiet (ended n))
by_news news.Newer n kept = kept

-- being out of memory comes behind the other refusals of a call but those of a task without a
-- value, of a spent count, and of an Offer of too many bytes
abbrev pub MayLackMemory : Answer → Type 0
MayLackMemory Ignored = ⊥
MayLackMemory (Refused error.Spent) = Unit {0}
MayLackMemory (Refused error.Memory) = Unit {0}
MayLackMemory (Refused (error.Bytes fault)) = ⊥
MayLackMemory (Refused error.Stale) = ⊥
MayLackMemory (Refused error.NoValue) = Unit {0}
MayLackMemory (Refused error.Pending) = ⊥
MayLackMemory (Refused error.TooBig) = Unit {0}
MayLackMemory (Refused error.HopSpent) = ⊥
MayLackMemory (Refused error.NoHeir) = ⊥
MayLackMemory (Refused error.NotJoined) = ⊥
MayLackMemory (Refused error.Busy) = ⊥
MayLackMemory (Does s) = Unit {0}
MayLackMemory (Forgets n) = ⊥

-- or behind all of them
abbrev pub LacksMemoryLast : Answer → Type 0
LacksMemoryLast Ignored = ⊥
LacksMemoryLast (Refused e) = ⊥
LacksMemoryLast (Does s) = Unit {0}
LacksMemoryLast (Forgets n) = ⊥

-- what holds of a node that leaves: its heir is another worker, and what it holds can be offered to
-- that one
pub record CanOffer (m : Move) (subs : List SubOf) : Type 0 where
  pub other : nat_eq m.heir m.from ≡ false
  pub movable : AreMovable m subs

abbrev pub CanLeave : JobOf → NodeOf → State → Type 0
CanLeave job n Joining = Unit {0}
CanLeave job n (Member r) = Unit {0}
CanLeave job n (Leaving r heir) = CanOffer (Moves.move_to job heir n) n.subs
CanLeave job n Ended = Unit {0}

-- the members of the roster that a node has stand by rising incarnation
abbrev pub RosterRises : State → Type 0
RosterRises Joining = Unit {0}
RosterRises (Member r) = AreInOrder name_of_member r.members
RosterRises (Leaving r heir) = AreInOrder name_of_member r.members
RosterRises Ended = Unit {0}

-- what holds of a node between its calls: where it leaves it can offer what it holds, its last
-- answers are Grants and Refuses, which are never too big, what it holds fits the program, and its
-- roster's members stand in order
pub record IsNode (n : NodeOn) : Type 0 where
  pub leaving : CanLeave n.job n.node n.node.state
  pub short : AllByRecursion (λ r. IsTrue (is_short r.packet.body)) n.node.replies
  pub fits : (g : Grant) (s : SubOf) → sub_in g n.node.subs ≡ Some s → Fits n.job.program s.content
  pub rising : RosterRises n.node.state

-- a change of a subcomputation, as a step of the node
abbrev pub changes_of : JobOf → SubChange → NodeOf → StepOf
changes_of job c n = record {
  after = record n { subs = put_sub c.after n.subs };
  sent = Moves.aborts job c.dropped ++ Moves.results job n.incarnation c.after;
  fills = fills_of c.after.grant c.fill;
  ready = ready_of c.after.grant c.ready;
}

-- a change that is prepared may be made of the subcomputation of a grant, which goes on, and what
-- it leaves fits the program
pub record MayChangeIn (n : NodeOn) (g : Grant) (p : Prepared) : Type 0 where
  pub may : MayUpdateIn n.node g p.update p.ready
  pub active : may.sub.content.progress ≡ Active
  pub fits : Fits n.job.program (updated p.update may.sub.content)

-- a step that sends these packets, already made, before its own
abbrev pub MeetsBehind : List PacketOf → StepOf → Result Step NodeError → NodeOn → NodeOn → Type 0
MeetsBehind before s (Ok step) old new =
    (step ≡ record { sent = before ++ s.sent; fills = s.fills; ignored = false })
    × (new ≡ record old { node = s.after; posts = posts_after s.after s.ready old.posts })
MeetsBehind before s (Err e) old new = (e ≡ error.Memory) × (new ≡ old)

-- and packets behind its own
abbrev pub MeetsAround : (before last : List PacketOf) → StepOf → Result Step NodeError → NodeOn → NodeOn → Type 0
MeetsAround before last s (Ok step) old new =
    (step ≡ record { sent = before ++ (s.sent ++ last); fills = s.fills; ignored = false })
    × (new ≡ record old { node = s.after; posts = posts_after s.after s.ready old.posts })
MeetsAround before last s (Err e) old new = (e ≡ error.Memory) × (new ≡ old)

-- a frame that was given away is granted under a name, as the answer to a request
abbrev pub gives : JobOf → Steal → Grant → SubGrant → NodeOf → StepOf
gives job b name given n =
    Moves.answers job b.from b.seq (body.Grant (record { seq = b.seq; grant = name; task = given.task; saved = saved_under given.task.place given.after.saved })) (record n { minted = n.minted + 1; subs = put_sub given.after n.subs })

-- a subcomputation comes, and is recovered by a roster
abbrev pub comes : JobOf → Roster → SubOf → NodeOf → StepOf
comes job r s n =
    record { after = holding s n; sent = []; fills = []; ready = ready_frames s } then Moves.recovers job r.members (s.grant ∷ [])
