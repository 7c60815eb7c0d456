-- A node and its posts, and what holds of them between its calls.
use Rattle.std.specs.Prelude.{◌≡◌, ◌+◌, ◌<◌, ◌^◌, ℕ, ◌&&◌, nat_eq, List, [], Option, None, Some, IsSome, map, sum_by}
use Rattle.ids.specs.Names.{Grant}
use Rattle.ids.specs.Place.{level_of}
use Rattle.ids.specs.declared.work.Record.{Record}
use Rattle.task_tree.specs.declared.tree.Program.{Program}
use Rattle.level_deques.specs.declared.posts.Post.{Post}
use Rattle.victim_records.specs.Records.{record_in}
use Rattle.sub_rules.specs.Debts.{one_if}
use Rattle.sub_rules.specs.Readiness.{TellsReady}
use Rattle.sub_rules.specs.declared.change.Readied.{Readied}
use Rattle.steal_protocol.specs.Requests.{AskerOf}
use Rattle.sub_rules.specs.declared.updates.Update.{Update}
use Rattle.sub_rules.specs.Updates.{opened_in, updated, MayUpdate}
use Rattle.subcomputation.specs.Fitting.{Fits}
use Rattle.subcomputation.specs.Recovering.{Recovery, recovered}
use Rattle.subcomputation.specs.Subs.{IsBegun, SubOf, grants_of_subs, put_sub, sub_in}
use Rattle.subcomputation.specs.Told.{opened_sub, updated_sub}
use Rattle.subcomputation.specs.declared.sub.ReadiedOf.{ReadiedOf}
use Rattle.codec.specs.declared.body.Roster.{Roster}
use Rattle.recovery.specs.Told.{ComesTold}
use Rattle.node_state.specs.Node.{NodeOf, hop_in}
use Rattle.node_state.specs.Posts.{ReadyFrame, ready_at, posts_after}
use Rattle.node_state.specs.declared.parts.State.{State}
use Rattle.node_state.specs.declared.parts.State.TheVariants.{Joining, Member, Leaving, Ended}
pub use Rattle.ids.specs.Names.{same_grant}

-- a node, and its ready frames in the order in which they are posted
pub record PartsOf : Type 0 where
  pub node : NodeOf
  pub posts : List Post

-- 1 where two posts are the same, else 0
abbrev pub is_same_post : Post → Post → ℕ
is_same_post p q = one_if (same_grant p.grant q.grant && (nat_eq p.frame q.frame && nat_eq p.level q.level))

-- how many posts are this one
abbrev pub times_posted : Post → List Post → ℕ
times_posted p posts = sum_by (is_same_post p) posts

-- 1 where a post is that of a ready frame, at the level of its place, else 0
abbrev pub is_post_at : Post → Option ReadyFrame → ℕ
is_post_at p None = 0
is_post_at p (Some f) = one_if (nat_eq p.level (level_of f.ready.frame.place))

-- each ready frame has one post, at the level of its place, and there are no others
pub record ArePosts (n : NodeOf) (posts : List Post) : Type 0 where
  pub each : (p : Post) → times_posted p posts ≡ is_post_at p (ready_at n p.grant p.frame)

-- a node that isn't joined, or has ended, holds nothing
abbrev pub HoldsByState : State → List SubOf → Type 0
HoldsByState Joining subs = subs ≡ []
HoldsByState (Member r) subs = Unit {0}
HoldsByState (Leaving r heir) subs = Unit {0}
HoldsByState Ended subs = subs ≡ []

-- a node that leaves has no request pending
abbrev pub AsksByState : State → AskerOf → Type 0
AsksByState Joining asker = Unit {0}
AsksByState (Member r) asker = Unit {0}
AsksByState (Leaving r heir) asker = asker.pending ≡ None
AsksByState Ended asker = Unit {0}

-- what a node holds was taken here
abbrev pub AreTaken : NodeOf → Type 0
AreTaken n = (g : Grant) (s : SubOf) → sub_in g n.subs ≡ Some s → IsSome (hop_in g n.seen)

-- no record has a grant that is still to be minted here
abbrev pub IsFresh : NodeOf → Grant → Type 0
IsFresh n h = (h.minter ≡ n.incarnation) × (n.minted < h.number)

abbrev pub AreMinted : NodeOf → Type 0
AreMinted n = (h : Grant) → IsFresh n h → (g : Grant) (s : SubOf) → sub_in g n.subs ≡ Some s → record_in h s.content.records ≡ None

-- what holds of a node's parts between its calls
pub record AreParts (parts : PartsOf) : Type 0 where
  pub posts : ArePosts parts.node parts.posts
  pub holds : HoldsByState parts.node.state parts.node.subs
  pub asks : AsksByState parts.node.state parts.node.asker
  pub taken : AreTaken parts.node
  pub minted : AreMinted parts.node

-- a node that may be a member: it is joining or is one
abbrev pub MayBeMember : State → Type 0
MayBeMember Joining = Unit {0}
MayBeMember (Member r) = Unit {0}
MayBeMember (Leaving r heir) = ⊥
MayBeMember Ended = ⊥

abbrev pub IsMember : State → Type 0
IsMember Joining = ⊥
IsMember (Member r) = Unit {0}
IsMember (Leaving r heir) = ⊥
IsMember Ended = ⊥

abbrev pub IsLeaving : State → Type 0
IsLeaving Joining = ⊥
IsLeaving (Member r) = ⊥
IsLeaving (Leaving r heir) = Unit {0}
IsLeaving Ended = ⊥

-- a node that holds something: a member, or one that leaves
abbrev pub IsJoined : State → Type 0
IsJoined Joining = ⊥
IsJoined (Member r) = Unit {0}
IsJoined (Leaving r heir) = Unit {0}
IsJoined Ended = ⊥

-- a subcomputation in the place of one that a member holds, and the frames that became ready in it
pub record IsNext (n : NodeOf) (s : SubOf) (told : List Readied) : Type 0 where
  pub member : IsMember n.state
  pub before : SubOf
  pub there : sub_in s.grant n.subs ≡ Some before
  pub ready : TellsReady before.content s.content told

-- it has no record of a grant of which it had none
abbrev pub HasNoNewRecord : NodeOf → SubOf → Type 0
HasNoNewRecord n s = (h : Grant) → IsFresh n h → record_in h s.content.records ≡ None

-- an update may be made of the subcomputation of a grant: what it leaves is kept, the frames that
-- became ready are told, and it has no record of a grant of which it had none
pub record MayUpdateIn (n : NodeOf) (g : Grant) (u : Update) (told : List Readied) : Type 0 where
  pub sub : SubOf
  pub there : sub_in g n.subs ≡ Some sub
  pub named : sub.grant ≡ g
  pub may : MayUpdate u sub.content
  pub begun : IsBegun (updated u sub.content)
  pub next : IsNext n (updated_sub u sub) told
  pub records : HasNoNewRecord n (updated_sub u sub)

-- a record may be opened of the subcomputation of a grant, in the place of its frame: nothing else
-- becomes ready, and it has no record of a grant of which it had none but the next one
pub record MayOpenIn (n : NodeOf) (g : Grant) (x : Record) : Type 0 where
  pub sub : SubOf
  pub there : sub_in g n.subs ≡ Some sub
  pub named : sub.grant ≡ g
  pub begun : IsBegun (opened_in x sub.content)
  pub next : IsNext n (opened_sub x sub) []
  pub counted : n.minted + 1 < 2 ^ 64
  pub records : HasNoNewRecord (record n { minted = n.minted + 1 }) (opened_sub x sub)

-- what comes of an Offer of a grant, which a recovery may have dropped: a subcomputation of that
-- grant, with no record of a grant that is still to be minted here
abbrev pub MayCome : NodeOf → Grant → List Readied → Option SubOf → Type 0
MayCome n g told None = Unit {0}
MayCome n g told (Some s) = (s.grant ≡ g) × ComesTold s told × HasNoNewRecord n s

-- it is put in its place, if it is there
abbrev pub put_some : Option SubOf → List SubOf → List SubOf
put_some None subs = subs
put_some (Some s) subs = put_sub s subs

-- frames of a subcomputation, as ready frames of the node
abbrev pub ready_of : Grant → List Readied → List ReadiedOf
ready_of g told = map (λ r. record { grant = g; frame = r }) told

-- a node after a step, with its posts
abbrev pub with_posts : NodeOf → List ReadiedOf → List Post → PartsOf
with_posts after became posts = record { node = after; posts = posts_after after became posts }

-- what the recovery of all that a node holds leads to
abbrev pub recovery_of : Roster → NodeOf → Recovery
recovery_of roster n = recovered roster.members (grants_of_subs n.subs) n.subs

-- each subcomputation that a node holds fits a program
abbrev pub EachFits : Program → NodeOf → Type 0
EachFits p n = (g : Grant) (s : SubOf) → sub_in g n.subs ≡ Some s → Fits p s.content
