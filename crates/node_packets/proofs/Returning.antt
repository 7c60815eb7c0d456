-- What an outcome that comes leads to.
use Rattle.std.proofs.Common.{◌≡◌, ℕ, ◌+◌, arith, List, [], ◌∷◌, ◌++◌, Option, Some, None, Result, Ok, Err, refl, sym, ap, ◌∙◌}
use Rattle.ids.specs.Names.{Grant}
use Rattle.codec.specs.Table.{PacketOf}
use Rattle.codec.specs.declared.body.Body.TheVariants as body
use Rattle.codec.specs.declared.body.TaskResult.{TaskResult}
use Rattle.codec.specs.declared.body.Roster.{Roster}
use Rattle.ids.specs.declared.work.Record.{Record}
use Rattle.serial_meaning.specs.Job.{JobOf}
use Rattle.sub_rules.specs.Changes.{closed, closed_in}
use Rattle.sub_rules.specs.Readiness.{TellsReady}
use Rattle.sub_rules.specs.declared.change.Readied.{Readied}
use Rattle.victim_records.specs.Records.{record_in}
use Rattle.subcomputation.specs.Subs.{SubOf, host_in, sub_in}
use Rattle.subcomputation.specs.Told.{HasNoOthersBut, changed, changed_by, SubChange}
use Rattle.node_state.specs.Node.{NodeOf, by_state}
use Rattle.node_state.specs.Parts.{IsFresh, IsMember, IsNext}
use Rattle.node_state.specs.declared.parts.State.{State}
use Rattle.node_state.specs.declared.parts.State.TheVariants.{Joining, Member, Leaving, Ended}
use Rattle.node_steps.specs.Cases.{Candidate, on_body, returned}
use Rattle.node_steps.specs.Meeting.{Meets, MeetsAround, MeetsBehind, NodeOn, changes_of}
use Rattle.node_steps.specs.Moves
use Rattle.node_steps.specs.Steps.{Answer, Does, Ignored, StepOf, for_some, sends}
use Rattle.node_steps.specs.declared.error.NodeError.{NodeError}
use Rattle.node_steps.specs.declared.error.NodeError.TheVariants as error
use Rattle.node_steps.specs.declared.parts.Step.{Step}

-- at a member
by_member : (st : State) (member : Roster → Answer) (leaving : Roster → ℕ → Answer) (a : Answer) → IsMember st
    → ((r : Roster) → st ≡ Member r → member r ≡ a) → by_state st Ignored member leaving Ignored ≡ a
unfolding by_state
by_member Joining member leaving a is h = absurd is
by_member (Member r) member leaving a is h = h r refl
by_member (Leaving r heir) member leaving a is h = absurd is
by_member Ended member leaving a is h = absurd is

at_member : (st : State) (r : Roster) (member : Roster → Answer) (leaving : Roster → ℕ → Answer) → st ≡ Member r
    → by_state st Ignored member leaving Ignored ≡ member r
unfolding by_state
at_member st r member leaving is = rw is refl

-- a step behind a packet, and before others
abbrev pub around : PacketOf → StepOf → List PacketOf → StepOf
around p s last = record { after = s.after; sent = p ∷ (s.sent ++ last); fills = s.fills; ready = s.ready }

abbrev pub ack_of : JobOf → TaskResult → PacketOf
ack_of job b = Moves.result_ack job b.from b.grant

unknown : (job : JobOf) (r : Roster) (b : TaskResult) (n : NodeOf) → host_in b.grant n.subs ≡ None
    → returned job r b n ≡ Does (sends (ack_of job b ∷ []) n)
unfolding for_some
unknown job r b n none = rw none refl

pub result_unknown : (job : JobOf) (choice : Option Candidate) (b : TaskResult) (n : NodeOf) → IsMember n.state
    → host_in b.grant n.subs ≡ None → on_body job choice (body.Result b) n ≡ Does (sends (ack_of job b ∷ []) n)
unfolding on_body
result_unknown job choice b n member none =
    by_member n.state (λ r. returned job r b n) (λ r heir. Ignored) (Does (sends (ack_of job b ∷ []) n)) member
    (λ r is. unknown job r b n none)

closes_none : (job : JobOf) (r : Roster) (b : TaskResult) (n : NodeOf) (s : SubOf) → host_in b.grant n.subs ≡ Some s
    → record_in b.grant s.content.records ≡ None → returned job r b n ≡ Does (sends (ack_of job b ∷ []) n)
unfolding for_some
closes_none job r b n s there none = rw there (rw none refl)

pub result_closed : (job : JobOf) (choice : Option Candidate) (b : TaskResult) (n : NodeOf) (s : SubOf)
    → IsMember n.state → host_in b.grant n.subs ≡ Some s → record_in b.grant s.content.records ≡ None
    → on_body job choice (body.Result b) n ≡ Does (sends (ack_of job b ∷ []) n)
unfolding on_body
result_closed job choice b n s member there none =
    by_member n.state (λ r. returned job r b n) (λ r heir. Ignored) (Does (sends (ack_of job b ∷ []) n)) member
    (λ r is. closes_none job r b n s there none)

-- one that has a record closes it
not_closed : (s : SubOf) (b : TaskResult) (x : Record) → record_in b.grant s.content.records ≡ Some x
    → None ≡ changed_by s (closed_in b.outcome s.content (record_in b.grant s.content.records)) → ⊥
not_closed s b x found none = let at : None ≡ changed_by s (closed_in b.outcome s.content (Some x)) =
    rw found at none in cc

pub result_lost : (job : JobOf) (choice : Option Candidate) (b : TaskResult) (n : NodeOf) (s : SubOf) (x : Record)
    → record_in b.grant s.content.records ≡ Some x
    → None ≡ changed_by s (closed_in b.outcome s.content (record_in b.grant s.content.records))
    → on_body job choice (body.Result b) n ≡ Does (sends (ack_of job b ∷ []) n)
result_lost job choice b n s x found none = absurd (not_closed s b x found none)

closes_some : (job : JobOf) (r : Roster) (b : TaskResult) (n : NodeOf) (s : SubOf) (x : Record)
    → host_in b.grant n.subs ≡ Some s → record_in b.grant s.content.records ≡ Some x
    → returned job r b n ≡ Does (around (ack_of job b) (changes_of job (changed s (closed x b.outcome s.content)) n)
    (Moves.save_of job n.incarnation r x.task.place b.outcome))
unfolding for_some
closes_some job r b n s x there found = rw there (rw found refl)

pub result_known : (job : JobOf) (choice : Option Candidate) (r : Roster) (b : TaskResult) (n : NodeOf) (s : SubOf)
    (x : Record) (c : SubChange) → n.state ≡ Member r → host_in b.grant n.subs ≡ Some s
    → record_in b.grant s.content.records ≡ Some x
    → Some c ≡ changed_by s (closed_in b.outcome s.content (record_in b.grant s.content.records))
    → on_body job choice (body.Result b) n
    ≡ Does (around (ack_of job b) (changes_of job c n) (Moves.save_of job n.incarnation r x.task.place b.outcome))
unfolding on_body
result_known job choice r b n s x c member there found is =
    let closed_by : Some c ≡ changed_by s (closed_in b.outcome s.content (Some x)) = rw found at is in
    let equal : changed s (closed x b.outcome s.content) ≡ c = cc in
    at_member n.state r (λ q. returned job q b n) (λ q heir. Ignored) member
    ∙ closes_some job r b n s x there found
    ∙ ap (λ d. Does (around (ack_of job b) (changes_of job d n)
    (Moves.save_of job n.incarnation r x.task.place b.outcome))) equal

-- a step behind a packet
abbrev pub behind : PacketOf → StepOf → StepOf
behind p s = record { after = s.after; sent = p ∷ s.sent; fills = s.fills; ready = s.ready }

pub meets_behind : (p : PacketOf) (s : StepOf) (result : Result Step NodeError) (old new : NodeOn)
    → MeetsBehind (p ∷ []) s result old new → Meets (Does (behind p s)) result old new
meets_behind p s (Ok step) old new meets = meets
meets_behind p s (Err error.Memory) old new meets = meets.1
meets_behind p s (Err (error.Bytes fault)) old new meets = let wrong = meets.0 in cc
meets_behind p s (Err error.Stale) old new meets = let wrong = meets.0 in cc
meets_behind p s (Err error.NoValue) old new meets = let wrong = meets.0 in cc
meets_behind p s (Err error.Pending) old new meets = let wrong = meets.0 in cc
meets_behind p s (Err error.TooBig) old new meets = let wrong = meets.0 in cc
meets_behind p s (Err error.HopSpent) old new meets = let wrong = meets.0 in cc
meets_behind p s (Err error.NoHeir) old new meets = let wrong = meets.0 in cc
meets_behind p s (Err error.NotJoined) old new meets = let wrong = meets.0 in cc
meets_behind p s (Err error.Busy) old new meets = let wrong = meets.0 in cc
meets_behind p s (Err error.Spent) old new meets = let wrong = meets.0 in cc

-- what is answered between packets
pub meets_around : (p : PacketOf) (last : List PacketOf) (s : StepOf) (result : Result Step NodeError)
    (old new : NodeOn) → MeetsAround (p ∷ []) last s result old new → Meets (Does (around p s last)) result old new
meets_around p last s (Ok step) old new meets = meets
meets_around p last s (Err error.Memory) old new meets = meets.1
meets_around p last s (Err (error.Bytes fault)) old new meets = let wrong = meets.0 in cc
meets_around p last s (Err error.Stale) old new meets = let wrong = meets.0 in cc
meets_around p last s (Err error.NoValue) old new meets = let wrong = meets.0 in cc
meets_around p last s (Err error.Pending) old new meets = let wrong = meets.0 in cc
meets_around p last s (Err error.TooBig) old new meets = let wrong = meets.0 in cc
meets_around p last s (Err error.HopSpent) old new meets = let wrong = meets.0 in cc
meets_around p last s (Err error.NoHeir) old new meets = let wrong = meets.0 in cc
meets_around p last s (Err error.NotJoined) old new meets = let wrong = meets.0 in cc
meets_around p last s (Err error.Busy) old new meets = let wrong = meets.0 in cc
meets_around p last s (Err error.Spent) old new meets = let wrong = meets.0 in cc

-- the next name is that of no record
pub fresh_after : (n : NodeOf) (name : Grant) (before after : List Record)
    → name ≡ record { minter = n.incarnation; number = n.minted + 1 }
    → ((h : Grant) → IsFresh n h → record_in h before ≡ None) → HasNoOthersBut name before after → (h : Grant)
    → IsFresh (record n { minted = n.minted + 1 }) h → record_in h after ≡ None
fresh_after n name before after is none others h fresh =
    let above = fresh.1 in
    others h (λ same. let number : h.number ≡ n.minted + 1 =
    ap (λ (g : Grant). g.number) (same ∙ is) in omega arith) (none h (fresh.0, omega arith))

-- a change of what is held
pub next : (n : NodeOf) (s : SubOf) (after : SubOf) (told : List Readied) → IsMember n.state → after.grant ≡ s.grant
    → sub_in s.grant n.subs ≡ Some s → TellsReady s.content after.content told → IsNext n after told
next n s after told member same there ready =
    record { member = member; before = s; there = ap (λ g. sub_in g n.subs) same ∙ there; ready = ready }

pub result_grant : (b : TaskResult) (s : SubOf) (c : SubChange) (o : Option Record)
    → Some c ≡ changed_by s (closed_in b.outcome s.content o) → c.after.grant ≡ s.grant
result_grant b s c None is = cc
result_grant b s c (Some x) is = let equal : changed s (closed x b.outcome s.content) ≡ c =
    cc in ap (λ (d : SubChange). d.after.grant) (sym equal)
