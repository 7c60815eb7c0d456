-- What a turn of a frame leads to.
use Rattle.std.proofs.Common.{◌≡◌, ◌∙◌, ℕ, List, [], false, Some, Result, Ok, Err, ap}
use Rattle.std.proofs.lemmas.List.{append-nil}
use Rattle.ids.specs.Names.{Grant}
use Rattle.body_eval.specs.Done.{DoneOf}
use Rattle.codec.specs.Table.{PacketOf}
use Rattle.codec.specs.declared.body.Roster.{Roster}
use Rattle.serial_meaning.specs.Job.{JobOf}
use Rattle.sub_rules.specs.Carrying.{exec_content as carry}
use Rattle.saved_values.specs.Saved.{known_by}
use Rattle.sub_rules.specs.declared.change.ContentChange.{ContentChange}
use Rattle.sub_rules.specs.declared.change.SubError.{SubError}
use Rattle.subcomputation.specs.Subs.{SubOf, sub_in}
use Rattle.subcomputation.specs.Told.{carried_out, changed, SubChange}
use Rattle.node_state.specs.Node.{NodeOf, by_state}
use Rattle.node_state.specs.Parts.{IsMember}
use Rattle.node_state.specs.declared.parts.State.{State}
use Rattle.node_state.specs.declared.parts.State.TheVariants.{Joining, Member, Leaving, Ended}
use Rattle.node_steps.specs.Calls as calls
use Rattle.node_steps.specs.Cases.{by_option}
use Rattle.node_steps.specs.Meeting.{Meets, MeetsAround, NodeOn, changes_of}
use Rattle.node_steps.specs.Steps.{Answer, Does, Refused, StepOf}
use Rattle.node_steps.specs.declared.error.NodeError.{NodeError}
use Rattle.node_steps.specs.declared.error.NodeError.TheVariants as error
use Rattle.node_steps.specs.declared.parts.Step.{Step}

pub joined : (st : State) (member : Roster → Answer) (leaving : Roster → ℕ → Answer) (other a : Answer) → IsMember st
    → ((r : Roster) → member r ≡ a) → by_state st other member leaving other ≡ a
unfolding by_state
joined Joining member leaving other a is h = absurd is
joined (Member r) member leaving other a is h = h r
joined (Leaving r heir) member leaving other a is h = absurd is
joined Ended member leaving other a is h = absurd is

at_sub : (job : JobOf) (d : DoneOf) (g : Grant) (f : ℕ) (n : NodeOf) (s : SubOf) (c : SubChange)
    (o : Result ContentChange SubError) → carried_out s o ≡ Ok c → calls.changed job s n o ≡ Does (changes_of job c n)
at_sub job d g f n s c (Ok change) is = let equal : changed s change ≡ c =
    cc in ap (λ k. Does (changes_of job k n)) equal
at_sub job d g f n s c (Err e) is = cc

pub found : (job : JobOf) (d : DoneOf) (g : Grant) (f : ℕ) (n : NodeOf) (s : SubOf) (a : Answer)
    → sub_in g n.subs ≡ Some s → calls.changed job s n (carry (known_by s.saved) d f s.content) ≡ a
    → by_option (sub_in g n.subs) (Refused error.Stale)
    (λ t. calls.changed job t n (carry (known_by t.saved) d f t.content)) ≡ a
unfolding by_option
found job d g f n s a there is = rw there is

pub exec_known : (job : JobOf) (d : DoneOf) (g : Grant) (f : ℕ) (n : NodeOf) (s : SubOf) (c : SubChange)
    → IsMember n.state → sub_in g n.subs ≡ Some s → carried_out s (carry (known_by s.saved) d f s.content) ≡ Ok c
    → calls.exec job d g f n ≡ Does (changes_of job c n)
unfolding calls.exec
exec_known job d g f n s c member there is =
    joined n.state _ _ (Refused error.NotJoined) (Does (changes_of job c n)) member
    (λ r. found job d g f n s (Does (changes_of job c n)) there
    (at_sub job d g f n s c (carry (known_by s.saved) d f s.content) is))

-- what is answered with nothing sent before
pub meets_alone : (s : StepOf) (result : Result Step NodeError) (old new : NodeOn) → MeetsAround [] [] s result old new
    → Meets (Does s) result old new
meets_alone s (Ok step) old new meets = (
  meets.0 ∙ ap (λ (sent : List PacketOf). record { sent = sent; fills = s.fills; ignored = false })
      (append-nil s.sent),
  meets.1,
)
meets_alone s (Err error.Memory) old new meets = meets.1
meets_alone s (Err (error.Bytes fault)) old new meets = let wrong = meets.0 in cc
meets_alone s (Err error.Stale) old new meets = let wrong = meets.0 in cc
meets_alone s (Err error.NoValue) old new meets = let wrong = meets.0 in cc
meets_alone s (Err error.Pending) old new meets = let wrong = meets.0 in cc
meets_alone s (Err error.TooBig) old new meets = let wrong = meets.0 in cc
meets_alone s (Err error.HopSpent) old new meets = let wrong = meets.0 in cc
meets_alone s (Err error.NoHeir) old new meets = let wrong = meets.0 in cc
meets_alone s (Err error.NotJoined) old new meets = let wrong = meets.0 in cc
meets_alone s (Err error.Busy) old new meets = let wrong = meets.0 in cc
meets_alone s (Err error.Spent) old new meets = let wrong = meets.0 in cc
