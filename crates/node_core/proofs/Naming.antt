-- What calls are answered by numbers that name nothing.
use Rattle.std.proofs.Common.{◌≡◌, ℕ, ◌≤◌, ◌<◌, Bool, true, false, cond, not, nat_eq, ◌&&◌, ◌||◌, List, [], Option, Some, None, is_some, Err, IsTrue, refl, sym, ap, ◌∙◌, arith}
use Rattle.ids.specs.Members.{is_live, says_live}
use Rattle.ids.specs.Named.{item_in}
use Rattle.ids.specs.Names.{Grant, is_worker}
use Rattle.ids.specs.Naming.{name_of_frame, name_of_member}
use Rattle.ids.specs.Options.{◌>>=◌}
use Rattle.ids.specs.declared.member.Member.{Member as Listed}
use Rattle.ids.specs.declared.work.Frame.{Frame}
use Rattle.codec.specs.declared.body.Roster.{Roster}
use Rattle.frames.specs.Frames.{AreBelow, frame_in}
use Rattle.serial_meaning.specs.Job.{JobOf}
use Rattle.sub_rules.specs.Content.{ready}
use Rattle.sub_rules.proofs.Sums.{all_found, found_name}
use Rattle.subcomputation.specs.Subs.{SubOf, sub_in}
use Rattle.departure.specs.Freezing.{lacks_heir, refusal}
use Rattle.departure.specs.declared.freezing.FreezeError.{FreezeError}
use Rattle.departure.specs.declared.freezing.FreezeError.TheVariants as freeze
use Rattle.node_state.specs.Node.{NodeOf, by_state}
use Rattle.node_state.specs.Posts.{ready_at, ready_of_sub}
use Rattle.node_state.specs.declared.parts.State.{State}
use Rattle.node_state.specs.declared.parts.State.TheVariants.{Joining, Member, Leaving, Ended}
use Rattle.node_steps.specs.Calls as calls
use Rattle.node_steps.specs.Cases.{by_option}
use Rattle.node_steps.specs.Meeting.{MayLackMemory, Meets, NodeOn}
use Rattle.node_steps.specs.Moves.{move_to}
use Rattle.node_steps.specs.Steps.{Answer, Refused}
use Rattle.node_steps.specs.declared.error.NodeError.{NodeError}
use Rattle.node_steps.specs.declared.error.NodeError.TheVariants as error
use Rattle.node_steps.specs.declared.parts.Victim.TheVariants.{Worker}

-- a call that is refused as it was to be
pub meets_refused : (a : Answer) (e : NodeError) (old : NodeOn) → a ≡ Refused e → Meets a (Err e) old old
meets_refused a error.Memory old is = refl
meets_refused a (error.Bytes fault) old is = (is, refl)
meets_refused a error.Stale old is = (is, refl)
meets_refused a error.NoValue old is = (is, refl)
meets_refused a error.Pending old is = (is, refl)
meets_refused a error.TooBig old is = (is, refl)
meets_refused a error.HopSpent old is = (is, refl)
meets_refused a error.NoHeir old is = (is, refl)
meets_refused a error.NotJoined old is = (is, refl)
meets_refused a error.Busy old is = (is, refl)
meets_refused a error.Spent old is = (is, refl)

pub lacks_memory_refused : (a : Answer) (e : NodeError) → a ≡ Refused e → e ≡ error.Memory → MayLackMemory a
lacks_memory_refused a e is memory = rw is (rw memory tt)

-- a number above all that are given is that of no frame
pub none_above : (n next : ℕ) (frames : List Frame) → AreBelow next frames → next ≤ n → frame_in n frames ≡ None
none_above n next frames below above = by_frame (frame_in n frames) refl
  where
    by_frame : (o : Option Frame) → frame_in n frames ≡ o → o ≡ None
    by_frame None is = refl
    by_frame (Some f) is =
        let less : f.number < next = all_found name_of_frame (λ x. x.number < next) (n, 0) f frames below is in
        let same : n ≡ f.number = ap (λ k. k.0) (found_name name_of_frame (n, 0) f frames is) in
        absurd (omega arith)

-- a word that is no worker's is not shown live
pub live_by : (word : ℕ) (members : List Listed) → item_in name_of_member (word, 0) members ≡ None
    → is_live word members ≡ false
live_by word members none = ap (λ (o : Option Listed). says_live (o >>= λ m. Some m.status)) none

pub no_worker : (word : ℕ) (m : Listed) (members : List Listed) → item_in name_of_member (word, 0) members ≡ Some m
    → is_worker word ≡ false → IsTrue (is_worker m.incarnation) → ⊥
no_worker word m members there other worker =
    let same : word ≡ m.incarnation = ap (λ k. k.0) (found_name name_of_member (word, 0) m members there) in
    let is : is_worker word ≡ true = rw same worker in
    let wrong : true ≡ false = sym is ∙ other in
    cc

-- by where a node stands
abbrev pub unnamed : State → NodeError
unnamed st = by_state st error.NotJoined (λ _. error.Stale) (λ _ _. error.Stale) error.NotJoined

abbrev pub heirless : State → Bool → NodeError
heirless st pending = by_state st error.NotJoined (λ _. cond pending error.Pending error.NoHeir)
    (λ _ _. error.Busy) error.NotJoined

stale_by : (st : State) (member : Roster → Answer) (leaving : Roster → ℕ → Answer)
    → ((r : Roster) → member r ≡ Refused error.Stale) → ((r : Roster) (heir : ℕ) → leaving r heir ≡ Refused error.Stale)
    → by_state st (Refused error.NotJoined) member leaving (Refused error.NotJoined) ≡ Refused (unnamed st)
unfolding by_state
stale_by Joining member leaving a b = refl
stale_by (Member r) member leaving a b = a r
stale_by (Leaving r heir) member leaving a b = b r heir
stale_by Ended member leaving a b = refl

-- no subcomputation of a grant has that frame
abbrev pub HasNoFrame : Grant → ℕ → List SubOf → Type 0
HasNoFrame g f subs = (s : SubOf) → sub_in g subs ≡ Some s → frame_in f s.content.frames ≡ None

none_held : (g : Grant) (f : ℕ) (subs : List SubOf) → HasNoFrame g f subs → ready_of_sub f (sub_in g subs) ≡ None
none_held g f subs none = by_sub (sub_in g subs) refl
  where
    by_sub : (o : Option SubOf) → sub_in g subs ≡ o → ready_of_sub f o ≡ None
    by_sub None is = refl
    by_sub (Some s) is = ap (λ (o : Option Frame). (o >>= ready) >>= λ r. Some (record { sub = s; ready = r }))
        (none s is)

none_live : (g : Grant) (f : ℕ) (subs : List SubOf) (st : State) → HasNoFrame g f subs
    → ready_of_sub f (sub_in g (by_state st [] (λ r. subs) (λ r heir. []) [])) ≡ None
unfolding by_state
none_live g f subs Joining none = refl
none_live g f subs (Member r) none = none_held g f subs none
none_live g f subs (Leaving r heir) none = refl
none_live g f subs Ended none = refl

none_there : {A C : Type 0} (a : Option A) (none : C) (some : A → C) → a ≡ None → by_option a none some ≡ none
unfolding by_option
none_there a none some is = rw is refl

pub ready_unnamed : (job : JobOf) (g : Grant) (f : ℕ) (n : NodeOf) → HasNoFrame g f n.subs
    → calls.exec_ready job g f n ≡ Refused (unnamed n.state)
ready_unnamed job g f n none = stale_by n.state _ _
    (λ r. none_there (ready_at n g f) (Refused error.Stale) _ (none_live g f n.subs n.state none)) (λ r heir. refl)

pub whole_unnamed : (job : JobOf) (most : ℕ) (g : Grant) (f : ℕ) (n : NodeOf) → HasNoFrame g f n.subs
    → calls.whole_ready job most g f n ≡ Refused (unnamed n.state)
whole_unnamed job most g f n none = stale_by n.state _ _
    (λ r. none_there (ready_at n g f) (Refused error.Stale) _ (none_live g f n.subs n.state none)) (λ r heir. refl)

-- a victim, or an heir, that no roster shows live
not_asked : (b live : Bool) → live ≡ false → (b && live) ≡ false
not_asked true live is = is
not_asked false live is = refl

lacking : (b live : Bool) → live ≡ false → (b || not live) ≡ true
lacking true live is = refl
lacking false live is = rw is refl

pub ask_unshown : (job : JobOf) (word : ℕ) (n : NodeOf)
    → ((r : Roster) → n.state ≡ Member r → is_live word r.members ≡ false)
    → ((r : Roster) (heir : ℕ) → n.state ≡ Leaving r heir → is_live word r.members ≡ false)
    → calls.ask job (Worker word) n ≡ Refused error.NotJoined
unfolding calls.ask by_state
ask_unshown job word n member leaving = by_states n.state refl
  where
    may_not : (r : Roster) → is_live word r.members ≡ false → calls.may_ask r n (Worker word) ≡ false
    may_not r unshown = not_asked (not (nat_eq word n.incarnation)) (is_live word r.members) unshown

    by_states : (st : State) → n.state ≡ st
        → by_state st (Refused error.NotJoined) (calls.member_ask job (Worker word) n)
        (calls.leaving_ask job (Worker word) n) (Refused error.NotJoined) ≡ Refused error.NotJoined
    by_states Joining is = refl
    by_states (Member r) is = rw (may_not r (member r is)) refl
    by_states (Leaving r heir) is = rw (may_not r (leaving r heir is)) refl
    by_states Ended is = refl

pub depart_unshown : (job : JobOf) (word : ℕ) (n : NodeOf)
    → ((r : Roster) → n.state ≡ Member r → is_live word r.members ≡ false)
    → calls.depart job word n ≡ Refused (heirless n.state (is_some n.asker.pending))
unfolding calls.depart by_state
depart_unshown job word n member = by_states n.state refl
  where
    no_heir : (r : Roster) (pending : Bool) → is_live word r.members ≡ false
        → refusal (move_to job word n) pending r.members n.subs ≡ Some (cond pending freeze.Pending freeze.NoHeir)
    no_heir r true unshown = refl
    no_heir r false unshown =
        let lacks : lacks_heir (move_to job word n) r.members ≡ true =
        lacking (nat_eq word n.incarnation) (is_live word r.members) unshown in
        rw lacks refl

    at_member : (r : Roster) (pending : Bool) → is_live word r.members ≡ false
        → calls.frozen job (refusal (move_to job word n) pending r.members n.subs) (calls.departs job r word n)
        ≡ Refused (cond pending error.Pending error.NoHeir)
    at_member r pending unshown = ap (λ (o : Option FreezeError). calls.frozen job o (calls.departs job r word n))
        (no_heir r pending unshown) ∙ by_pending pending
      where
        by_pending : (b : Bool) → calls.frozen job (Some (cond b freeze.Pending freeze.NoHeir))
            (calls.departs job r word n) ≡ Refused (cond b error.Pending error.NoHeir)
        by_pending true = refl
        by_pending false = refl

    by_states : (st : State) → n.state ≡ st
        → by_state st (Refused error.NotJoined) (calls.member_depart job word n) (λ r _. Refused error.Busy)
        (Refused error.NotJoined) ≡ Refused (heirless st (is_some n.asker.pending))
    by_states Joining is = refl
    by_states (Member r) is = at_member r (is_some n.asker.pending) (member r is)
    by_states (Leaving r heir) is = refl
    by_states Ended is = refl
