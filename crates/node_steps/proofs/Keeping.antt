-- What holds of a node between its calls is kept by its moves.
use Rattle.std.proofs.Common.{◌≡◌, ℕ, Bool, true, false, not, List, Option, Some, None, IsTrue, refl, sym, ◌∙◌}
use Rattle.std.specs.List.{AllByRecursion}
use Rattle.ids.specs.Keyed.{has_key}
use Rattle.ids.specs.Named.{name_cmp}
use Rattle.ids.specs.Names.{Grant}
use Rattle.ids.specs.Naming.{name_of_grant}
use Rattle.codec.specs.Table.{is_short}
use Rattle.level_deques.specs.declared.posts.Post.{Post}
use Rattle.serial_meaning.specs.Job.{JobOf}
use Rattle.steal_protocol.specs.Replies.{name_of_reply, put_reply, reply_in}
use Rattle.steal_protocol.specs.declared.replies.Reply.{Reply}
use Rattle.task_tree.specs.declared.tree.Program.{Program}
use Rattle.departure.specs.Freezing.{IsMovable}
use Rattle.sub_rules.proofs.Sums.{all_filtered, all_found, all_put}
use Rattle.subcomputation.specs.Fitting.{Fits}
use Rattle.subcomputation.specs.Subs.{SubOf, name_of_sub, put_sub, ready_frames, sub_in, without_sub}
use Rattle.subcomputation.proofs.Others.{without_itself, without_other}
use Rattle.node_state.specs.Node.{NodeOf, holding}
use Rattle.steal_protocol.specs.Requests.{without_request}
use Rattle.node_state.specs.declared.parts.State.{State}
use Rattle.node_state.specs.declared.parts.State.TheVariants.{Joining, Member, Leaving, Ended}
use Rattle.node_state.specs.Parts.{IsMember, PartsOf, put_some, same_grant, with_posts}
use Rattle.node_state.specs.Posts.{posts_after}
use Rattle.node_state.proofs.Keeping.{found_after}
use Rattle.node_state.proofs.Posting.{differs, same_name, same_names}
use Rattle.node_steps.specs.Meeting.{CanLeave, IsNode, NodeOn}
use Rattle.node_steps.specs.Moves.{move_to}

abbrev on : JobOf → NodeOf → List Post → NodeOn
on job n posts = record { job = job; node = n; posts = posts }

abbrev AllShort : List Reply → Type 0
AllShort replies = AllByRecursion (λ r. IsTrue (is_short r.packet.body)) replies

-- a node that leaves can still offer what it holds, where that is the same or less
same_at : (job : JobOf) (n m : NodeOf) (st : State) → m.incarnation ≡ n.incarnation → m.subs ≡ n.subs
    → CanLeave job n st → CanLeave job m st
same_at job n m Joining name subs is = tt
same_at job n m (Member r) name subs is = tt
same_at job n m (Leaving r heir) name subs is = rw name (rw subs is)
same_at job n m Ended name subs is = tt

pub same_leaving : (job : JobOf) (n m : NodeOf) → m.incarnation ≡ n.incarnation → m.state ≡ n.state → m.subs ≡ n.subs
    → CanLeave job n n.state → CanLeave job m m.state
same_leaving job n m name state subs is = rw state (same_at job n m n.state name subs is)

member_at : (job : JobOf) (n : NodeOf) (st : State) → IsMember st → CanLeave job n st
member_at job n Joining is = absurd is
member_at job n (Member r) is = tt
member_at job n (Leaving r heir) is = absurd is
member_at job n Ended is = absurd is

pub member_leaving : (job : JobOf) (n m : NodeOf) → m.state ≡ n.state → IsMember n.state → CanLeave job m m.state
member_leaving job n m state is = rw state (member_at job m n.state is)

less_at : (job : JobOf) (n m : NodeOf) (g : Grant) (st : State) → m.incarnation ≡ n.incarnation
    → m.subs ≡ without_sub g n.subs → CanLeave job n st → CanLeave job m st
less_at job n m g Joining name subs is = tt
less_at job n m g (Member r) name subs is = tt
less_at job n m g (Leaving r heir) name subs is = rw name (rw subs (record {
  other = is.other;
  movable = all_filtered (IsMovable (move_to job heir n))
      (λ s. not (has_key name_of_sub name_cmp (name_of_grant g) s)) n.subs is.movable;
}))
less_at job n m g Ended name subs is = tt

-- an answer is kept
pub answered : (job : JobOf) (n m : NodeOf) (r : Reply) (posts after : List Post) → IsNode (on job n posts)
    → m.incarnation ≡ n.incarnation → m.state ≡ n.state → m.subs ≡ n.subs → m.replies ≡ put_reply r n.replies
    → IsTrue (is_short r.packet.body) → IsNode (on job m after)
answered job n m r posts after is name state subs replies short = record {
  leaving = same_leaving job n m name state subs is.leaving;
  short = rw replies (all_put name_of_reply (λ x. IsTrue (is_short x.packet.body)) r n.replies short is.short);
  fits = λ g s there. is.fits g s (rw subs at there);
  rising = rw state is.rising;
}

-- nothing that is held changes, and no answer
pub kept : (job : JobOf) (n m : NodeOf) (posts after : List Post) → IsNode (on job n posts) → CanLeave job m m.state
    → m.state ≡ n.state → m.subs ≡ n.subs → m.replies ≡ n.replies → IsNode (on job m after)
kept job n m posts after is leaving state subs replies = record {
  leaving = leaving;
  short = rw replies is.short;
  fits = λ g s there. is.fits g s (rw subs at there);
  rising = rw state is.rising;
}

-- a subcomputation comes to a member, or changes there
pub held : (job : JobOf) (n m : NodeOf) (s : SubOf) (posts after : List Post) → IsNode (on job n posts)
    → IsMember n.state → m.state ≡ n.state → m.subs ≡ put_sub s n.subs → m.replies ≡ n.replies
    → Fits job.program s.content → IsNode (on job m after)
held job n m s posts after is member state subs replies fits = record {
  leaving = member_leaving job n m state member;
  short = rw replies is.short;
  fits = λ g t there. found_after (λ k u. Fits job.program u.content) s n.subs fits is.fits g t (rw subs at there);
  rising = rw state is.rising;
}

pub given : (job : JobOf) (n m : NodeOf) (s : SubOf) (r : Reply) (posts after : List Post) → IsNode (on job n posts)
    → IsMember n.state → m.state ≡ n.state → m.subs ≡ put_sub s n.subs → m.replies ≡ put_reply r n.replies
    → Fits job.program s.content → IsTrue (is_short r.packet.body) → IsNode (on job m after)
given job n m s r posts after is member state subs replies fits short = record {
  leaving = member_leaving job n m state member;
  short = rw replies (all_put name_of_reply (λ x. IsTrue (is_short x.packet.body)) r n.replies short is.short);
  fits = λ g t there. found_after (λ k u. Fits job.program u.content) s n.subs fits is.fits g t (rw subs at there);
  rising = rw state is.rising;
}

-- what an Offer handed on comes to a member, unless a recovery dropped it
abbrev pub FitsIf : Program → Option SubOf → Type 0
FitsIf p None = Unit {0}
FitsIf p (Some s) = Fits p s.content

pub came : (job : JobOf) (n m : NodeOf) (o : Option SubOf) (posts after : List Post) → IsNode (on job n posts)
    → IsMember n.state → m.state ≡ n.state → m.subs ≡ put_some o n.subs → m.replies ≡ n.replies → FitsIf job.program o
    → IsNode (on job m after)
came job n m None posts after is member state subs replies fits =
    kept job n m posts after is (member_leaving job n m state member) state subs replies
came job n m (Some s) posts after is member state subs replies fits =
    held job n m s posts after is member state subs replies fits

-- a subcomputation goes
left_there : (g h : Grant) (s : SubOf) (subs : List SubOf) → sub_in h (without_sub g subs) ≡ Some s
    → sub_in h subs ≡ Some s
left_there g h s subs there = by_grant (same_grant h g) refl
  where
    by_grant : (b : Bool) → same_grant h g ≡ b → sub_in h subs ≡ Some s
    by_grant true is =
        let none : sub_in g (without_sub g subs) ≡ None = without_itself name_of_sub (name_of_grant g) subs in
        let at : sub_in g (without_sub g subs) ≡ Some s = rw (same_name h g is) at there in
        cc
    by_grant false is = sym (without_other name_of_sub (name_of_grant h) (name_of_grant g) subs
        (λ at. differs h g is (same_names h g at))) ∙ there

pub gone : (job : JobOf) (n m : NodeOf) (g : Grant) (posts after : List Post) → IsNode (on job n posts)
    → m.incarnation ≡ n.incarnation → m.state ≡ n.state → m.subs ≡ without_sub g n.subs → m.replies ≡ n.replies
    → IsNode (on job m after)
gone job n m g posts after is name state subs replies = record {
  leaving = rw state (less_at job n m g n.state name subs is.leaving);
  short = rw replies is.short;
  fits = λ h s there. is.fits h s (left_there g h s n.subs (rw subs at there));
  rising = rw state is.rising;
}

-- the answer that a thief had is short
pub short_reply : (r : Reply) (n : NodeOf) (thief : ℕ) → AllShort n.replies → reply_in thief n.replies ≡ Some r
    → IsTrue (is_short r.packet.body)
short_reply r n thief short there = all_found name_of_reply (λ x. IsTrue (is_short x.packet.body))
    (thief, 0) r n.replies short there

-- a node that took a subcomputation, seen whole
pub taken_view : (v w : NodeOn) (p : PartsOf) (s t : SubOf) → v ≡ w → s ≡ t
    → p ≡ with_posts (holding s (record v.node { asker = without_request v.node.asker })) (ready_frames s) v.posts
    → on v.job p.node p.posts ≡ record w {
      node = holding t (record w.node { asker = without_request w.node.asker });
      posts = posts_after (holding t (record w.node { asker = without_request w.node.asker })) (ready_frames t) w.posts;
    }
taken_view v w p s t same equal is = rw is (rw same (rw equal refl))
