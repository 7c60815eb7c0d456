-- What a request of a thief is answered.
use Rattle.std.proofs.Common.{◌≡◌, ℕ, ◌+◌, ◌^◌, true, false, nat_lt, List, Option, Some, None, is_some, Ordering, Less, Equal, Greater, refl, sym, ap, ◌∙◌}
use Rattle.std.specs.Ordering.{nat_cmp}
use Rattle.ids.specs.Names.{Grant}
use Rattle.codec.specs.Table.{PacketOf}
use Rattle.codec.specs.declared.body.Steal.{Steal}
use Rattle.level_deques.specs.declared.posts.Post.{Post}
use Rattle.level_deques.specs.Posts.{shallowest}
use Rattle.serial_meaning.specs.Job.{JobOf}
use Rattle.steal_protocol.specs.Replies.{Older, Again, Newer, by_order, by_reply, heard}
use Rattle.steal_protocol.specs.declared.replies.Reply.{Reply}
use Rattle.sub_rules.specs.Changes.{given_away, granted_out}
use Rattle.sub_rules.specs.Content.{Ready, ready_in, task_of}
use Rattle.subcomputation.specs.Subs.{SubOf, sub_in, with_content}
use Rattle.subcomputation.specs.Told.{SubGrant, given_by}
use Rattle.node_state.specs.Node.{NodeOf}
use Rattle.node_state.specs.Parts.{IsMember}
use Rattle.node_state.specs.Posts.{ReadyFrame, ready_of_sub}
use Rattle.node_state.proofs.Kept.{member_holds}
use Rattle.node_steps.specs.Cases.{candidate_in, served}
use Rattle.node_steps.specs.Choosing.{candidate_of, own_candidate}
use Rattle.node_steps.specs.Meeting.{gives}
use Rattle.node_steps.specs.Moves
use Rattle.node_steps.specs.Steps.{Answer, Does, Refused}
use Rattle.node_steps.specs.declared.error.NodeError.TheVariants as error

-- the frame that is chosen
chosen : (n : NodeOf) (posts : List Post) (p : Post) (o : Option SubOf) → IsMember n.state → shallowest posts ≡ Some p
    → sub_in p.grant n.subs ≡ o → candidate_in n (own_candidate posts) ≡ ready_of_sub p.frame o
chosen n posts p o member first there =
    ap (λ c. candidate_in n (candidate_of c)) first
    ∙ ap (λ subs. ready_of_sub p.frame (sub_in p.grant subs)) (member_holds n member)
    ∙ ap (ready_of_sub p.frame) there

abbrev ready_with : SubOf → Option Ready → Option ReadyFrame
ready_with s None = None
ready_with s (Some r) = Some (record { sub = s; ready = r })

module _ (job : JobOf) (b : Steal) (n : NodeOf) (posts : List Post) (p : Post) (member : IsMember n.state)
    (first : shallowest posts ≡ Some p) where
  -- nothing is held under its grant
  pub not_held : sub_in p.grant n.subs ≡ None
      → served job b (candidate_in n (own_candidate posts)) n ≡ Does (Moves.refuses job b.from b.seq n)
  not_held there = ap (λ o. served job b o n) (chosen n posts p None member first there)

  ready_by : (s : SubOf) (o : Option Ready) → sub_in p.grant n.subs ≡ Some s → ready_in p.frame s.content ≡ o
      → candidate_in n (own_candidate posts) ≡ ready_with s o
  ready_by s None there is = chosen n posts p (Some s) member first there ∙ rw is refl
  ready_by s (Some r) there is = chosen n posts p (Some s) member first there ∙ rw is refl

  pub not_ready : (s : SubOf) → sub_in p.grant n.subs ≡ Some s → is_some (ready_in p.frame s.content) ≡ false
      → served job b (candidate_in n (own_candidate posts)) n ≡ Does (Moves.refuses job b.from b.seq n)
  not_ready s there unready = by_ready (ready_in p.frame s.content) refl
    where
      by_ready : (o : Option Ready) → ready_in p.frame s.content ≡ o
          → served job b (candidate_in n (own_candidate posts)) n ≡ Does (Moves.refuses job b.from b.seq n)
      by_ready None is = ap (λ o. served job b o n) (ready_by s None there is)
      by_ready (Some r) is = let wrong : true ≡ false = rw is at unready in cc

  -- no grant is left to mint
  pub spent : (s : SubOf) → sub_in p.grant n.subs ≡ Some s → is_some (ready_in p.frame s.content) ≡ true
      → nat_lt (n.minted + 1) (2 ^ 64) ≡ false
      → served job b (candidate_in n (own_candidate posts)) n ≡ Refused error.Spent
  spent s there ready last = by_ready (ready_in p.frame s.content) refl
    where
      by_ready : (o : Option Ready) → ready_in p.frame s.content ≡ o
          → served job b (candidate_in n (own_candidate posts)) n ≡ Refused error.Spent
      by_ready None is = let wrong : false ≡ true = rw is at ready in cc
      by_ready (Some r) is = ap (λ o. served job b o n) (ready_by s (Some r) there is) ∙ rw last refl

  -- a frame is given away
  pub given : (s : SubOf) (name : Grant) (g : SubGrant) → sub_in p.grant n.subs ≡ Some s
      → nat_lt (n.minted + 1) (2 ^ 64) ≡ true → name ≡ record { minter = n.incarnation; number = n.minted + 1 }
      → Some g ≡ given_by s (given_away name b.from s.content (ready_in p.frame s.content))
      → served job b (candidate_in n (own_candidate posts)) n ≡ Does (gives job b name g n)
  given s name g there more named is = by_ready (ready_in p.frame s.content) refl is
    where
      by_ready : (o : Option Ready) → ready_in p.frame s.content ≡ o
          → Some g ≡ given_by s (given_away name b.from s.content o)
          → served job b (candidate_in n (own_candidate posts)) n ≡ Does (gives job b name g n)
      by_ready None ready at = cc
      by_ready (Some r) ready at =
          let equal : record { after = with_content s (granted_out name b.from r s.content); task = task_of r } ≡ g =
          cc in
          ap (λ o. served job b o n) (ready_by s (Some r) there ready) ∙ rw more (rw (← named) (rw (← equal) refl))

  pub not_given : (s : SubOf) (name : Grant) → sub_in p.grant n.subs ≡ Some s
      → is_some (ready_in p.frame s.content) ≡ true
      → None ≡ given_by s (given_away name b.from s.content (ready_in p.frame s.content)) → ⊥
  not_given s name there ready is = by_ready (ready_in p.frame s.content) refl is
    where
      by_ready : (o : Option Ready) → ready_in p.frame s.content ≡ o
          → None ≡ given_by s (given_away name b.from s.content o) → ⊥
      by_ready None unready at = let wrong : false ≡ true = rw unready at ready in cc
      by_ready (Some r) some at = cc

-- the same request again
pub record IsKept (o : Option Reply) (p : PacketOf) : Type 0 where
  pub reply : Reply
  pub there : o ≡ Some reply
  pub packet : reply.packet ≡ p

pub again : (o : Option Reply) (seq : ℕ) (p : PacketOf) → Again p ≡ heard o seq → IsKept o p
unfolding by_order
again None seq p is = cc
again (Some r) seq p is = by_cmp (nat_cmp seq r.seq) is
  where
    by_cmp : (c : Ordering) → Again p ≡ by_order c Older (Again r.packet) Newer → IsKept (Some r) p
    by_cmp Less at = cc
    by_cmp Equal at = record { reply = r; there = refl; packet = (let same : p ≡ r.packet = cc in sym same) }
    by_cmp Greater at = cc

pub answered_again : (o : Option Reply) (seq : ℕ) (p : PacketOf) (older newer : Answer) (same : PacketOf → Answer)
    → Again p ≡ heard o seq → by_reply o seq older same newer ≡ same p
unfolding by_order
answered_again None seq p older newer same is = cc
answered_again (Some r) seq p older newer same is = by_cmp (nat_cmp seq r.seq) is
  where
    by_cmp : (c : Ordering) → Again p ≡ by_order c Older (Again r.packet) Newer
        → by_order c older (same r.packet) newer ≡ same p
    by_cmp Less at = cc
    by_cmp Equal at = let kept : p ≡ r.packet = cc in ap same (sym kept)
    by_cmp Greater at = cc
