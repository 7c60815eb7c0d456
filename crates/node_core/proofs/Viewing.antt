-- What is shown of a node's ready frames.
use Rattle.std.proofs.Common.{◌≡◌, ℕ, List, [], Option, Some, None, slice_get, refl, ap, ◌∙◌}
use Rattle.ids.specs.Options.{◌>>=◌}
use Rattle.codec.specs.declared.body.Roster.{Roster}
use Rattle.level_deques.specs.declared.posts.Post.{Post}
use Rattle.level_deques.specs.Posts.{by_depth}
use Rattle.sub_rules.specs.Content.{Ready, ready_in}
use Rattle.subcomputation.specs.Subs.{SubOf, sub_in}
use Rattle.node_state.specs.Node.{NodeOf, by_state}
use Rattle.node_state.specs.Parts.{IsMember}
use Rattle.node_state.specs.Posts.{live_subs, ready_of_sub}
use Rattle.node_state.specs.declared.parts.State.{State}
use Rattle.node_state.specs.declared.parts.State.TheVariants.{Joining, Member, Leaving, Ended}
use Rattle.node_state.proofs.Kept.{member_holds}
use Rattle.node_steps.specs.declared.work.Work.{Work}
use Rattle.node_steps.specs.Ready.{work_at, work_in, work_of}

-- the work of a frame of a subcomputation that may be there
abbrev work_in_sub : Post → Option SubOf → Option Work
work_in_sub p o = ready_of_sub p.frame o >>= λ f. Some (work_of p.grant f)

module _ (n : NodeOf) (posts : List Post) (i : ℕ) where
  at_none : slice_get (by_depth posts) i ≡ None → work_at n posts i ≡ None
  at_none is = rw is refl

  at_post : (p : Post) → slice_get (by_depth posts) i ≡ Some p
      → work_at n posts i ≡ work_in_sub p (sub_in p.grant (live_subs n))
  at_post p is = rw is refl

  -- where nothing is held that isn't frozen
  nothing_live : live_subs n ≡ [] → work_at n posts i ≡ None
  nothing_live none = by_post (slice_get (by_depth posts) i) refl
    where
      by_post : (o : Option Post) → slice_get (by_depth posts) i ≡ o → work_at n posts i ≡ None
      by_post None is = at_none is
      by_post (Some p) is = at_post p is ∙ ap (λ subs. work_in_sub p (sub_in p.grant subs)) none

  held : (p : Post) (o : Option SubOf) → IsMember n.state → slice_get (by_depth posts) i ≡ Some p
      → sub_in p.grant n.subs ≡ o → work_at n posts i ≡ work_in_sub p o
  held p o member is there =
      at_post p is
      ∙ ap (λ subs. work_in_sub p (sub_in p.grant subs)) (member_holds n member)
      ∙ ap (work_in_sub p) there

  pub not_held : (p : Post) → IsMember n.state → slice_get (by_depth posts) i ≡ Some p → sub_in p.grant n.subs ≡ None
      → work_at n posts i ≡ None
  not_held p member is there = held p None member is there

  pub held_by : (p : Post) (s : SubOf) → IsMember n.state → slice_get (by_depth posts) i ≡ Some p
      → sub_in p.grant n.subs ≡ Some s → work_at n posts i ≡ work_in p.grant p.frame s.content
  held_by p s member is there = held p (Some s) member is there ∙ by_ready (ready_in p.frame s.content) refl
    where
      by_ready : (o : Option Ready) → ready_in p.frame s.content ≡ o
          → work_in_sub p (Some s) ≡ work_in p.grant p.frame s.content
      by_ready None ready = rw ready refl
      by_ready (Some r) ready = rw ready refl

-- nothing is live at a node that is no member
live_by : (st : State) (subs : List SubOf) → ((r : Roster) → st ≡ Member r → ⊥)
    → by_state st [] (λ r. subs) (λ r heir. []) [] ≡ []
unfolding by_state
live_by Joining subs other = refl
live_by (Member r) subs other = absurd (other r refl)
live_by (Leaving r heir) subs other = refl
live_by Ended subs other = refl

pub nothing_outside : (n : NodeOf) (posts : List Post) (i : ℕ) → ((r : Roster) → n.state ≡ Member r → ⊥)
    → work_at n posts i ≡ None
nothing_outside n posts i other = nothing_live n posts i (live_by n.state n.subs other)

pub is_member : (st : State) (r : Roster) → st ≡ Member r → IsMember st
is_member st r is = rw is tt
