-- Who is cut off in the tables is so in the world.
use Rattle.std.proofs.Common.{◌≡◌, ◌<◌, ℕ, inl, inr, Option, None, Some, refl, sym, ap, ◌∙◌, arith}
use Rattle.ids.specs.Members.{status_in}
use Rattle.ids.specs.declared.member.Status.{Status}
use Rattle.ids.specs.declared.member.Status.TheVariants as member
use Rattle.codec.specs.declared.body.Roster.{Roster as Kept}
use Rattle.serial_meaning.specs.Job.{JobOf}
use Rattle.node_state.specs.Node.{NodeOf}
use Rattle.node_state.specs.declared.parts.State.{State as Stage}
use Rattle.node_state.specs.declared.parts.State.TheVariants.{Joining, Member, Leaving, Ended}
use Rattle.clearinghouse.specs.House.{HouseOf, members_of, roster_of}
use Rattle.table_laws.specs.View.{Roster, Works, View}
use Rattle.table_laws.specs.View as tables
use Rattle.table_laws.specs.Recovery.{CutOff, dead, gone, behind}
use Rattle.table_laws.specs.Rosters.{Rosters}
use Rattle.table_laws.proofs.Lists.{none_some, some_same}
use Rattle.move_laws.specs.Listed.{status_of}
use Rattle.actor_laws.specs.node_moves.Shows.{mode_of, KeepsRoster, NodeShown, ShowsRoster}
use Rattle.actor_laws.proofs.house_moves.Publishing.{dead_of}
use Rattle.world_steps.specs.Lost.{IsBehind, IsCutAt, IsGone, NotLeft}
use Rattle.world_steps.specs.World.{WorldOf}
use Rattle.run_laws.specs.Shown.{Shown}

-- who isn't shown left in the tables isn't in the roster either
not_left : (o : Option Status) → ((heir : ℕ) → status_of o ≡ tables.Left heir → ⊥) → NotLeft o
not_left None f = tt
not_left (Some member.Live) f = tt
not_left (Some member.Dead) f = tt
not_left (Some (member.Left heir)) f = f heir refl

-- a node that doesn't work has ended
ended : (h : HouseOf) (x : Stage) → (Works (mode_of x) → ⊥) → IsBehind h x
ended h Joining f = f tt
ended h (Member r) f = absurd (f tt)
ended h (Leaving r heir) f = absurd (f tt)
ended h Ended f = tt

-- who keeps a roster of an epoch before is behind
behind_epoch : (epoch : ℕ) (o : Option Roster) (r : Roster) (q : Kept) → KeepsRoster o q → o ≡ Some r → r.epoch < epoch
    → q.epoch < epoch
behind_epoch epoch o r q kept is less =
    let same : r ≡ kept.roster = some_same (sym is ∙ kept.is) in
    let own : r.epoch ≡ q.epoch = ap (λ (x : Roster). x.epoch) same ∙ kept.shows.epoch in
    omega (arith, own, less)

-- one that joins keeps none
before : (v : View) (h : HouseOf) (n : NodeOf) → NodeShown v n → Rosters v → (r : Roster)
    → v.roster n.incarnation ≡ Some r → r.epoch < h.epoch → IsBehind h n.state
before v h n shown rosters r is less = by_state n.state refl
  where
    by_state : (x : Stage) → n.state ≡ x → IsBehind h x
    by_state Joining e = absurd (none_some (rosters.joins_without n.incarnation (shown.mode ∙ ap mode_of e)) is)
    by_state (Member q) e =
        let kept = (shown.parts (rw e tt)).roster in
        behind_epoch h.epoch (v.roster n.incarnation) r q (rw e at kept) is less
    by_state (Leaving q heir) e =
        let kept = (shown.parts (rw e tt)).roster in
        behind_epoch h.epoch (v.roster n.incarnation) r q (rw e at kept) is less
    by_state Ended e = tt

-- who is cut off from the open house's roster is cut off in the world
pub is_cut : (job : JobOf) (v : View) (w : WorldOf) → Shown job v w → Rosters v → (h : HouseOf) (house : Roster)
    → ShowsRoster house (roster_of h) → (i : ℕ) → CutOff v house i → IsCutAt w h i
is_cut job v w shown rosters h house shows i cut = by_cut cut
  where
    status : house.status i ≡ status_of (status_in i (members_of h))
    status = shows.members.status i

    unleft : ((heir : ℕ) → house.status i ≡ tables.Left heir → ⊥) → NotLeft (status_in i (members_of h))
    unleft f = not_left (status_in i (members_of h)) (λ heir e. f heir (status ∙ e))

    down : (Works (v.mode i) → ⊥) → IsGone w h i
    down idle a n at name =
        let mode : v.mode i ≡ mode_of n.state = ap v.mode (sym name) ∙ (shown.nodes a n at).mode in
        ended h n.state (λ up. idle (rw mode up))

    old : (r : Roster) → v.roster i ≡ Some r → r.epoch < house.epoch → IsGone w h i
    old r kept less a n at name = before v h n (shown.nodes a n at) rosters r (ap v.roster name
        ∙ kept) (rw shows.epoch at less)

    by_cut : CutOff v house i → IsCutAt w h i
    by_cut (dead e) = inl (dead_of (status_in i (members_of h)) (sym status ∙ e))
    by_cut (gone f idle) = inr (unleft f, down idle)
    by_cut (behind f r kept less) = inr (unleft f, old r kept less)
