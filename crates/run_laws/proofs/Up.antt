-- What a name holds in the tables, a node of that name holds in the world.
use Rattle.std.proofs.Common.{◌≡◌, ℕ, Some, refl, sym, ap, ◌∙◌}
use Rattle.ids.specs.Names.{Grant}
use Rattle.codec.specs.declared.body.Roster.{Roster}
use Rattle.serial_meaning.specs.Job.{JobOf}
use Rattle.subcomputation.specs.Subs.{sub_in}
use Rattle.node_state.specs.Node.{NodeOf}
use Rattle.node_state.specs.declared.parts.State.{State as Stage}
use Rattle.node_state.specs.declared.parts.State.TheVariants.{Joining, Member, Leaving, Ended}
use Rattle.table_laws.specs.View.{House, Sub, Works, View}
use Rattle.table_laws.specs.View as tables
use Rattle.table_laws.specs.Facts.{Live}
use Rattle.actor_laws.specs.node_moves.Shows.{mode_of, IsShown, PartsShown}
use Rattle.actor_laws.proofs.node_moves.Held.{FoundSub, found_sub}
use Rattle.world_steps.specs.Lost.{IsFrozen}
use Rattle.world_steps.specs.World.{Holder, WorldOf, live_at, node_in}
use Rattle.run_laws.specs.Shown.{UpAt, Shown}

-- a node that is up, where it stands, and what it has
pub record NodeUp (v : View) (w : WorldOf) (i : ℕ) : Type 0 where
  pub at : ℕ
  pub node : NodeOf
  pub there : node_in at w.nodes ≡ Some node
  pub name : node.incarnation ≡ i
  pub mode : v.mode i ≡ mode_of node.state
  pub parts : PartsShown v node

-- who works in the tables and is no house works in the world
pub node_up : (job : JobOf) (v : View) (w : WorldOf) → Shown job v w → (i : ℕ) → Works (v.mode i)
    → (v.mode i ≡ House → ⊥) → NodeUp v w i
node_up job v w shown i works not_house =
    let up : UpAt w i = shown.up i works not_house in
    let node = shown.nodes up.at up.node up.there in
    let mode : v.mode i ≡ mode_of up.node.state = ap v.mode (sym up.name) ∙ node.mode in
    record {
      at = up.at;
      node = up.node;
      there = up.there;
      name = up.name;
      mode = mode;
      parts = node.parts (rw mode at works);
    }

-- a member is one in the world
pub member_state : (x : Stage) → mode_of x ≡ tables.Member → (r : Roster) × (x ≡ Member r)
member_state Joining e = cc
member_state (Member r) e = (r, refl)
member_state (Leaving r heir) e = cc
member_state Ended e = cc

-- and one that leaves too
leaving_state : (x : Stage) (to : ℕ) → mode_of x ≡ tables.Leaving to → (r : Roster) × (heir : ℕ) × (x ≡ Leaving r heir)
leaving_state Joining to e = cc
leaving_state (Member r) to e = cc
leaving_state (Leaving r heir) to e = (r, heir, refl)
leaving_state Ended to e = cc

-- a live sub has a live holder
pub record HeldLive (w : WorldOf) (g : Grant) (t : Sub) : Type 0 where
  pub at : ℕ
  pub holder : Holder w at g
  pub shown : IsShown t holder.sub

module _ (job : JobOf) (v : View) (w : WorldOf) (shown : Shown job v w) where
  node_holds : (i : ℕ) (g : Grant) (t : Sub) → (n : NodeUp v w i) → v.subs i g ≡ Some t
      → FoundSub t (sub_in g n.node.subs)
  node_holds i g t n holds = found_sub (v.subs n.node.incarnation g) (sub_in g n.node.subs) t (n.parts.subs g)
      (ap (λ k. v.subs k g) n.name ∙ holds)

  pub held_live : (i : ℕ) (g : Grant) (t : Sub) → Live v i g t → HeldLive w g t
  held_live i g t live =
      let n : NodeUp v w i = node_up job v w shown i (rw live.member tt) (λ e. let two : tables.Member ≡ House =
      sym live.member ∙ e in cc) in
      let state = member_state n.node.state (sym n.mode ∙ live.member) in
      let held = node_holds i g t n live.holds in
      let there : sub_in g (live_at n.node.state n.node.subs) ≡ Some held.sub =
      ap (λ x. sub_in g (live_at x n.node.subs)) state.1 ∙ held.is in
      record {
        at = n.at;
        holder = record { node = n.node; sub = held.sub; up = n.there; live = there };
        shown = held.shown;
      }

  pub held_frozen : (i heir : ℕ) (g : Grant) (t : Sub) → v.mode i ≡ tables.Leaving heir → v.subs i g ≡ Some t
      → IsFrozen w g
  held_frozen i heir g t leaving holds =
      let n : NodeUp v w i = node_up job v w shown i (rw leaving tt) (λ e. let two : tables.Leaving heir ≡ House =
      sym leaving ∙ e in cc) in
      let state = leaving_state n.node.state heir (sym n.mode ∙ leaving) in
      let held = node_holds i g t n holds in
      record { at = n.at; node = n.node; sub = held.sub; up = n.there; leaving = rw state.2 tt; held = held.is }
