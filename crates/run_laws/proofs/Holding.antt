-- No grant has two live holders in a world that is tied.
use Rattle.std.proofs.Common.{◌≡◌, ℕ, Some, refl}
use Rattle.ids.specs.Names.{Grant}
use Rattle.codec.specs.declared.body.Roster.{Roster}
use Rattle.serial_meaning.specs.Job.{JobOf}
use Rattle.subcomputation.specs.Subs.{SubOf, sub_in}
use Rattle.node_state.specs.Node.{NodeOf}
use Rattle.node_state.specs.declared.parts.State.{State as Stage}
use Rattle.node_state.specs.declared.parts.State.TheVariants.{Joining, Member, Leaving, Ended}
use Rattle.table_laws.specs.View.{View}
use Rattle.table_laws.specs.View as tables
use Rattle.table_laws.specs.Facts.{Live}
use Rattle.table_laws.proofs.NamesReached.{names_reached}
use Rattle.table_laws.proofs.OneHead.{one_live}
use Rattle.table_laws.proofs.ValuesKept.{run_reached}
use Rattle.actor_laws.specs.node_moves.Shows.{IsShown, NodeShown}
use Rattle.actor_laws.proofs.node_moves.Held.{HeldAt, held_at}
use Rattle.actor_laws.proofs.node_moves.Members.{member_shown}
use Rattle.world_steps.specs.World.{Holder, WorldOf, live_at}
use Rattle.run_laws.specs.Shown.{Tied}

-- who holds something that isn't frozen is a member
pub record MemberHolds (n : NodeOf) (g : Grant) (s : SubOf) : Type 0 where
  pub roster : Roster
  pub is : n.state ≡ Member roster
  pub held : sub_in g n.subs ≡ Some s

pub member_holds : (n : NodeOf) (g : Grant) (s : SubOf) → sub_in g (live_at n.state n.subs) ≡ Some s → MemberHolds n g s
member_holds n g s there = by_state n.state refl there
  where
    by_state : (x : Stage) → n.state ≡ x → sub_in g (live_at x n.subs) ≡ Some s → MemberHolds n g s
    by_state Joining e f = cc
    by_state (Member r) e f = record { roster = r; is = e; held = f }
    by_state (Leaving r heir) e f = cc
    by_state Ended e f = cc

-- so it holds it live in the tables
pub record LiveThere (v : View) (i : ℕ) (g : Grant) (s : SubOf) : Type 0 where
  pub sub : tables.Sub
  pub live : Live v i g sub
  pub shown : IsShown sub s

pub live_there : (v : View) (n : NodeOf) (g : Grant) (s : SubOf) → NodeShown v n
    → sub_in g (live_at n.state n.subs) ≡ Some s → LiveThere v n.incarnation g s
live_there v n g s shown there =
    let m = member_holds n g s there in
    let h = member_shown v n m.roster m.is shown in
    let held : HeldAt (v.subs n.incarnation g) s =
    held_at (v.subs n.incarnation g) (sub_in g n.subs) s (h.parts.subs g) m.held in
    record { sub = held.sub; live = record { member = h.mode; holds = held.is }; shown = held.shown }

pub one_holder : (job : JobOf) (w : WorldOf) → Tied job w → (g : Grant) (a b : ℕ) → Holder w a g → Holder w b g → a ≡ b
one_holder job w tied g a b p q =
    let v = tied.view in
    let s = tied.shown in
    let x = live_there v p.node g p.sub (s.nodes a p.node p.up) p.live in
    let y = live_there v q.node g q.sub (s.nodes b q.node q.up) q.live in
    s.apart a b p.node q.node p.up q.up
    (one_live v (names_reached (run_reached tied.run)) p.node.incarnation q.node.incarnation g x.sub y.sub x.live
    y.live)
