-- What an OfferAck to a node that leaves leads to.
use Rattle.std.proofs.Common.{◌≡◌, ℕ, true, false, ◌&&◌, nat_eq, [], Option, refl}
use Rattle.std.specs.List.{list_any}
use Rattle.codec.specs.declared.body.Body.TheVariants as body
use Rattle.codec.specs.declared.body.OfferAck.{OfferAck}
use Rattle.codec.specs.declared.body.Roster.{Roster}
use Rattle.serial_meaning.specs.Job.{JobOf}
use Rattle.subcomputation.specs.Subs.{sub_in, without_sub}
use Rattle.node_state.specs.Node.{NodeOf, by_state, put_confirmed}
use Rattle.node_state.specs.Parts.{PartsOf, with_posts}
use Rattle.node_state.specs.declared.parts.State.TheVariants as stands
use Rattle.node_steps.specs.Cases.{Candidate, confirms, is_released, left_behind, on_body}
use Rattle.node_steps.specs.Meeting.{CanLeave, CanOffer, Carries, NodeOn}
use Rattle.node_steps.specs.Moves
use Rattle.node_steps.specs.declared.parts.Step.{Step}

-- one that leaves can offer what it holds
pub offering : (job : JobOf) (n : NodeOf) (r : Roster) (heir : ℕ) → n.state ≡ stands.Leaving r heir
    → CanLeave job n n.state → CanOffer (Moves.move_to job heir n) n.subs
offering job n r heir is can = rw is at can

-- what an OfferAck leaves
pub released : (job : JobOf) (choice : Option Candidate) (b : OfferAck) (n : NodeOf) (r : Roster) (heir : ℕ)
    → n.state ≡ stands.Leaving r heir → is_released heir b (sub_in b.grant n.subs) ≡ true
    → on_body job choice (body.OfferAck b) n ≡ left_behind job r heir (record n { subs = without_sub b.grant n.subs })
unfolding on_body by_state
released job choice b n r heir at is = rw at (rw is refl)

pub confirmed : (job : JobOf) (choice : Option Candidate) (b : OfferAck) (n : NodeOf) (r : Roster) (heir : ℕ)
    → n.state ≡ stands.Leaving r heir → is_released heir b (sub_in b.grant n.subs) ≡ false
    → (nat_eq b.hop 0 && list_any (confirms b) (Moves.awaited r n)) ≡ true
    → on_body job choice (body.OfferAck b) n
    ≡ left_behind job r heir (record n {
      confirmed = put_confirmed (record { thief = b.from; grant = b.grant }) n.confirmed;
    })
unfolding on_body by_state
confirmed job choice b n r heir at not_so is = rw at (rw not_so (rw is refl))

pub behind_view : (v w : NodeOn) (p : PartsOf) (f : NodeOf → NodeOf) (r : Roster) (heir : ℕ) (step : Step) → v ≡ w
    → p ≡ with_posts (f v.node) [] v.posts
    → step ≡ record { sent = Moves.leaves v.job r heir p.node; fills = []; ignored = false }
    → Carries (left_behind w.job r heir (f w.node)) step w (record { job = v.job; node = p.node; posts = p.posts })
behind_view v w p f r heir step same is told = rw (← same) (rw is at told, rw is refl)
