-- Another's moves leave a node shown as it was; steps of one node come one after another.
use Rattle.std.proofs.Common.{◌≡◌, ℕ, inl, inr, ⊎_elim, Option, refl, sym, ◌∙◌}
use Rattle.node_state.specs.Node.{NodeOf}
use Rattle.node_state.specs.declared.parts.State.{State}
use Rattle.node_steps.specs.Steps.{StepOf, quiet, ◌then◌}
use Rattle.table_laws.specs.View.{Transfer, View}
use Rattle.table_laws.specs.View as tables
use Rattle.table_laws.specs.Meaning.{Meaning}
use Rattle.move_laws.specs.Beside.{SameAt, KeepsSent, MovedBy, unmoved, moved}
use Rattle.move_laws.proofs.Sent.{keeps_all}
use Rattle.actor_laws.specs.node_moves.Shows.{ShowsState, NodeShown}
use Rattle.actor_laws.specs.node_moves.Steps.{StepShown}
use Rattle.actor_laws.proofs.node_moves.Told.{packet_kept, all_shown, both_shown, sent_early, sent_late, fills_on}

-- the rosters that it keeps
same_state : (o q : Option tables.Roster) (s : State) → q ≡ o → ShowsState o s → ShowsState q s
same_state o q s e k = rw e k

pub node_beside : (v w : View) (n : NodeOf) → SameAt v w n.incarnation → KeepsSent v w → NodeShown v n → NodeShown w n
node_beside v w n same keeps s = record {
  mode = same.mode ∙ s.mode;
  parts = λ up. (
      let p = s.parts up in
      record {
        minted = same.minted ∙ p.minted;
        asked = same.asked ∙ p.asked;
        pending = same.pending ∙ p.pending;
        seen = λ g. same.seen g ∙ p.seen g;
        subs = λ g. rw (same.subs g) (p.subs g);
        order = p.order;
        replies = λ t. rw (same.kept t) (p.replies t);
        said = λ t r e. packet_kept keeps r.packet (p.said t r e);
        reply_order = p.reply_order;
        confirmed = λ t g e. keeps.acks _ (p.confirmed t g e);
        roster = same_state _ _ n.state same.roster p.roster;
      });
}

-- moves after moves
pub way_on : {m : Meaning} {i : ℕ} {u v w : View} → MovedBy m i u v → MovedBy m i v w → MovedBy m i u w
way_on a unmoved = a
way_on a (moved b act right is) = moved (way_on a b) act right is

-- a step, and then another
pub steps_on : (m : Meaning) (job : ℕ) (v : View) (n : NodeOf) (s : StepOf) (f : NodeOf → StepOf)
    → (a : StepShown m job v n s) → StepShown m job a.view s.after (f s.after) → StepShown m job v n (s then f)
steps_on m job v n s f a b = record {
  view = b.view;
  way = way_on a.way (rw a.name at b.way);
  name = b.name ∙ a.name;
  node = b.node;
  sent = both_shown b.view s.sent (f s.after).sent (all_shown (keeps_all b.way) s.sent a.sent) b.sent;
  transfers = λ t x. ⊎_elim
      (λ old. ⊎_elim (λ o. inl o) (λ new. inr (sent_early s.sent (f s.after).sent t new)) (a.transfers t old))
      (λ new. inr (sent_late s.sent (f s.after).sent t new))
      (b.transfers t x);
  fills = b.fills ∙ (let e = a.fills in rw e refl) ∙ sym (fills_on s.fills (f s.after).fills v.fills);
}

-- nothing happens
pub stays_shown : (m : Meaning) (job : ℕ) (v : View) (n : NodeOf) → NodeShown v n → StepShown m job v n (quiet n)
stays_shown m job v n s = record {
  view = v;
  way = unmoved;
  name = refl;
  node = s;
  sent = λ p x. absurd x;
  transfers = λ t x. inl x;
  fills = refl;
}
