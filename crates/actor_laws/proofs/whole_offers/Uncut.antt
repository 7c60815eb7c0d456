-- What a node sends is what goes, but for large Offers, which go in their pieces.
use Rattle.std.proofs.Common.{◌≡◌, ℕ, List, [], ◌∷◌, ◌++◌, Option, None, Some, is_some, refl, ap, ◌∙◌}
use Rattle.std.proofs.lemmas.Grind.{flat_map-append}
use Rattle.ids.specs.Names.{Grant}
use Rattle.codec.specs.Pieces.{cut, cut_all}
use Rattle.codec.specs.Table.{PacketOf}
use Rattle.codec.specs.declared.body.Roster.{Roster}
use Rattle.departure.specs.Freezing.{refusal}
use Rattle.departure.specs.declared.freezing.FreezeError.{FreezeError}
use Rattle.serial_meaning.specs.Job.{JobOf}
use Rattle.node_state.specs.Assemblies.{AssemblyOf}
use Rattle.node_state.specs.Node.{NodeOf, by_state}
use Rattle.node_state.specs.declared.parts.State.{State}
use Rattle.node_state.specs.declared.parts.State.TheVariants.{Joining, Member, Leaving, Ended}
use Rattle.node_steps.specs.Calls as calls
use Rattle.node_steps.specs.Cases.{Candidate, on_packet}
use Rattle.node_steps.specs.Moves as moves
use Rattle.node_steps.specs.Steps.{Answer, Does, Forgets, Ignored, Refused, StepOf, sends}
use Rattle.node_steps.specs.declared.error.NodeError.TheVariants as error
use Rattle.node_steps.specs.declared.parts.Victim.{Victim}
use Rattle.table_laws.proofs.Among.{filtered}
use Rattle.actor_laws.specs.whole_offers.Plain.{ArePlain, IsNewBy, IsPlainNode, NoOffers, NoneNew}
use Rattle.actor_laws.specs.whole_offers.Whole.{cut_answer, cut_step}
use Rattle.actor_laws.proofs.whole_offers.Calls.{ask_plain, exec_ready_plain, grants_plain, member_again, whole_ready_plain}
use Rattle.actor_laws.proofs.whole_offers.Cutting.{plain_uncut}
use Rattle.actor_laws.proofs.whole_offers.Rows.{leaves_plain, packet_plain}

plain_answer : (New : AssemblyOf → Type 0) (n : NodeOf) (a : Answer) → NoOffers New n a → cut_answer a ≡ a
plain_answer New n Ignored is = refl
plain_answer New n (Refused e) is = refl
plain_answer New n (Does s) is = ap (λ ps. Does (record s { sent = ps })) (plain_uncut s.sent is.sent)
plain_answer New n (Forgets k) is = refl

-- some packets and then plain ones
then_plain : (first rest : List PacketOf) → ArePlain rest → cut_all (first ++ rest) ≡ cut_all first ++ rest
then_plain first rest plain = flat_map-append cut first rest ∙ ap (λ ps. cut_all first ++ ps) (plain_uncut rest plain)

module _ (job : JobOf) (n : NodeOf) (plain : IsPlainNode n) where
  pub packet_uncut : (choice : Option Candidate) (p : PacketOf)
      → cut_answer (on_packet job choice p n) ≡ on_packet job choice p n
  packet_uncut choice p = plain_answer (IsNewBy p.body n) n (on_packet job choice p n)
      (packet_plain job n plain choice p)

  pub exec_ready_uncut : (g : Grant) (f : ℕ) → cut_answer (calls.exec_ready job g f n) ≡ calls.exec_ready job g f n
  exec_ready_uncut g f = plain_answer NoneNew n (calls.exec_ready job g f n) (exec_ready_plain job n plain g f)

  pub whole_ready_uncut : (most : ℕ) (g : Grant) (f : ℕ)
      → cut_answer (calls.whole_ready job most g f n) ≡ calls.whole_ready job most g f n
  whole_ready_uncut most g f = plain_answer NoneNew n (calls.whole_ready job most g f n)
      (whole_ready_plain job n plain most g f)

  pub ask_uncut : (victim : Victim) → cut_answer (calls.ask job victim n) ≡ calls.ask job victim n
  ask_uncut victim = plain_answer NoneNew n (calls.ask job victim n) (ask_plain job n plain victim)

  -- a departure
  frozen_cut : (o : Option FreezeError) (s t : StepOf) → cut_step s ≡ t
      → cut_answer (calls.frozen job o s) ≡ calls.frozen job o t
  frozen_cut None s t e = ap Does e
  frozen_cut (Some f) s t e = refl

  departs_cut : (r : Roster) (heir : ℕ) → cut_step (calls.whole_departs job r heir n) ≡ calls.departs job r heir n
  departs_cut r heir =
      let gone : NodeOf = record n { state = Leaving r heir; assemblies = [] } in
      ap (λ ps. sends ps gone) (then_plain (calls.wholes job heir n) (moves.leaves job r heir gone)
      (leaves_plain NoneNew job n plain r heir gone))

  pub depart_cut : (heir : ℕ) → cut_answer (calls.whole_depart job heir n) ≡ calls.depart job heir n
  unfolding calls.whole_depart calls.depart by_state
  depart_cut heir = by_where n.state
    where
      by_where : (x : State) → cut_answer
          (by_state x (Refused error.NotJoined) (calls.whole_member_depart job heir n) (λ r y. Refused error.Busy)
          (Refused error.NotJoined)) ≡ by_state x (Refused error.NotJoined) (calls.member_depart job heir n)
          (λ r y. Refused error.Busy) (Refused error.NotJoined)
      by_where Joining = refl
      by_where (Member r) = frozen_cut (refusal (moves.move_to job heir n) (is_some n.asker.pending) r.members n.subs)
          (calls.whole_departs job r heir n) (calls.departs job r heir n) (departs_cut r heir)
      by_where (Leaving r y) = refl
      by_where Ended = refl

  -- what is sent again
  leaving_cut : (r : Roster) (heir : ℕ)
      → cut_all (calls.whole_leaving_resend job n r heir) ≡ calls.leaving_resend job n r heir
  leaving_cut r heir =
      let awaited : List PacketOf = moves.grants_in (moves.awaited r n) in
      let last : List PacketOf = moves.leaves job r heir n in
      let first : List PacketOf = moves.beat job n.incarnation r ∷ calls.wholes job heir n in
      let grants : ArePlain awaited = grants_plain (moves.awaited r n)
      (λ y k. plain.replies y (filtered _ y n.replies k)) in
      let over : ArePlain last = leaves_plain NoneNew job n plain r heir n in
      then_plain (first ++ awaited) last over ∙ ap (λ ps. ps ++ last) (then_plain first awaited grants)

  pub resend_cut : cut_answer (calls.whole_resend job n) ≡ calls.resend job n
  unfolding calls.whole_resend calls.resend by_state
  resend_cut = by_where n.state
    where
      by_where : (x : State)
          → cut_answer (by_state x (Does (sends (calls.join job n.incarnation ∷ []) n))
          (λ r. Does (sends (calls.member_resend job n r) n))
          (λ r heir. Does (sends (calls.whole_leaving_resend job n r heir) n)) (Refused error.NotJoined))
          ≡ by_state x (Does (sends (calls.join job n.incarnation ∷ []) n))
          (λ r. Does (sends (calls.member_resend job n r) n))
          (λ r heir. Does (sends (calls.leaving_resend job n r heir) n)) (Refused error.NotJoined)
      by_where Joining = refl
      by_where (Member r) = ap (λ ps. Does (sends ps n))
          (plain_uncut (calls.member_resend job n r) (member_again job n plain r))
      by_where (Leaving r heir) = ap (λ ps. Does (sends ps n)) (leaving_cut r heir)
      by_where Ended = refl
