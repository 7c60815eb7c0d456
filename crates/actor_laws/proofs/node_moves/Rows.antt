-- The rows of a leaving node, a node's own calls, and the whole table.
use Rattle.std.proofs.Common.{◌≡◌, ℕ, Bool, true, false, cond, [], not, nat_eq, ◌||◌, Option, None, Some, is_some, refl, arith}
use Rattle.std.specs.List.{list_any}
use Rattle.ids.specs.Members.{is_live}
use Rattle.codec.specs.declared.body.Roster.{Roster}
use Rattle.serial_meaning.specs.Job.{JobOf}
use Rattle.departure.specs.Freezing.{lacks_heir, wholes as offers_of}
use Rattle.departure.specs.Offers.{is_last_hop, is_too_big}
use Rattle.departure.specs.declared.freezing.FreezeError.TheVariants as freezing
use Rattle.steal_protocol.specs.declared.asker.Request.{Request}
use Rattle.node_state.specs.Node.{NodeOf}
use Rattle.node_state.specs.declared.parts.State.TheVariants.{Leaving, Member}
use Rattle.node_steps.specs.Calls as calls
use Rattle.node_steps.specs.Moves.{leaves, move_to}
use Rattle.node_steps.specs.Steps.{sends}
use Rattle.table_laws.specs.View.{View}
use Rattle.table_laws.specs.Meaning.{Meaning}
use Rattle.table_laws.specs.Runs.{Run}
use Rattle.move_laws.proofs.Sent.{runs_on}
use Rattle.actor_laws.specs.node_moves.Shows.{NodeShown}
use Rattle.actor_laws.specs.node_moves.Steps.{StepShown, AnswerShown}
use Rattle.actor_laws.proofs.node_moves.Beside.{steps_on}
use Rattle.actor_laws.proofs.node_moves.Departing.{MayDepart, freezes_shown}
use Rattle.actor_laws.proofs.node_moves.Leaving.{leaves_shown}

-- a member departs
module _ (m : Meaning) (job : JobOf) (v : View) (n : NodeOf) (r : Roster) (run : Run m v) (is : n.state ≡ Member r)
    (shown : NodeShown v n) where
  departs_shown : (heir : ℕ) → MayDepart n r heir → StepShown m job.number v n (calls.whole_departs job r heir n)
  departs_shown heir may =
      let gone : NodeOf = record n { state = Leaving r heir; assemblies = [] } in
      let a = freezes_shown m job v n r run is shown heir may in
      let b = leaves_shown m job a.view gone r heir (runs_on run a.way) refl a.node in
      steps_on m job.number v n (sends (calls.wholes job heir n) gone) (λ k. sends (leaves job r heir gone) gone) a b

  pub member_depart_shown : (heir : ℕ) → AnswerShown m job.number v n (calls.whole_member_depart job heir n r)
  member_depart_shown heir = by_pending n.asker.pending refl
    where
      by_rest : MayDepart n r heir → (b c : Bool)
          → AnswerShown m job.number v n (calls.frozen job
          (cond b (Some freezing.HopSpent) (cond c (Some freezing.TooBig) None)) (calls.whole_departs job r heir n))
      by_rest may true c = tt
      by_rest may false true = tt
      by_rest may false false = departs_shown heir may

      by_live : n.asker.pending ≡ None → (heir ≡ n.incarnation → ⊥) → (b : Bool) → is_live heir r.members ≡ b
          → AnswerShown m job.number v n (calls.frozen job
          (cond (not b) (Some freezing.NoHeir)
          (cond (list_any is_last_hop n.subs) (Some freezing.HopSpent)
          (cond (list_any is_too_big (offers_of (move_to job heir n) n.subs)) (Some freezing.TooBig) None)))
          (calls.whole_departs job r heir n))
      by_live none other false e = tt
      by_live none other true e = by_rest (record { idle = none; other = other; live = e })
          (list_any is_last_hop n.subs) (list_any is_too_big (offers_of (move_to job heir n) n.subs))

      by_self : n.asker.pending ≡ None → (b : Bool) → nat_eq heir n.incarnation ≡ b
          → AnswerShown m job.number v n (calls.frozen job
          (cond (b || not (is_live heir r.members)) (Some freezing.NoHeir)
          (cond (list_any is_last_hop n.subs) (Some freezing.HopSpent)
          (cond (list_any is_too_big (offers_of (move_to job heir n) n.subs)) (Some freezing.TooBig) None)))
          (calls.whole_departs job r heir n))
      by_self none true e = tt
      by_self none false e = by_live none (λ same. grind (arith, e, same)) (is_live heir r.members) refl

      by_pending : (o : Option Request) → n.asker.pending ≡ o
          → AnswerShown m job.number v n (calls.frozen job
          (cond (is_some o) (Some freezing.Pending)
          (cond (lacks_heir (move_to job heir n) r.members) (Some freezing.NoHeir)
          (cond (list_any is_last_hop n.subs) (Some freezing.HopSpent)
          (cond (list_any is_too_big (offers_of (move_to job heir n) n.subs)) (Some freezing.TooBig) None))))
          (calls.whole_departs job r heir n))
      by_pending (Some q) e = tt
      by_pending None e = by_self e (nat_eq heir n.incarnation) refl
