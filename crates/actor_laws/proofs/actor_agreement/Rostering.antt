-- A roster comes: the node joins, recovers by it, keeps it, or ends.
use Rattle.std.proofs.Common.{ℕ, nat_lt, not, ◌&&◌}
use Rattle.std.specs.Ordering.{nat_cmp}
use Rattle.ids.specs.Members.{is_live, status_in}
use Rattle.codec.specs.declared.body.Roster.{Roster}
use Rattle.serial_meaning.specs.Job.{JobOf}
use Rattle.subcomputation.specs.Subs.{grants_of_subs}
use Rattle.node_state.specs.Assemblies.{of_living}
use Rattle.node_state.specs.Node.{NodeOf, ended}
use Rattle.node_state.specs.declared.parts.State.{State}
use Rattle.node_state.specs.declared.parts.State.TheVariants.{Member, Leaving}
use Rattle.node_steps.specs.Cases.{by_roster, joins, leaving_roster, member_roster, recovers_by}
use Rattle.node_steps.specs.Moves.{is_empty, recovers, settle_request}
use Rattle.node_steps.specs.Steps.{Answer, StepOf, quiet}
use Rattle.actor_laws.specs.actor_agreement.Values.{AnswerIsRight, NodeIsRight, StepIsRight}
use Rattle.actor_laws.proofs.actor_agreement.Recovering.{recovers_right}
use Rattle.actor_laws.proofs.actor_agreement.Steps.{by_listed, by_test, ended_right, in_order, quiet_right, then_right}

module _ (job : JobOf) (n : NodeOf) (right : NodeIsRight job n) where
  -- where the node stands is no matter of what it holds
  stands : (s : State) → NodeIsRight job (record n { state = s })
  stands s = record { subs = right.subs; replies = right.replies }

  ends : StepIsRight job (quiet (ended n))
  ends = quiet_right job (ended n) (ended_right job n)

  pub joins_right : (r : Roster) → AnswerIsRight job (joins r n)
  joins_right r = by_listed job (status_in n.incarnation r.members) _ _ _
      (quiet_right job _ (stands (Member r))) ends tt

  -- one that is kept, if it is newer
  roster_right : (old new : Roster) (kept : Answer) → AnswerIsRight job kept
      → AnswerIsRight job (by_roster old new n kept)
  roster_right old new kept is =
      in_order job (nat_cmp new.epoch old.epoch) _ _ _ tt
      (by_test job (nat_lt old.version new.version) _ _
      (by_listed job (status_in n.incarnation new.members) _ _ _ is ends tt) tt)
      ends

  recovers_by_right : (new : Roster) → StepIsRight job (recovers_by job new n)
  recovers_by_right new =
      let first : StepOf = recovers job new.members (grants_of_subs n.subs) (record n { state = Member new }) in
      let a = recovers_right job new.members (grants_of_subs n.subs) (record n { state = Member new })
      (stands (Member new)) in
      then_right job first (λ m. quiet (record m {
        asker = settle_request new.members m.asker;
        assemblies = of_living new.members m.assemblies;
      })) a
      (quiet_right job (record first.after {
        asker = settle_request new.members first.after.asker;
        assemblies = of_living new.members first.after.assemblies;
      }) (record { subs = a.after.subs; replies = a.after.replies }))

  pub member_roster_right : (old new : Roster) → AnswerIsRight job (member_roster job old new n)
  member_roster_right old new = roster_right old new _ (recovers_by_right new)

  pub leaving_roster_right : (old : Roster) (heir : ℕ) (new : Roster)
      → AnswerIsRight job (leaving_roster job old heir new n)
  leaving_roster_right old heir new =
      roster_right old new _ (by_test job (not (is_empty n.subs) && not (is_live heir new.members)) _ _ ends
      (quiet_right job _ (stands (Leaving new heir))))
