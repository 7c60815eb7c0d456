-- What can happen next in a sound world in which nobody waits for somebody who is gone.
use Rattle.std.proofs.Common.{◌≡◌, ℕ, inl, inr, Some, sym, ap, subst, ◌∙◌}
use Rattle.ids.specs.Names.{Grant}
use Rattle.serial_meaning.specs.Job.{JobOf, IsJob}
use Rattle.sub_rules.specs.Content.{Ready, ready_in}
use Rattle.node_state.specs.Node.{NodeOf}
use Rattle.node_steps.specs.Calls.{exec_ready}
use Rattle.node_steps.specs.Steps as node
use Rattle.event_script.specs.declared.event.NodeEvent.TheVariants.{Exec}
use Rattle.table_laws.proofs.Among.{found_among}
use Rattle.table_laws.proofs.Lists.{some_same}
use Rattle.actor_laws.specs.actor_agreement.Values.{IsRight}
use Rattle.world_steps.specs.Answers.{Refused, StepResult, answered}
use Rattle.world_steps.specs.Nodes.{at_node}
use Rattle.world_steps.specs.Steps.{Step}
use Rattle.actor_laws.specs.next.Taking.{AnswerCarries, NoFrame}
use Rattle.actor_laws.proofs.next.Carrying.{ready_carried}
use Rattle.run_laws.specs.Next.{IsGoneAt, NextSteps, turn}
use Rattle.run_laws.specs.Right.{WorldIsRight}
use Rattle.run_laws.specs.Sound.{IsSound, cut_world}
use Rattle.run_laws.specs.Standing.{WorldStands}
use Rattle.run_laws.proofs.NextGrants.{awaited_comes}
use Rattle.run_laws.proofs.NextHeard.{house_steal_heard, outcome_heard, result_heard, steal_heard}
use Rattle.run_laws.proofs.NextOffers.{frozen_offered}
use Rattle.run_laws.proofs.NextRoot.{root_freed, root_granted}
use Rattle.run_laws.proofs.NextTold.{leaver_tells, member_tells, node_step}
use Rattle.run_laws.proofs.Holding.{MemberHolds, member_holds}
use Rattle.run_laws.proofs.Places.{put_here}
use Rattle.world_steps.specs.World.{Holder, WorldOf, node_in}

-- a ready frame of what is held live
module _ (job : JobOf) (ok : IsJob job) (v : WorldOf) (right : WorldIsRight job v) where
  abbrev w : WorldOf
  w = cut_world v

  goes_then : (a : ℕ) (g : Grant) (f : ℕ) (answer : node.Answer) → AnswerCarries g f answer → (o : StepResult)
      → o ≡ answered a answer w → IsGoneAt o a g f
  goes_then a g f node.Ignored carries o is = absurd carries
  goes_then a g f (node.Refused e) carries o is =
      inl (ap (λ (x : StepResult). x.answer) is ∙ ap (λ x. Refused x) carries)
  goes_then a g f (node.Does s) carries o is = inr (λ n there. (
      let at : node_in a (answered a (node.Does s) w).world.nodes ≡ Some n =
      sym (ap (λ (x : StepResult). node_in a x.world.nodes) is) ∙ there in
      let same : n ≡ s.after = some_same (sym at ∙ put_here a s.after v.nodes) in
      subst (λ (x : NodeOf). NoFrame g f x.subs) (sym same) carries))
  goes_then a g f (node.Forgets n) carries o is = absurd carries

  frame_goes : (a : ℕ) (g : Grant) (f : ℕ) (x : Ready) → (at : Holder w a g) → ready_in f at.sub.content ≡ Some x
      → (o : StepResult) → Step job (turn a g f) w o → IsGoneAt o a g f
  frame_goes a g f x at is_ready o (inl (choice, allowed, is)) =
      let m : MemberHolds at.node g at.sub = member_holds at.node g at.sub at.live in
      let its : IsRight job at.sub.content =
      ((right.nodes a at.node at.up).subs at.sub (found_among _ at.sub at.node.subs m.held)).content in
      let led : o ≡ answered a (exec_ready job g f at.node) w =
      node_step a at.node w (λ k. at_node job choice a
      (Exec (record { minter = g.minter; number = g.number; frame = f })) k w) o at.up is in
      goes_then a g f (exec_ready job g f at.node)
      (ready_carried job ok m.roster at.node g f at.sub x m.is m.held its is_ready) o led
  frame_goes a g f x at is_ready o (inr never) = absurd never

whole_next : (job : JobOf) → IsJob job → (w : WorldOf) → (s : IsSound job w) → WorldStands (cut_world s.whole)
    → NextSteps job (cut_world s.whole)
whole_next job ok w s stands = record {
  frames = λ a g f x at is_ready o step. frame_goes job ok s.whole s.right a g f x at is_ready o step;
  grants = λ g x. awaited_comes job s.whole s.tied s.right stands g x;
  offers = λ a n r heir g x there leaving held.
      frozen_offered job s.whole s.from.kept s.tied s.right a n r heir g x there leaving held;
  results = λ a i n r b there member x o step.
      result_heard job s.whole s.from.one s.from.kept s.tied a i n r b there member x o step;
  outcome = λ i h root b up out x same room o over.
      outcome_heard job s.whole s.from.one s.from.kept s.tied i h root b up out x same room o over;
  told = λ a n r there member o step. member_tells job (cut_world s.whole) a n there r member o step;
  offered = λ a n r heir there leaving o step. leaver_tells job (cut_world s.whole) a n there r heir leaving o step;
  answered = λ a i n r b reply there has live last same x o step.
      steal_heard job s.whole s.from.one s.from.kept s.tied a i n r b reply there has live last same x o step;
  freed = λ h root now up out silent later o over.
      root_freed job (cut_world s.whole) stands.root h root now up out silent later o over;
  granted = λ i h b up free none live newer room x o over.
      root_granted job ok (cut_world s.whole) i h b up free none live newer room x o over;
  house_answered = λ i h b reply up live last same x o over.
      house_steal_heard job s.whole s.from.one s.from.kept s.tied i h b reply up live last same x o over;
}

pub next_steps : (job : JobOf) → IsJob job → (w : WorldOf) → IsSound job w → WorldStands w → NextSteps job w
next_steps job ok w s stands = subst (NextSteps job) (sym s.from.cut)
    (whole_next job ok w s (subst WorldStands s.from.cut stands))
