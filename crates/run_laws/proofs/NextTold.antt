-- Each Resend tells what isn't answered; and a Result that comes closes its record.
use Rattle.std.proofs.Common.{◌≡◌, ◌+◌, ◌<◌, ◌^◌, ℕ, Bool, true, false, cond, not, nat_eq, nat_lt, ◌&&◌, List, [], ◌∷◌, ◌++◌, map, inl, inr, ⊎_elim, Option, None, Some, slice_get, refl, sym, ap, subst, ◌∙◌, arith}
use Rattle.std.specs.List.{flat_map}
use Rattle.std.specs.Ordering.{eq_by_cmp}
use Rattle.std.proofs.lemmas.Bool.{eq-eqb, lt-ltb}
use Rattle.ids.specs.Names.{Grant, grant_cmp}
use Rattle.ids.specs.declared.outcome.Outcome.{Outcome}
use Rattle.ids.specs.declared.outcome.Progress.{Progress}
use Rattle.ids.specs.declared.outcome.Progress.TheVariants.{Active, Finished}
use Rattle.codec.specs.Pieces.{cut, cut_all}
use Rattle.codec.specs.Table.{PacketOf}
use Rattle.codec.specs.declared.body.Body.TheVariants as body
use Rattle.codec.specs.declared.body.Roster.{Roster}
use Rattle.codec.specs.declared.body.TaskResult.{TaskResult}
use Rattle.departure.specs.Offers.{offer}
use Rattle.serial_meaning.specs.Job.{JobOf}
use Rattle.steal_protocol.specs.declared.asker.Request.{Request}
use Rattle.subcomputation.specs.Subs.{SubOf, sub_in}
use Rattle.node_state.specs.Node.{NodeOf, by_state}
use Rattle.node_state.specs.declared.parts.State.TheVariants.{Member, Leaving}
use Rattle.node_steps.specs.Calls as call
use Rattle.node_steps.specs.Cases.{Candidate}
use Rattle.node_steps.specs.Moves.{awaited, beat, grants_in, leaves, result_by, results, steal}
use Rattle.node_steps.specs.Steps as node
use Rattle.event_script.specs.declared.event.NodeEvent.TheVariants.{Resend}
use Rattle.table_laws.specs.Tables.{◌∈◌}
use Rattle.table_laws.proofs.Among.{found_among}
use Rattle.table_laws.proofs.Lists.{early, later}
use Rattle.world_steps.specs.Answers.{StepResult, answered, with_some}
use Rattle.world_steps.specs.Nodes.{at_node, comes}
use Rattle.world_steps.specs.Steps.{Step}
use Rattle.world_steps.specs.World.{WorldOf, node_in}
use Rattle.run_laws.specs.Next.{LeaverTells, MemberTells, resend, result_of, sent_in}

-- what is made of an item of a list
module _ {X Y : Type 0} where
  pub in_flat : (f : X → List Y) (xs : List X) (x : X) (y : Y) → x ∈ xs → y ∈ f x → y ∈ flat_map f xs
  in_flat f [] x y m here = absurd m
  in_flat f (z ∷ zs) x y (inl same) here = early (f z) (flat_map f zs) y (subst (λ (k : X). y ∈ f k) same here)
  in_flat f (z ∷ zs) x y (inr m) here = later (f z) (flat_map f zs) y (in_flat f zs x y m here)

  in_map : (f : X → Y) (xs : List X) (x : X) → x ∈ xs → f x ∈ map f xs
  in_map f [] x m = absurd m
  in_map f (z ∷ zs) x (inl same) = inl (ap f same)
  in_map f (z ∷ zs) x (inr m) = inr (in_map f zs x m)

-- a node's event is carried out by the node that is there
pub node_step : (a : ℕ) (n : NodeOf) (w : WorldOf) (f : NodeOf → StepResult) (o : StepResult)
    → node_in a w.nodes ≡ Some n → o ≡ with_some (node_in a w.nodes) w f → o ≡ f n
unfolding with_some
node_step a n w f o there is = rw there at is

module _ (job : JobOf) (w : WorldOf) (a : ℕ) (n : NodeOf) (there : node_in a w.nodes ≡ Some n) where
  -- what a Resend answers
  resent : (o : StepResult) → Step job (resend a) w o → o ≡ answered a (call.resend job n) w
  resent o (inl (choice, allowed, is)) = node_step a n w (λ k. at_node job choice a Resend k w) o there is
  resent o (inr never) = absurd never

  -- a member's
  module _ (r : Roster) (member : n.state ≡ Member r) where
    member_resent : call.resend job n ≡ node.Does (node.sends (call.member_resend job n r) n)
    unfolding call.resend by_state
    member_resent = rw member refl

    abbrev told : List PacketOf
    told = flat_map (results job n.incarnation) n.subs

    request_told : (q : Request) → n.asker.pending ≡ Some q → steal job n.incarnation q ∈ call.member_resend job n r
    request_told q pending = inr (early (call.pending_steal job n n.asker.pending) told (steal job n.incarnation q)
        (rw pending (inl refl)))

    result_told : (g : Grant) (s : SubOf) (x : Outcome) → sub_in g n.subs ≡ Some s → s.content.progress ≡ Finished x
        → result_of job n s x ∈ call.member_resend job n r
    result_told g s x held over =
        let here : result_of job n s x ∈ results job n.incarnation s = rw over (inl refl) in
        inr (later (call.pending_steal job n n.asker.pending) told (result_of job n s x)
        (in_flat (results job n.incarnation) n.subs s (result_of job n s x) (found_among _ s n.subs held) here))

    pub member_tells : (o : StepResult) → Step job (resend a) w o → MemberTells job n (sent_in o.answer)
    member_tells o step =
        let sent : sent_in o.answer ≡ call.member_resend job n r =
        ap (λ (x : StepResult). sent_in x.answer) (resent o step)
        ∙ ap (λ (x : node.Answer). sent_in (answered a x w).answer) member_resent in
        record {
          request = λ q pending. subst (λ (ps : List PacketOf). steal job n.incarnation q ∈ ps) (sym sent)
              (request_told q pending);
          results = λ g s x held over. subst (λ (ps : List PacketOf). result_of job n s x ∈ ps) (sym sent)
              (result_told g s x held over);
        }

  -- a leaver's
  module _ (r : Roster) (heir : ℕ) (leaving : n.state ≡ Leaving r heir) where
    leaver_resent : call.resend job n ≡ node.Does (node.sends (call.leaving_resend job n r heir) n)
    unfolding call.resend by_state
    leaver_resent = rw leaving refl

    offer_told : (s : SubOf) (p : PacketOf) → s ∈ n.subs → p ∈ cut (offer job.number n.incarnation heir s)
        → p ∈ call.leaving_resend job n r heir
    offer_told s p held here =
        let q : PacketOf = offer job.number n.incarnation heir s in
        let among : p ∈ call.offers job heir n =
        in_flat cut (map (offer job.number n.incarnation heir) n.subs) (offer job.number n.incarnation heir s) p
        (in_map (offer job.number n.incarnation heir) n.subs s held) here in
        inr (early (call.offers job heir n ++ grants_in (awaited r n)) (leaves job r heir n) p
        (early (call.offers job heir n) (grants_in (awaited r n)) p among))

    pub leaver_tells : (o : StepResult) → Step job (resend a) w o → LeaverTells job n heir (sent_in o.answer)
    leaver_tells o step g s p held here =
        let sent : sent_in o.answer ≡ call.leaving_resend job n r heir =
        ap (λ (x : StepResult). sent_in x.answer) (resent o step)
        ∙ ap (λ (x : node.Answer). sent_in (answered a x w).answer) leaver_resent in
        subst (λ (ps : List PacketOf). p ∈ ps) (sym sent) (offer_told s p (found_among _ s n.subs held) here)
