-- A grant that a node awaits was sent to it, and is taken if it comes now.
use Rattle.std.proofs.Common.{◌≡◌, ℕ, suc, Bool, true, false, cond, not, nat_eq, ◌&&◌, List, [], ◌∷◌, inl, inr, ⊎_elim, Option, None, Some, slice_get, refl, sym, ap, subst, ◌∙◌}
use Rattle.std.proofs.lemmas.Bool.{eq-eqb}
use Rattle.ids.specs.Names.{Grant}
use Rattle.ids.proofs.Replacing.{put_is_found}
use Rattle.codec.specs.Pieces.{cut_all, piece_at}
use Rattle.codec.specs.Table.{PacketOf, packet}
use Rattle.codec.specs.declared.body.Body.{Body}
use Rattle.codec.specs.declared.body.Body.TheVariants as body
use Rattle.codec.specs.declared.body.Grant.{Grant as GrantBody}
use Rattle.codec.specs.declared.body.Offer.{Offer}
use Rattle.codec.specs.declared.body.Piece.{Piece}
use Rattle.codec.specs.declared.body.Roster.{Roster}
use Rattle.serial_meaning.specs.Job.{JobOf}
use Rattle.kind_check.specs.Total.{Takes, arity_of}
use Rattle.steal_protocol.specs.declared.asker.Request.{Request}
use Rattle.subcomputation.specs.Fitting.{is_arity, task_fits}
use Rattle.subcomputation.specs.Subs.{granted_sub, name_of_sub, sub_in}
use Rattle.node_state.specs.Node.{NodeOf, by_state, hop_in}
use Rattle.node_state.specs.declared.parts.State.{State as Stage}
use Rattle.node_state.specs.declared.parts.State.TheVariants.{Joining, Member, Leaving, Ended}
use Rattle.node_steps.specs.Cases.{Candidate, on_body, on_packet, saved_fit}
use Rattle.node_steps.specs.Moves.{takes}
use Rattle.node_steps.specs.Steps.{Does}
use Rattle.table_laws.specs.Tables.{◌∈◌}
use Rattle.table_laws.specs.View.{Transfer, Works, View}
use Rattle.table_laws.specs.View as tables
use Rattle.table_laws.specs.Facts.{request_of}
use Rattle.table_laws.proofs.Among.{got, placed}
use Rattle.table_laws.proofs.Lists.{none_some}
use Rattle.table_laws.proofs.RequestsReached.{requests_reached}
use Rattle.table_laws.proofs.ValuesKept.{run_reached}
use Rattle.actor_laws.specs.node_moves.Shows.{BodyShown, pending_of}
use Rattle.actor_laws.specs.node_moves.Steps.{Carries, IsSent}
use Rattle.actor_laws.proofs.node_moves.Members.{MemberShown, member_shown}
use Rattle.actor_laws.specs.actor_agreement.Values.{BodyIsRight}
use Rattle.actor_laws.specs.whole_offers.Whole.{IsPieceOf, Went}
use Rattle.actor_laws.proofs.whole_offers.Cutting.{arrives, goes}
use Rattle.actor_laws.specs.standing.Lasting.{LastsAt}
use Rattle.actor_laws.proofs.standing.Steps.{at_state}
use Rattle.world_steps.specs.Answers.{StepResult, answered}
use Rattle.world_steps.specs.Lost.{Answers, IsAwaited}
use Rattle.world_steps.specs.Steps.{Step}
use Rattle.world_steps.specs.World.{Holder, WorldOf, live_at, node_in}
use Rattle.actor_laws.proofs.next.Fitting.{arity_fits}
use Rattle.run_laws.specs.Next.{BringsWork, delivery}
use Rattle.run_laws.specs.Right.{WorldIsRight}
use Rattle.run_laws.specs.Shown.{Tied}
use Rattle.run_laws.specs.Sound.{cut_world}
use Rattle.run_laws.specs.Standing.{WorldStands}
use Rattle.run_laws.proofs.NextHeard.{delivered}
use Rattle.run_laws.proofs.Places.{put_here}

lasts_at : (k : NodeOf) (s t : Stage) → s ≡ t → LastsAt k t → LastsAt k s
lasts_at k s t is lasts = rw is lasts

-- a Grant of the job that answers the pending request of a member, is new to it and fits
taken : (job : JobOf) (choice : Option Candidate) (p : PacketOf) (b : GrantBody) (n : NodeOf) (r : Roster) (q : Request)
    → p.job ≡ job.number → p.to ≡ n.incarnation → p.body ≡ body.Grant b → n.state ≡ Member r → n.asker.pending ≡ Some q
    → b.seq ≡ q.seq → b.grant.minter ≡ q.victim → hop_in b.grant n.seen ≡ None → task_fits job.program b.task ≡ true
    → saved_fit b.task b.saved ≡ true → on_packet job choice p n ≡ Does (takes job b n)
unfolding on_packet on_body by_state
taken job choice p b n r q mine here says member pending seq victim unseen fits saved =
    rw (
      eq-eqb p.job job.number mine,
      eq-eqb p.to n.incarnation here,
      says,
      member,
      pending,
      eq-eqb q.seq b.seq (sym seq),
      eq-eqb q.victim b.grant.minter (sym victim),
      unseen,
      fits,
      saved,
    ) refl

-- it is held then
holds_then : (job : JobOf) (w : WorldOf) (a : ℕ) (b : GrantBody) (n : NodeOf) (r : Roster) → n.state ≡ Member r
    → Holder (answered a (Does (takes job b n)) w).world a b.grant
holds_then job w a b n r member =
    let new = granted_sub b.grant b.task b.saved in
    let there : sub_in b.grant (live_at n.state (takes job b n).after.subs) ≡ Some new =
    rw member (put_is_found name_of_sub new n.subs) in
    record { node = (takes job b n).after; sub = new; up = put_here a (takes job b n).after w.nodes; live = there }

module _ (job : JobOf) (v : WorldOf) (tied : Tied job v) (right : WorldIsRight job v)
    (stands : WorldStands (cut_world v)) where
  abbrev w : WorldOf
  w = cut_world v

  -- only a member awaits something
  awaiting : (a : ℕ) (n : NodeOf) → node_in a v.nodes ≡ Some n → (q : Request) → n.asker.pending ≡ Some q
      → (r : Roster) × (n.state ≡ Member r)
  awaiting a n there q pending = by_stage n.state refl
    where
      by_stage : (x : Stage) → n.state ≡ x → (r : Roster) × (n.state ≡ Member r)
      by_stage Joining is = let fresh = at_state n Joining n.state (sym is) (stands.waits a n there) in absurd
          (none_some fresh.pending pending)
      by_stage (Member r) is = (r, is)
      by_stage (Leaving r heir) is = let leaver =
          lasts_at n (Leaving r heir) n.state (sym is) (stands.lasts a n there) in absurd
          (none_some leaver.idle pending)
      by_stage Ended is = let none = lasts_at n Ended n.state (sym is) (stands.lasts a n there) in absurd
          (none_some none pending)

  -- the packet in which what is awaited went
  record OwnGrant (n : NodeOf) (g : Grant) (q : Request) : Type 0 where
    packet : PacketOf
    grant : GrantBody
    there : packet ∈ v.net
    mine : packet.job ≡ job.number
    here : packet.to ≡ n.incarnation
    says : packet.body ≡ body.Grant grant
    named : grant.grant ≡ g
    seq : grant.seq ≡ q.seq
    victim : grant.grant.minter ≡ q.victim
    unseen : hop_in grant.grant n.seen ≡ None

  module _ (a : ℕ) (n : NodeOf) (up : node_in a v.nodes ≡ Some n) (q : Request) (pending : n.asker.pending ≡ Some q)
      (g : Grant) (r : Roster) (member : n.state ≡ Member r) where
    shown : MemberShown tied.view n r
    shown = member_shown tied.view n r member (tied.shown.nodes a n up)

    by_carried : (t : Transfer) → t.grant ≡ g → t.hop ≡ 0 → t.to ≡ n.incarnation → t.seq ≡ q.seq
        → t.grant.minter ≡ q.victim → hop_in t.grant n.seen ≡ None → (p : PacketOf) → p ∈ v.net → p.job ≡ job.number
        → p.to ≡ t.to → (x : Body) → p.body ≡ x → Carries t x → BodyShown tied.view p.to x → OwnGrant n g q
    by_carried t named first to seq victim unseen p there mine here (body.Grant b) says c s = record {
      packet = p;
      grant = b;
      there = there;
      mine = mine;
      here = here ∙ to;
      says = says;
      named = c.0 ∙ named;
      seq = c.1 ∙ seq;
      victim = ap (λ (k : Grant). k.minter) c.0 ∙ victim;
      unseen = subst (λ (k : Grant). hop_in k n.seen ≡ None) (sym c.0) unseen;
    }
    by_carried t named first to seq victim unseen p there mine here (body.Offer b) says c s =
        let later : suc s.before ≡ 0 = sym s.later ∙ s.hop ∙ c.1 ∙ first in
        cc
    by_carried t named first to seq victim unseen p there mine here other says c s = absurd c

    -- its transfer in the tables is the answer to the request
    by_transfer : (t : Transfer) → t ∈ tied.view.transfers → t.grant ≡ g → t.hop ≡ 0 → t.to ≡ n.incarnation
        → t.seq ≡ q.seq → t.from ≡ q.victim → t.grant.minter ≡ q.victim → OwnGrant n g q
    by_transfer t m named first to seq from victim =
        let asked : pending_of (Some q) ≡ Some (request_of t) = rw (from, seq) refl in
        let waits : tied.view.pending t.to ≡ Some (request_of t) =
        ap tied.view.pending to ∙ shown.parts.pending ∙ ap pending_of pending ∙ asked in
        let here : Works (tied.view.mode n.incarnation) = rw shown.mode tt in
        let works : Works (tied.view.mode t.to) = rw to here in
        let none : tied.view.seen t.to t.grant ≡ None =
        (requests_reached (run_reached tied.run)).unseen t m first works waits in
        let unseen : hop_in t.grant n.seen ≡ None =
        sym (shown.parts.seen t.grant) ∙ ap (λ (i : ℕ). tied.view.seen i t.grant) (sym to) ∙ none in
        let sent : IsSent job.number v.net t = tied.shown.sent t m in
        by_carried t named first to seq victim unseen sent.packet sent.there sent.job_is sent.to sent.packet.body refl
        sent.carries (tied.shown.net sent.packet sent.there)

    by_answer : (p : PacketOf) → p.to ≡ n.incarnation → (x : Body) → Answers g q x → BodyShown tied.view p.to x
        → OwnGrant n g q
    by_answer p to (body.Grant b) answers s =
        by_transfer s.transfer s.sent (s.grant ∙ answers.0) s.hop (s.to_is ∙ to) (s.seq ∙ answers.1) (s.from
        ∙ answers.2) (ap (λ (k : Grant). k.minter) s.grant ∙ answers.2)
    by_answer p to other answers s = absurd answers

    -- so it is taken
    brings : OwnGrant n g q → BringsWork job w a g
    brings own = by_went (goes v.net own.packet own.there)
      where
        offered_no : (o : Offer) → own.packet.body ≡ body.Offer o → ⊥
        offered_no o e = let two : body.Grant own.grant ≡ body.Offer o = sym own.says ∙ e in cc

        agrees : BodyIsRight job (body.Grant own.grant)
        agrees = subst (λ (y : Body). BodyIsRight job y) own.says (right.net own.packet own.there)

        held : (choice : Option Candidate) (o : StepResult) → o ≡ answered a (on_packet job choice own.packet n) w
            → Holder o.world a g
        held choice o is =
            let fits : task_fits job.program own.grant.task ≡ true =
            arity_fits job.program own.grant.task.thread _ agrees.0.takes in
            let answer = taken job choice own.packet own.grant n r q own.mine own.here own.says member pending own.seq
            own.victim own.unseen fits agrees.2 in
            let led : o ≡ answered a (Does (takes job own.grant n)) w = is ∙ ap (λ x. answered a x w) answer in
            let holder : Holder (answered a (Does (takes job own.grant n)) w).world a g =
            subst (λ (k : Grant). Holder (answered a (Does (takes job own.grant n)) w).world a k) own.named
            (holds_then job w a own.grant n r member) in
            subst (λ (x : StepResult). Holder x.world a g) (sym led) holder

        steps : (i : ℕ) → slice_get (cut_all v.net) i ≡ Some own.packet → (o : StepResult) → Step job (delivery a i) w o
            → Holder o.world a g
        steps i sent o (inl (choice, allowed, is)) =
            held choice o (delivered job choice a i n w own.packet o up sent is)
        steps i sent o (inr never) = absurd never

        by_went : Went (cut_all v.net) own.packet → BringsWork job w a g
        by_went x = ⊎_elim
            (λ same. (
            let at = placed (cut_all v.net) x.sent x.there in
            let sent : slice_get (cut_all v.net) at.at ≡ Some own.packet = at.is ∙ ap Some same in
            let out : BringsWork job w a g = record {
              number = at.at;
              packet = own.packet;
              sent = sent;
              taken = steps at.at sent;
            } in
            out))
            (λ (k : (o : Offer) × (own.packet.body ≡ body.Offer o)
            × (x.sent.body ≡ body.Piece (piece_at o (packet.write own.packet) 0))). absurd (offered_no k.0 k.1))
            x.what

  pub awaited_comes : (g : Grant) → (x : IsAwaited w g) → BringsWork job w x.at g
  awaited_comes g x = ⊎_elim
      (λ (whole : x.packet ∈ v.net). of_whole whole)
      (λ (k : IsPieceOf v.net x.packet). absurd
      (no_piece _ x.packet.body (ap (λ (p : PacketOf). p.body) k.is) x.answers))
      (arrives v.net x.packet (got (cut_all v.net) x.number x.packet x.sent))
    where
      no_piece : (b : Piece) (y : Body) → y ≡ body.Piece b → Answers g x.request y → ⊥
      no_piece b y e answers = rw e at answers

      of_whole : x.packet ∈ v.net → BringsWork job w x.at g
      of_whole m =
          let own = awaiting x.at x.node x.up x.request x.pending in
          brings x.at x.node x.up x.request x.pending g own.0 own.1
          (by_answer x.at x.node x.up x.request x.pending g own.0 own.1 x.packet x.to x.packet.body x.answers
          (tied.shown.net x.packet m))
