-- Each step of a node keeps one Offer for each grant and hop, and what is kept of each node.
use Rattle.std.proofs.Common.{◌≡◌, ◌+◌, ℕ, Bool, true, false, nat_eq, ◌&&◌, ⊎_elim, List, ◌++◌, Option, None, Some, refl, sym, ap, ◌∙◌, arith}
use Rattle.std.proofs.lemmas.Grind.{flat_map-append}
use Rattle.ids.specs.Names.{Grant}
use Rattle.ids.specs.Named.{item_in}
use Rattle.ids.specs.Ordered.{AreInOrder}
use Rattle.body_eval.specs.Done.{DoneOf}
use Rattle.codec.specs.Pieces.{cut, cut_all}
use Rattle.codec.specs.Table.{PacketOf, is_short}
use Rattle.codec.specs.declared.body.Body.TheVariants as body
use Rattle.codec.specs.declared.body.Offer.{Offer}
use Rattle.codec.specs.declared.body.Roster.{Roster}
use Rattle.departure.specs.Offers.{offer, offer_of}
use Rattle.serial_meaning.specs.Job.{JobOf}
use Rattle.steal_protocol.specs.declared.asker.Request.{Request}
use Rattle.subcomputation.specs.Subs.{SubOf, name_of_sub, sub_in}
use Rattle.recovery.proofs.Orders.{all_there}
use Rattle.node_state.specs.Assemblies.{AssemblyOf}
use Rattle.node_state.specs.Node.{NodeOf, starting}
use Rattle.node_state.specs.declared.parts.State.TheVariants.{Leaving}
use Rattle.node_steps.specs.Calls as calls
use Rattle.node_steps.specs.Cases.{Candidate, on_packet}
use Rattle.node_steps.specs.Steps.{Answer, Does, Forgets, Ignored, Refused, StepOf}
use Rattle.node_steps.specs.declared.parts.Victim.{Victim}
use Rattle.table_laws.specs.Meaning.{Meaning}
use Rattle.table_laws.specs.Runs.{Run}
use Rattle.table_laws.specs.Tables.{◌∈◌}
use Rattle.table_laws.specs.View as tables
use Rattle.table_laws.specs.View.{View, Works}
use Rattle.table_laws.proofs.Among.{of_each}
use Rattle.table_laws.proofs.Lists.{early, either, later, some_same}
use Rattle.table_laws.proofs.RequestsReached.{requests_reached}
use Rattle.table_laws.proofs.ValuesKept.{run_reached}
use Rattle.actor_laws.specs.node_moves.Shows.{NodeShown, OfferShown, mode_of, pending_of}
use Rattle.actor_laws.specs.node_moves.Steps.{AllShown}
use Rattle.actor_laws.proofs.node_moves.Members.{member_shown}
use Rattle.actor_laws.specs.whole_offers.Departs.{AnswerDeparts, AnswerSendsAgain, Departs, IsOwnOffer, SendsOwn}
use Rattle.actor_laws.specs.whole_offers.Gathered.{CameIn}
use Rattle.actor_laws.specs.whole_offers.Kept.{AnswerKept, NodeKept, StepKept}
use Rattle.actor_laws.specs.whole_offers.Plain.{ArePlain, ForgetsParts, IsNewBy, IsPlain, IsPlainNode, NoOffers, NoneNew, SendsNoOffer}
use Rattle.actor_laws.specs.whole_offers.Whole.{OneOffer, came_in}
use Rattle.actor_laws.proofs.whole_offers.Calls.{ask_plain, depart_own, exec_plain, exec_ready_plain, resend_own, whole_ready_plain}
use Rattle.actor_laws.proofs.whole_offers.Gathering.{new_came}
use Rattle.actor_laws.proofs.whole_offers.OneOffer.{never_offered}
use Rattle.actor_laws.proofs.whole_offers.Rows.{packet_plain}

-- ---- with more packets

among_more : (wholes more : List PacketOf) (p : PacketOf) → p ∈ cut_all wholes → p ∈ cut_all (wholes ++ more)
among_more wholes more p m = rw (flat_map-append cut wholes more) (early (cut_all wholes) (cut_all more) p m)

came_more : (job to : ℕ) (wholes more : List PacketOf) (x : AssemblyOf) → CameIn (cut_all wholes) job to x
    → CameIn (cut_all (wholes ++ more)) job to x
came_more job to wholes more x came =
    record { each = λ y m. among_more wholes more (came_in job to x y) (came.each y m); order = came.order }

pub kept_more : (job : ℕ) (wholes more : List PacketOf) (n : NodeOf) → NodeKept job wholes n
    → NodeKept job (wholes ++ more) n
kept_more job wholes more n kept = record {
  frozen = λ r heir x leaves m. early wholes more (offer job n.incarnation heir x) (kept.frozen r heir x leaves m);
  replies = kept.replies;
  parts = λ x m. came_more job n.incarnation wholes more x (kept.parts x m);
}

-- one that starts holds nothing
pub start_kept : (job : ℕ) (wholes : List PacketOf) (word : ℕ) → NodeKept job wholes (starting word)
start_kept job wholes word = record {
  frozen = λ r heir x leaves m. absurd m;
  replies = λ r m. absurd m;
  parts = λ x m. absurd m;
}

-- ---- one Offer for each grant and hop

no_offer : (p : PacketOf) (o : Offer) → IsPlain p → p.body ≡ body.Offer o → ⊥
no_offer p o plain says = let long : is_short p.body ≡ false = ap is_short says in cc

-- where each Offer that is sent was sent before
old_one : (wholes sent : List PacketOf) → OneOffer wholes
    → ((p : PacketOf) (o : Offer) → p ∈ sent → p.body ≡ body.Offer o → p ∈ wholes) → OneOffer (wholes ++ sent)
old_one wholes sent one old p q o u mp mq ep eq grant hop = one p q o u (was p o mp ep) (was q u mq eq) ep eq grant hop
  where
    was : (x : PacketOf) (a : Offer) → x ∈ (wholes ++ sent) → x.body ≡ body.Offer a → x ∈ wholes
    was x a m e = ⊎_elim (λ k. k) (λ k. old x a k e) (either wholes sent x m)

pub plain_one : (wholes sent : List PacketOf) → OneOffer wholes → ArePlain sent → OneOffer (wholes ++ sent)
plain_one wholes sent one plain = old_one wholes sent one (λ p o m e. absurd (no_offer p o (plain p m) e))

-- ---- steps that send no Offer

module _ (job : ℕ) (wholes : List PacketOf) (one : OneOffer wholes) (n : NodeOf) (kept : NodeKept job wholes n)
    (New : AssemblyOf → Type 0) (new_is : (x : AssemblyOf) → New x → CameIn (cut_all wholes) job n.incarnation x) where
  step_kept : (s : StepOf) → SendsNoOffer New n s → StepKept job wholes s
  step_kept s is = record {
    one = plain_one wholes s.sent one is.sent;
    node = record {
      frozen = λ r heir x leaves m. (let y =
          is.frozen r heir x leaves m in rw is.name
          (early wholes s.sent (offer job n.incarnation heir x) (kept.frozen y.0 heir x y.1 y.2)));
      replies = is.replies;
      parts = λ x m. rw is.name (came_more job n.incarnation wholes s.sent x
          (⊎_elim (λ old. kept.parts x old) (λ new. new_is x new) (is.parts x m)));
    };
  }

  forgets_kept : (k : NodeOf) → ForgetsParts n k → NodeKept job wholes k
  forgets_kept k is =
      let state : k.state ≡ n.state = ap (λ (z : NodeOf). z.state) is.rest in
      let subs : k.subs ≡ n.subs = ap (λ (z : NodeOf). z.subs) is.rest in
      let name : k.incarnation ≡ n.incarnation = ap (λ (z : NodeOf). z.incarnation) is.rest in
      let replies : k.replies ≡ n.replies = ap (λ (z : NodeOf). z.replies) is.rest in
      record {
        frozen = λ r heir x leaves m. rw name (kept.frozen r heir x (sym state ∙ leaves) (rw subs at m));
        replies = λ r m. kept.replies r (rw replies at m);
        parts = λ x m. rw name (kept.parts x (is.parts x m));
      }

  answer_kept : (a : Answer) → NoOffers New n a → AnswerKept job wholes a
  answer_kept Ignored is = tt
  answer_kept (Refused e) is = tt
  answer_kept (Does s) is = step_kept s is
  answer_kept (Forgets k) is = forgets_kept k is

-- ---- a node that the tables show

-- one that leaves waits for nothing
pub waits_not : (m : Meaning) (v : View) (n : NodeOf) → Run m v → NodeShown v n → (r : Roster) (heir : ℕ)
    → n.state ≡ Leaving r heir → n.asker.pending ≡ None
waits_not m v n run shown r heir is = by_pending n.asker.pending refl
  where
    mode : v.mode n.incarnation ≡ tables.Leaving heir
    mode = shown.mode ∙ ap mode_of is

    works : Works (mode_of n.state)
    works = rw is tt

    by_pending : (o : Option Request) → n.asker.pending ≡ o → o ≡ None
    by_pending None e = refl
    by_pending (Some q) e =
        let up : Works (v.mode n.incarnation) = rw mode tt in
        let waits : v.pending n.incarnation ≡ Some (record { victim = q.victim; seq = q.seq }) =
        (shown.parts works).pending ∙ ap pending_of e in
        let member : v.mode n.incarnation ≡ tables.Member =
        (requests_reached (run_reached run)).member_waits n.incarnation
        (record { victim = q.victim; seq = q.seq }) up waits in
        let two : tables.Leaving heir ≡ tables.Member = sym mode ∙ member in
        cc

module _ (m : Meaning) (job : JobOf) (v : View) (wholes : List PacketOf) (one : OneOffer wholes) (n : NodeOf)
    (kept : NodeKept job.number wholes n) (run : Run m v) (shown : NodeShown v n) where
  plain : IsPlainNode n
  plain = record { replies = kept.replies; idle = waits_not m v n run shown }

  none_is : (x : AssemblyOf) → NoneNew x → CameIn (cut_all wholes) job.number n.incarnation x
  none_is x new = absurd new

  ignored : (choice : Option Candidate) (p : PacketOf) → nat_eq p.job job.number && nat_eq p.to n.incarnation ≡ false
      → AnswerKept job.number wholes (on_packet job choice p n)
  unfolding on_packet
  ignored choice p e = rw e tt

  pub packet_kept : (choice : Option Candidate) (p : PacketOf) → p ∈ cut_all wholes
      → AnswerKept job.number wholes (on_packet job choice p n)
  packet_kept choice p there = by_address (nat_eq p.job job.number) (nat_eq p.to n.incarnation) refl refl
    where
      new_is : p.job ≡ job.number → p.to ≡ n.incarnation → (x : AssemblyOf) → IsNewBy p.body n x
          → CameIn (cut_all wholes) job.number n.incarnation x
      new_is own here x new = new_came (cut_all wholes) job.number n p new.piece there own here new.says kept.parts x
          new.kept

      row : NoOffers (IsNewBy p.body n) n (on_packet job choice p n)
      row = packet_plain job n plain choice p

      by_address : (own here : Bool) → nat_eq p.job job.number ≡ own → nat_eq p.to n.incarnation ≡ here
          → AnswerKept job.number wholes (on_packet job choice p n)
      by_address false here e f = ignored choice p (rw e refl)
      by_address true false e f = ignored choice p (rw (e, f) refl)
      by_address true true e f =
          let own : p.job ≡ job.number = grind (arith, e) in
          let here : p.to ≡ n.incarnation = grind (arith, f) in
          answer_kept job.number wholes one n kept (IsNewBy p.body n) (new_is own here) (on_packet job choice p n) row

  pub exec_kept : (d : DoneOf) (g : Grant) (f : ℕ) → AnswerKept job.number wholes (calls.exec job d g f n)
  exec_kept d g f = answer_kept job.number wholes one n kept NoneNew none_is (calls.exec job d g f n)
      (exec_plain job n plain d g f)

  pub exec_ready_kept : (g : Grant) (f : ℕ) → AnswerKept job.number wholes (calls.exec_ready job g f n)
  exec_ready_kept g f = answer_kept job.number wholes one n kept NoneNew none_is (calls.exec_ready job g f n)
      (exec_ready_plain job n plain g f)

  pub whole_ready_kept : (most : ℕ) (g : Grant) (f : ℕ)
      → AnswerKept job.number wholes (calls.whole_ready job most g f n)
  whole_ready_kept most g f = answer_kept job.number wholes one n kept NoneNew none_is
      (calls.whole_ready job most g f n) (whole_ready_plain job n plain most g f)

  pub ask_kept : (victim : Victim) → AnswerKept job.number wholes (calls.ask job victim n)
  ask_kept victim = answer_kept job.number wholes one n kept NoneNew none_is (calls.ask job victim n)
      (ask_plain job n plain victim)

  -- ---- what is sent again
  again_kept : (s : StepOf) → s.after ≡ n → SendsOwn job.number n s → StepKept job.number wholes s
  again_kept s same own = record {
    one = old_one wholes s.sent one (λ p o k e.
        ⊎_elim (λ short. absurd (no_offer p o short e)) (λ x. was p x) (own.sent p k));
    node = rw same (kept_more job.number wholes s.sent n kept);
  }
    where
      was : (p : PacketOf) → IsOwnOffer job.number s.after p → p ∈ wholes
      was p x =
          let leaves : n.state ≡ Leaving x.roster x.heir = ap (λ (z : NodeOf). z.state) (sym same) ∙ x.leaves in
          let held : x.sub ∈ n.subs = rw own.subs at x.held in
          let there : offer job.number n.incarnation x.heir x.sub ∈ wholes =
          kept.frozen x.roster x.heir x.sub leaves held in
          rw (x.is, own.name) there

  pub resend_kept : AnswerKept job.number wholes (calls.whole_resend job n)
  resend_kept = by_answer (calls.whole_resend job n) (resend_own job n plain)
    where
      by_answer : (a : Answer) → AnswerSendsAgain job.number n a → AnswerKept job.number wholes a
      by_answer Ignored is = tt
      by_answer (Refused e) is = tt
      by_answer (Does s) is = again_kept s is.0 is.1
      by_answer (Forgets k) is = absurd is

  -- ---- departures
  module _ (all : AllShown v wholes) where
    -- an Offer that is new, of what was held
    record IsNew (s : StepOf) (p : PacketOf) (o : Offer) : Type 0 where
      sub : SubOf
      heir : ℕ
      roster : Roster
      leaves : s.after.state ≡ Leaving roster heir
      found : sub_in sub.grant n.subs ≡ Some sub
      is : p ≡ offer job.number n.incarnation heir sub
      grant : o.grant ≡ sub.grant
      hop : o.hop ≡ sub.hop + 1

    departs_kept : (s : StepOf) → Departs job.number n s → StepKept job.number wholes s
    departs_kept s d = record {
      one = only;
      node = record {
        frozen = λ r heir x leaves k. rw d.own.name
            (later wholes s.sent (offer job.number n.incarnation heir x) (d.all r heir x leaves k));
        replies = d.own.replies;
        parts = λ x k. absurd (rw d.parts at k);
      };
    }
      where
        order : AreInOrder name_of_sub n.subs
        order = (member_shown v n d.roster d.member shown).parts.order

        new_is : (p : PacketOf) (o : Offer) → p ∈ s.sent → p.body ≡ body.Offer o → IsNew s p o
        new_is p o k e = ⊎_elim (λ short. absurd (no_offer p o short e)) (λ x. from_own p o e x) (d.own.sent p k)
          where
            from_own : (q : PacketOf) (a : Offer) → q.body ≡ body.Offer a → IsOwnOffer job.number s.after q
                → IsNew s q a
            from_own q a says x =
                let held : x.sub ∈ n.subs = rw d.own.subs at x.held in
                let is : q ≡ offer job.number n.incarnation x.heir x.sub =
                x.is ∙ ap (λ i. offer job.number i x.heir x.sub) d.own.name in
                let bodies : body.Offer a ≡ body.Offer (offer_of n.incarnation x.sub) =
                sym says ∙ ap (λ (z : PacketOf). z.body) is in
                let same : a ≡ offer_of n.incarnation x.sub = cc in
                record {
                  sub = x.sub;
                  heir = x.heir;
                  roster = x.roster;
                  leaves = x.leaves;
                  found = of_each (λ (z : SubOf). item_in name_of_sub (name_of_sub z) n.subs ≡ Some z) n.subs
                      (all_there name_of_sub n.subs order) x.sub held;
                  is = is;
                  grant = ap (λ (z : Offer). z.grant) same;
                  hop = ap (λ (z : Offer). z.hop) same;
                }

        never : (q : PacketOf) (u : Offer) → q ∈ wholes → q.body ≡ body.Offer u → (x : SubOf)
            → sub_in x.grant n.subs ≡ Some x → u.grant ≡ x.grant → u.hop ≡ x.hop + 1 → ⊥
        never q u k says x found grant hop =
            let sent = all q k in
            let offered : OfferShown v.transfers q.to u = rw says at sent in
            never_offered m v n d.roster run d.member shown x found q.to u offered grant hop

        only : OneOffer (wholes ++ s.sent)
        only p q o u mp mq ep eq grant hop = ⊎_elim
            (λ p1. ⊎_elim
            (λ q1. one p q o u p1 q1 ep eq grant hop)
            (λ q2. (let y = new_is q u q2 eq in absurd (never p o p1 ep y.sub y.found (grant ∙ y.grant) (hop ∙ y.hop))))
            (either wholes s.sent q mq))
            (λ p2. ⊎_elim
            (λ q1. (let x = new_is p o p2 ep in absurd
            (never q u q1 eq x.sub x.found (sym grant ∙ x.grant) (sym hop ∙ x.hop))))
            (λ q2. both_new (new_is p o p2 ep) (new_is q u q2 eq))
            (either wholes s.sent q mq))
            (either wholes s.sent p mp)
          where
            both_new : IsNew s p o → IsNew s q u → p ≡ q
            both_new x y =
                let grants : x.sub.grant ≡ y.sub.grant = sym x.grant ∙ grant ∙ y.grant in
                let subs : x.sub ≡ y.sub = some_same (sym x.found ∙ ap (λ g. sub_in g n.subs) grants ∙ y.found) in
                let states : Leaving x.roster x.heir ≡ Leaving y.roster y.heir = sym x.leaves ∙ y.leaves in
                let heirs : x.heir ≡ y.heir = cc in
                x.is ∙ ap (λ h. offer job.number n.incarnation h x.sub) heirs
                ∙ ap (λ z. offer job.number n.incarnation y.heir z) subs ∙ sym y.is

    pub depart_kept : (heir : ℕ) → AnswerKept job.number wholes (calls.whole_depart job heir n)
    depart_kept heir = by_answer (calls.whole_depart job heir n) (depart_own job n plain heir)
      where
        by_answer : (a : Answer) → AnswerDeparts job.number n a → AnswerKept job.number wholes a
        by_answer Ignored is = tt
        by_answer (Refused e) is = tt
        by_answer (Does s) is = departs_kept s is
        by_answer (Forgets k) is = absurd is
