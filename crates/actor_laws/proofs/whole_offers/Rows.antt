-- No packet makes a node send an Offer.
use Rattle.std.proofs.Common.{◌≡◌, ◌+◌, ◌^◌, ℕ, Bool, true, false, cond, not, nat_eq, nat_lt, ◌&&◌, List, [], ◌∷◌, ◌++◌, inl, inr, ⊎_elim, Option, None, Some, is_some, refl, sym, ap, ◌∙◌, Ordering, Less, Equal, Greater}
use Rattle.std.specs.List.{list_any}
use Rattle.std.specs.Ordering.{nat_cmp}
use Rattle.ids.specs.Names.{Grant, house_of, is_worker}
use Rattle.ids.specs.Members.{is_live, status_in}
use Rattle.ids.specs.declared.member.Member.{Member as MemberRow}
use Rattle.ids.specs.declared.member.Status.{Status}
use Rattle.ids.specs.declared.member.Status.TheVariants as member
use Rattle.ids.specs.declared.outcome.Outcome.{Outcome}
use Rattle.ids.specs.declared.outcome.Outcome.TheVariants.{Value, TooDeep}
use Rattle.ids.specs.declared.outcome.Progress.{Progress}
use Rattle.ids.specs.declared.outcome.Progress.TheVariants.{Active, Finished}
use Rattle.ids.specs.declared.work.Record.{Record}
use Rattle.codec.specs.Pieces.{long_reading}
use Rattle.codec.specs.Table.{PacketOf, is_short}
use Rattle.codec.specs.declared.body.Body.{Body}
use Rattle.codec.specs.declared.body.Body.TheVariants as body
use Rattle.codec.specs.declared.body.Grant.{Grant as GrantBody}
use Rattle.codec.specs.declared.body.Offer.{Offer}
use Rattle.codec.specs.declared.body.OfferAck.{OfferAck}
use Rattle.codec.specs.declared.body.Piece.{Piece}
use Rattle.codec.specs.declared.body.Roster.{Roster}
use Rattle.codec.specs.declared.body.Steal.{Steal}
use Rattle.codec.specs.declared.body.TaskResult.{TaskResult}
use Rattle.departure.specs.Offers.{offered}
use Rattle.saved_values.specs.Places.{is_saved_place, stripped}
use Rattle.saved_values.specs.Saved.{saved_under}
use Rattle.serial_meaning.specs.Job.{JobOf}
use Rattle.steal_protocol.specs.Replies.{by_order, by_reply, name_of_reply, reply_in}
use Rattle.steal_protocol.specs.Requests.{is_answered_by, is_pending, without_request}
use Rattle.steal_protocol.specs.declared.asker.Request.{Request}
use Rattle.steal_protocol.specs.declared.replies.Reply.{Reply}
use Rattle.sub_rules.specs.Changes.{closed, granted_out}
use Rattle.sub_rules.specs.Content.{task_of}
use Rattle.sub_rules.specs.declared.change.ContentChange.{ContentChange}
use Rattle.subcomputation.specs.Fitting.{content_fits, task_fits}
use Rattle.subcomputation.specs.Subs.{SubOf, grants_of_subs, host_in, put_sub, sub_in, with_content, without_sub}
use Rattle.victim_records.specs.Records.{record_in}
use Rattle.node_state.specs.Assemblies.{AssemblyOf, assembly_in, name_of_assembly, put_assembly, without_assembly}
use Rattle.node_state.specs.Node.{NodeOf, by_state, ended, hop_in, put_confirmed}
use Rattle.node_state.specs.declared.parts.State.{State}
use Rattle.node_state.specs.declared.parts.State.TheVariants.{Joining, Member, Leaving, Ended}
use Rattle.node_state.specs.Posts.{ReadyFrame}
use Rattle.node_steps.specs.Cases as cases
use Rattle.node_steps.specs.Cases.{Candidate, Collecting, Kept, Old, Whole, by_option, by_status, candidate_in, collected, collects, is_above, on_body, on_packet, or_forgets, put_together}
use Rattle.node_steps.specs.Moves as moves
use Rattle.node_steps.specs.Steps.{Answer, Ignored, Refused, Does, Forgets, StepOf, for_some, quiet, sends, ◌then◌}
use Rattle.table_laws.specs.Tables.{◌∈◌}
use Rattle.table_laws.proofs.Lists.{either}
use Rattle.table_laws.proofs.Among.{filtered, found_among, put_among}
use Rattle.actor_laws.specs.whole_offers.Plain.{ArePlain, IsNewBy, IsPlain, IsPlainNode, NoOffers, SendsNoOffer, StaysFrozen}

-- ---- lists of packets

pub none : ArePlain []
none p m = absurd m

pub one : (p : PacketOf) → IsPlain p → ArePlain (p ∷ [])
one p is q (inl e) = rw e is
one p is q (inr m) = absurd m

pub both : (ps qs : List PacketOf) → ArePlain ps → ArePlain qs → ArePlain (ps ++ qs)
both ps qs a b p m = ⊎_elim (λ x. a p x) (λ x. b p x) (either ps qs p m)

aborts_plain : (job : JobOf) (records : List Record) → ArePlain (moves.aborts job records)
aborts_plain job [] p m = absurd m
aborts_plain job (r ∷ records) p (inl e) = rw e refl
aborts_plain job (r ∷ records) p (inr m) = aborts_plain job records p m

pub results_plain : (job : JobOf) (i : ℕ) (s : SubOf) → ArePlain (moves.results job i s)
results_plain job i s = by_progress s.content.progress
  where
    by_progress : (x : Progress) → ArePlain (moves.result_by job i s x)
    by_progress Active = none
    by_progress (Finished o) = one _ refl

-- ---- where a node stands

stays : (n k : NodeOf) → k.state ≡ n.state → ((x : SubOf) → x ∈ k.subs → x ∈ n.subs) → StaysFrozen n k
stays n k same subs r heir x leaves m = (r, sym same ∙ leaves, subs x m)

pub member_stays : (n k : NodeOf) (r : Roster) → k.state ≡ Member r → StaysFrozen n k
member_stays n k r is q heir x leaves m = let two : Member r ≡ Leaving q heir = sym is ∙ leaves in cc

then_plain : (New : AssemblyOf → Type 0) (n : NodeOf) (s : StepOf) (f : NodeOf → StepOf) → SendsNoOffer New n s
    → SendsNoOffer New s.after (f s.after) → SendsNoOffer New n (s then f)
then_plain New n s f a b = record {
  name = b.name ∙ a.name;
  frozen = λ r heir x leaves m. let y = b.frozen r heir x leaves m in a.frozen y.0 heir x y.1 y.2;
  replies = b.replies;
  parts = λ x m. ⊎_elim (λ old. a.parts x old) (λ new. inr new) (b.parts x m);
  sent = both s.sent (f s.after).sent a.sent b.sent;
}

ended_plain : (New : AssemblyOf → Type 0) (n : NodeOf) → SendsNoOffer New n (quiet (ended n))
ended_plain New n = record {
  name = refl;
  frozen = λ r heir x leaves m. absurd m;
  replies = λ r m. absurd m;
  parts = λ x m. absurd m;
  sent = none;
}

-- ---- answers by tests

module _ (New : AssemblyOf → Type 0) (n : NodeOf) where
  pub by_test : (b : Bool) (x y : Answer) → NoOffers New n x → NoOffers New n y → NoOffers New n (cond b x y)
  by_test true x y a c = a
  by_test false x y a c = c

  pub if_there : {A : Type 0} (o : Option A) (x : Answer) (some : A → Answer) → NoOffers New n x
      → ((a : A) → NoOffers New n (some a)) → NoOffers New n (by_option o x some)
  unfolding by_option
  if_there None x some a b = a
  if_there (Some y) x some a b = b y

  pub in_state : (s : State) (joined : Roster → Answer) (leaving : Roster → ℕ → Answer) (joining over : Answer)
      → NoOffers New n joining → ((r : Roster) → s ≡ Member r → NoOffers New n (joined r))
      → ((r : Roster) (heir : ℕ) → s ≡ Leaving r heir → NoOffers New n (leaving r heir)) → NoOffers New n over
      → NoOffers New n (by_state s joining joined leaving over)
  unfolding by_state
  in_state Joining joined leaving joining over a b c d = a
  in_state (Member r) joined leaving joining over a b c d = b r refl
  in_state (Leaving r heir) joined leaving joining over a b c d = c r heir refl
  in_state Ended joined leaving joining over a b c d = d

  by_listed : (s : Option Status) (live gone unlisted : Answer) → NoOffers New n live → NoOffers New n gone
      → NoOffers New n unlisted → NoOffers New n (by_status s live gone unlisted)
  unfolding by_status
  by_listed None live gone unlisted a b c = c
  by_listed (Some member.Live) live gone unlisted a b c = a
  by_listed (Some member.Dead) live gone unlisted a b c = b
  by_listed (Some (member.Left heir)) live gone unlisted a b c = b

  in_order : (o : Ordering) (below same above : Answer) → NoOffers New n below → NoOffers New n same
      → NoOffers New n above → NoOffers New n (by_order o below same above)
  unfolding by_order
  in_order Less below same above a b c = a
  in_order Equal below same above a b c = b
  in_order Greater below same above a b c = c

module _ (New : AssemblyOf → Type 0) (job : JobOf) (n : NodeOf) (plain : IsPlainNode n) where
  -- packets alone
  says : (ps : List PacketOf) → ArePlain ps → SendsNoOffer New n (sends ps n)
  says ps is = record {
    name = refl;
    frozen = stays n n refl (λ x m. m);
    replies = plain.replies;
    parts = λ x m. inl m;
    sent = is;
  }

  says_one : (p : PacketOf) → IsPlain p → SendsNoOffer New n (sends (p ∷ []) n)
  says_one p is = says (p ∷ []) (one p is)

  -- ---- rosters
  joins_plain : (r : Roster) → NoOffers New n (cases.joins r n)
  joins_plain r = by_listed New n (status_in n.incarnation r.members) _ _ _
      (record {
        name = refl;
        frozen = member_stays n (record n { state = Member r }) r refl;
        replies = plain.replies;
        parts = λ x m. inl m;
        sent = none;
      }) (ended_plain New n) tt

  roster_plain : (old new : Roster) (kept : Answer) → NoOffers New n kept
      → NoOffers New n (cases.by_roster old new n kept)
  roster_plain old new kept is =
      in_order New n (nat_cmp new.epoch old.epoch) _ _ _ tt
      (by_test New n (nat_lt old.version new.version) _ _
      (by_listed New n (status_in n.incarnation new.members) _ _ _ is (ended_plain New n) tt) tt)
      (ended_plain New n)

  recovers_plain : (k : NodeOf) (members : List MemberRow) (gs : List Grant) (r : Roster) → k.state ≡ Member r
      → k.incarnation ≡ n.incarnation → ((x : Reply) → x ∈ k.replies → IsPlain x.packet)
      → SendsNoOffer New k (moves.recovers job members gs k)
  recovers_plain k members gs r is name replies =
      record {
        name = refl;
        frozen = member_stays k (moves.recovers job members gs k).after r is;
        replies = replies;
        parts = λ x m. inl m;
        sent = aborts_plain job _;
      }

  member_roster_plain : (old new : Roster) → NoOffers New n (cases.member_roster job old new n)
  member_roster_plain old new = roster_plain old new _ (record {
    name = refl;
    frozen = member_stays n (cases.recovers_by job new n).after new refl;
    replies = plain.replies;
    parts = λ x m. inl (filtered _ x n.assemblies m);
    sent = both (moves.recovers job new.members (grants_of_subs n.subs) (record n { state = Member new })).sent []
        (aborts_plain job _) none;
  })

  leaving_roster_plain : (old : Roster) (heir : ℕ) (new : Roster) → n.state ≡ Leaving old heir
      → NoOffers New n (cases.leaving_roster job old heir new n)
  leaving_roster_plain old heir new is =
      roster_plain old new _ (by_test New n (not (moves.is_empty n.subs) && not (is_live heir new.members)) _ _
      (ended_plain New n)
      (record { name = refl; frozen = frozen; replies = plain.replies; parts = λ x m. inl m; sent = none }))
    where
      frozen : StaysFrozen n (record n { state = Leaving new heir })
      frozen r h x leaves m = let same : heir ≡ h = cc in (old, rw same at is, m)

  -- ---- requests
  answers_plain : (thief seq : ℕ) (b : Body) (k : NodeOf) → is_short b ≡ true → k.incarnation ≡ n.incarnation
      → StaysFrozen n k → k.replies ≡ n.replies → k.assemblies ≡ n.assemblies
      → SendsNoOffer New n (moves.answers job thief seq b k)
  answers_plain thief seq b k short name frozen same parts = record {
    name = name;
    frozen = frozen;
    replies = λ r m. ⊎_elim (λ new. rw new short) (λ old. plain.replies r (rw same at old))
        (put_among name_of_reply (record {
          thief = thief;
          seq = seq;
          packet = moves.packet job thief b;
        }) r k.replies m);
    parts = λ x m. inl (rw parts at m);
    sent = one _ short;
  }

  served_plain : (b : Steal) (o : Option ReadyFrame)
      → ((f : ReadyFrame) → o ≡ Some f → (r : Roster) × (n.state ≡ Member r)) → NoOffers New n (cases.served job b o n)
  served_plain b None may = answers_plain b.from b.seq (body.Refuse (record { seq = b.seq })) n refl refl
      (stays n n refl (λ x m. m)) refl refl
  served_plain b (Some f) may = by_test New n (nat_lt (n.minted + 1) (2 ^ 64)) _ _ (
      let is = may f refl in
      let g : Grant = record { minter = n.incarnation; number = n.minted + 1 } in
      let k : NodeOf = record n {
        minted = n.minted + 1;
        subs = put_sub (with_content f.sub (granted_out g b.from f.ready f.sub.content)) n.subs;
      } in
      answers_plain b.from b.seq (body.Grant
      (record {
        seq = b.seq;
        grant = g;
        task = task_of f.ready;
        saved = saved_under f.ready.frame.place f.sub.saved;
      })) k refl refl (member_stays n k is.0 is.1) refl refl) tt

  stolen_plain : (r : Roster) (b : Steal) (o : Option ReadyFrame)
      → ((f : ReadyFrame) → o ≡ Some f → (q : Roster) × (n.state ≡ Member q))
      → NoOffers New n (cases.stolen job r b o n)
  stolen_plain r b o may = by_test New n (is_live b.from r.members) _ _ (by_kept (reply_in b.from n.replies) refl) tt
    where
      by_kept : (x : Option Reply) → reply_in b.from n.replies ≡ x
          → NoOffers New n (by_reply x b.seq Ignored (λ reply. Does (sends (reply ∷ []) n)) (cases.served job b o n))
      by_kept None e = served_plain b o may
      by_kept (Some reply) e = in_order New n (nat_cmp b.seq reply.seq) _ _ _ tt
          (says_one reply.packet (plain.replies reply (found_among _ reply n.replies e))) (served_plain b o may)

  again_plain : (g : Grant) → NoOffers New n (cases.acknowledged_again job g n)
  again_plain g = by_test New n (is_worker g.minter && is_some (hop_in g n.seen)) _ _ (says_one _ refl) tt

  granted_plain : (b : GrantBody) (r : Roster) → n.state ≡ Member r → NoOffers New n (cases.granted job b n)
  granted_plain b r is = by_test New n
      (is_answered_by b.seq b.grant n.asker.pending && not (is_some (hop_in b.grant n.seen))
      && task_fits job.program b.task && cases.saved_fit b.task b.saved) _ _
      (record {
        name = refl;
        frozen = member_stays n (moves.takes job b n).after r is;
        replies = plain.replies;
        parts = λ x m. inl m;
        sent = none;
      }) (again_plain b.grant)

  leaver_granted_plain : (b : GrantBody) (r : Roster) (heir : ℕ) → n.state ≡ Leaving r heir
      → NoOffers New n (cases.granted job b n)
  leaver_granted_plain b r heir is = by_pending n.asker.pending (plain.idle r heir is)
    where
      by_pending : (o : Option Request) → o ≡ None
          → NoOffers New n (cond (is_answered_by b.seq b.grant o && not (is_some (hop_in b.grant n.seen))
          && task_fits job.program b.task && cases.saved_fit b.task b.saved) (Does (moves.takes job b n))
          (cases.acknowledged_again job b.grant n))
      by_pending None e = again_plain b.grant
      by_pending (Some q) e = cc

  -- ---- outcomes
  pub changes_plain : (s : SubOf) (c : ContentChange) (r : Roster) → n.state ≡ Member r
      → SendsNoOffer New n (moves.changes job s c n)
  changes_plain s c r is = record {
    name = refl;
    frozen = member_stays n (moves.changes job s c n).after r is;
    replies = plain.replies;
    parts = λ x m. inl m;
    sent =
        both (moves.aborts job c.dropped) (moves.results job n.incarnation (with_content s c.after))
        (aborts_plain job c.dropped) (results_plain job n.incarnation (with_content s c.after));
  }

  save_plain : (r : Roster) (place : List ℕ) (o : Outcome) → ArePlain (moves.save_of job n.incarnation r place o)
  save_plain r place TooDeep = none
  save_plain r place (Value v) = by_place (is_saved_place (stripped place))
    where
      by_place : (b : Bool) → ArePlain (cond b
          (moves.packet job (house_of r.epoch)
          (body.Save (record { from = n.incarnation; place = stripped place; value = v })) ∷ []) [])
      by_place true = one _ refl
      by_place false = none

  closes_by_plain : (s : SubOf) (y : Record) (o : Outcome) (r : Roster) → n.state ≡ Member r
      → SendsNoOffer New n (moves.closes_by job r o s y n)
  closes_by_plain s y o r is =
      let c = changes_plain s (closed y o s.content) r is in
      record {
        name = c.name;
        frozen = c.frozen;
        replies = c.replies;
        parts = c.parts;
        sent =
            both (moves.changes job s (closed y o s.content) n).sent
            (moves.save_of job n.incarnation r y.task.place o) c.sent (save_plain r y.task.place o);
      }

  closes_plain : (g : Grant) (o : Outcome) (r : Roster) → n.state ≡ Member r
      → SendsNoOffer New n (moves.closes job r g o n)
  unfolding for_some
  closes_plain g o r is = by_sub (host_in g n.subs)
    where
      by_record : (s : SubOf) (x : Option Record) → SendsNoOffer New n (for_some x (moves.closes_by job r o s) n)
      by_record s None = says [] none
      by_record s (Some y) = closes_by_plain s y o r is

      by_sub : (x : Option SubOf) → SendsNoOffer New n
          (for_some x (λ s. for_some (record_in g s.content.records) (moves.closes_by job r o s)) n)
      by_sub None = says [] none
      by_sub (Some s) = by_record s (record_in g s.content.records)

  returned_plain : (b : TaskResult) (r : Roster) → n.state ≡ Member r → NoOffers New n (cases.returned job r b n)
  returned_plain b r is = then_plain New n (sends (moves.result_ack job b.from b.grant ∷ []) n)
      (moves.closes job r b.grant b.outcome) (says_one _ refl) (closes_plain b.grant b.outcome r is)

  -- ---- what goes
  gone_plain : (g : Grant) (ps : List PacketOf) → ArePlain ps
      → SendsNoOffer New n (sends ps (record n { subs = without_sub g n.subs }))
  gone_plain g ps is = record {
    name = refl;
    frozen = stays n (record n { subs = without_sub g n.subs }) refl (λ x m. filtered _ x n.subs m);
    replies = plain.replies;
    parts = λ x m. inl m;
    sent = is;
  }

  acknowledged_plain : (g : Grant) → NoOffers New n (cases.acknowledged job g n)
  acknowledged_plain g = if_there New n (sub_in g n.subs) _ _ tt
      (λ s. by_test New n (cases.is_finished s.content.progress) _ _ (gone_plain g [] none) tt)

  aborted_plain : (g : Grant) → NoOffers New n (cases.aborted job g n)
  aborted_plain g = if_there New n (sub_in g n.subs) _ _ tt
      (λ s. gone_plain s.grant _ (aborts_plain job s.content.records))

  pub leaves_plain : (r : Roster) (heir : ℕ) (k : NodeOf) → ArePlain (moves.leaves job r heir k)
  leaves_plain r heir k = by_done (moves.is_done r k)
    where
      by_done : (b : Bool) → ArePlain (cond b (moves.leave job k.incarnation r heir ∷ []) [])
      by_done true = one _ refl
      by_done false = none

  taken_plain : (r : Roster) (heir : ℕ) (b : OfferAck) → NoOffers New n (cases.taken job r heir b n)
  taken_plain r heir b =
      by_test New n (cases.is_released heir b (sub_in b.grant n.subs)) _ _ (let k : NodeOf =
      record n { subs = without_sub b.grant n.subs } in gone_plain b.grant (moves.leaves job r heir k)
      (leaves_plain r heir k))
      (by_test New n (nat_eq b.hop 0 && list_any (cases.confirms b) (moves.awaited r n)) _ _
      (let k : NodeOf = record n {
        confirmed = put_confirmed (record { thief = b.from; grant = b.grant }) n.confirmed;
      } in record {
        name = refl;
        frozen = stays n k refl (λ x m. m);
        replies = plain.replies;
        parts = λ x m. inl m;
        sent = leaves_plain r heir k;
      }) tt)

  -- ---- Offers
  member_offered_plain : (r : Roster) (o : Offer) → n.state ≡ Member r → NoOffers New n (cases.member_offered job r o n)
  member_offered_plain r o is = by_test New n (cases.is_above o.hop (hop_in o.grant n.seen)) _ _
      (by_test New n (not (is_some (sub_in o.grant n.subs))
      && content_fits job.program n.incarnation n.subs (offered o).content) _ _
      (then_plain New n (moves.accepts job o n) (moves.recovers job r.members (o.grant ∷ []))
      (record {
        name = refl;
        frozen = member_stays n (moves.accepts job o n).after r is;
        replies = plain.replies;
        parts = λ x m. inl m;
        sent = one _ refl;
      })
      (recovers_plain (moves.accepts job o n).after r.members (o.grant ∷ []) r is refl plain.replies)) tt)
      (says_one _ refl)

  leaving_offered_plain : (o : Offer) → NoOffers New n (cases.leaving_offered job o n)
  leaving_offered_plain o = by_test New n (cases.is_above o.hop (hop_in o.grant n.seen)) _ _ tt (says_one _ refl)

  -- ---- refusals
  refused_plain : (seq : ℕ) → NoOffers New n (cases.refused job seq n)
  refused_plain seq = by_test New n (is_pending seq n.asker.pending) _ _
      (record {
        name = refl;
        frozen = stays n (record n { asker = without_request n.asker }) refl (λ x m. m);
        replies = plain.replies;
        parts = λ x m. inl m;
        sent = none;
      }) tt

module _ (job : JobOf) (n : NodeOf) (plain : IsPlainNode n) where
  -- ---- Pieces
  -- what is done by a node that has forgotten parts is done by the node
  without : (New Other : AssemblyOf → Type 0) (g : Grant) (a : Answer)
      → NoOffers Other (record n { assemblies = without_assembly g n.assemblies }) a → ((x : AssemblyOf) → Other x → ⊥)
      → NoOffers New n (or_forgets (record n { assemblies = without_assembly g n.assemblies }) a)
  unfolding or_forgets
  without New Other g Ignored is never = record { parts = λ x m. filtered _ x n.assemblies m; rest = refl }
  without New Other g (Refused e) is never = tt
  without New Other g (Does s) is never =
      record {
        name = is.name;
        frozen = is.frozen;
        replies = is.replies;
        parts = λ x m. ⊎_elim (λ old. inl (filtered _ x n.assemblies old)) (λ new. absurd (never x new)) (is.parts x m);
        sent = is.sent;
      }
  without New Other g (Forgets k) is never =
      record { parts = λ x m. filtered _ x n.assemblies (is.parts x m); rest = is.rest }

  together_plain : (New : AssemblyOf → Type 0) (r : Roster) (g : Grant) (o : Option Offer) → n.state ≡ Member r
      → NoOffers New n (put_together job r o (record n { assemblies = without_assembly g n.assemblies }))
  unfolding put_together
  together_plain New r g None is = record { parts = λ x m. filtered _ x n.assemblies m; rest = refl }
  together_plain New r g (Some o) is =
      let m : NodeOf = record n { assemblies = without_assembly g n.assemblies } in
      without New (λ x. ⊥) g (cases.member_offered job r o m)
      (member_offered_plain (λ x. ⊥) job m (record { replies = plain.replies; idle = plain.idle }) r o is)
      (λ x new. new)

  collected_plain : (r : Roster) (b : Piece) (c : Collecting) → n.state ≡ Member r
      → collects b (assembly_in b.grant n.assemblies) ≡ c
      → NoOffers (IsNewBy (body.Piece b) n) n (collected job r b c n)
  unfolding collected
  collected_plain r b Old is e = tt
  collected_plain r b (Kept a) is e = record {
    name = refl;
    frozen = member_stays n (record n { assemblies = put_assembly a n.assemblies }) r is;
    replies = plain.replies;
    parts = λ x m. ⊎_elim (λ new. inr (record { piece = b; says = refl; kept = e ∙ ap Kept (sym new) }))
        (λ old. inl old) (put_among name_of_assembly a x n.assemblies m);
    sent = none;
  }
  collected_plain r b (Whole bytes) is e =
      together_plain (IsNewBy (body.Piece b) n) r b.grant
      (cases.said_by job b (record n { assemblies = without_assembly b.grant n.assemblies }) (long_reading bytes)) is

  member_pieced_plain : (r : Roster) (b : Piece) → n.state ≡ Member r
      → NoOffers (IsNewBy (body.Piece b) n) n (cases.member_pieced job r b n)
  member_pieced_plain r b is =
      let New = IsNewBy (body.Piece b) n in
      by_test New n (is_above b.hop (hop_in b.grant n.seen)) _ _
      (collected_plain r b (collects b (assembly_in b.grant n.assemblies)) is refl)
      (says_one New job n plain _ refl)

  leaving_pieced_plain : (b : Piece) → NoOffers (IsNewBy (body.Piece b) n) n (cases.leaving_pieced job b n)
  leaving_pieced_plain b = let New = IsNewBy (body.Piece b) n in by_test New n
      (is_above b.hop (hop_in b.grant n.seen)) _ _ tt (says_one New job n plain _ refl)

  -- ---- the table
  body_plain : (choice : Option Candidate) (b : Body) → NoOffers (IsNewBy b n) n (on_body job choice b n)
  unfolding on_body
  body_plain choice (body.Join b) = tt
  body_plain choice (body.Roster b) = let New =
      IsNewBy (body.Roster b) n in in_state New n n.state _ _ _ _ (joins_plain New job n plain b)
      (λ r is. member_roster_plain New job n plain r b)
      (λ r heir is. leaving_roster_plain New job n plain r heir b is) tt
  body_plain choice (body.Steal b) = let New =
      IsNewBy (body.Steal b) n in in_state New n n.state _ _ _ _ tt
      (λ r is. stolen_plain New job n plain r b (candidate_in n choice) (λ f e. (r, is)))
      (λ r heir is. stolen_plain New job n plain r b None (λ f e. cc)) tt
  body_plain choice (body.Grant b) = let New =
      IsNewBy (body.Grant b) n in in_state New n n.state _ _ _ _ tt (λ r is. granted_plain New job n plain b r is)
      (λ r heir is. leaver_granted_plain New job n plain b r heir is) tt
  body_plain choice (body.Refuse b) = let New =
      IsNewBy (body.Refuse b) n in in_state New n n.state _ _ _ _ tt (λ r is. refused_plain New job n plain b.seq)
      (λ r heir is. tt) tt
  body_plain choice (body.Result b) = let New =
      IsNewBy (body.Result b) n in in_state New n n.state _ _ _ _ tt (λ r is. returned_plain New job n plain b r is)
      (λ r heir is. tt) tt
  body_plain choice (body.ResultAck b) = let New =
      IsNewBy (body.ResultAck b) n in in_state New n n.state _ _ _ _ tt
      (λ r is. acknowledged_plain New job n plain b.grant) (λ r heir is. tt) tt
  body_plain choice (body.Offer b) = let New =
      IsNewBy (body.Offer b) n in in_state New n n.state _ _ _ _ tt
      (λ r is. member_offered_plain New job n plain r b is) (λ r heir is. leaving_offered_plain New job n plain b) tt
  body_plain choice (body.OfferAck b) = let New =
      IsNewBy (body.OfferAck b) n in in_state New n n.state _ _ _ _ tt (λ r is. tt)
      (λ r heir is. taken_plain New job n plain r heir b) tt
  body_plain choice (body.Leave b) = tt
  body_plain choice (body.Abort b) = let New =
      IsNewBy (body.Abort b) n in in_state New n n.state _ _ _ _ tt (λ r is. aborted_plain New job n plain b.grant)
      (λ r heir is. tt) tt
  body_plain choice (body.Beat b) = tt
  body_plain choice (body.Save b) = tt
  body_plain choice (body.Piece b) = let New =
      IsNewBy (body.Piece b) n in in_state New n n.state _ _ _ _ tt (λ r is. member_pieced_plain r b is)
      (λ r heir is. leaving_pieced_plain b) tt

  pub packet_plain : (choice : Option Candidate) (p : PacketOf)
      → NoOffers (IsNewBy p.body n) n (on_packet job choice p n)
  unfolding on_packet
  packet_plain choice p = by_test (IsNewBy p.body n) n (nat_eq p.job job.number && nat_eq p.to n.incarnation) _ _
      (body_plain choice p.body) tt
