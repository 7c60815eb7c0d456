-- Who goes on is live by its own roster, and a leaver's heir too where it holds something: each
-- packet, and each call.
use Rattle.std.proofs.Common.{◌≡◌, ◌+◌, ◌^◌, ℕ, Bool, true, false, cond, not, nat_eq, nat_lt, ◌&&◌, List, [], ◌∷◌, ◌⊎◌, inl, inr, Option, None, Some, Result, Ok, Err, is_some, refl, sym, ◌||◌, Ordering, Less, Equal, Greater}
use Rattle.std.specs.List.{list_any}
use Rattle.std.specs.Ordering.{nat_cmp}
use Rattle.ids.specs.Members.{is_live, status_in}
use Rattle.ids.specs.Names.{Grant, is_worker}
use Rattle.ids.specs.declared.member.Member.{Member as Listed}
use Rattle.ids.specs.declared.member.Status.{Status}
use Rattle.ids.specs.declared.member.Status.TheVariants as member
use Rattle.ids.specs.declared.work.Record.{Record}
use Rattle.body_eval.specs.Done.{DoneOf}
use Rattle.codec.specs.declared.body.Grant.{Grant as GrantBody}
use Rattle.codec.specs.declared.body.Offer.{Offer}
use Rattle.codec.specs.declared.body.OfferAck.{OfferAck}
use Rattle.codec.specs.Pieces.{long_reading}
use Rattle.codec.specs.declared.body.Piece.{Piece}
use Rattle.codec.specs.declared.body.Roster.{Roster}
use Rattle.codec.specs.declared.body.Steal.{Steal}
use Rattle.codec.specs.declared.body.TaskResult.{TaskResult}
use Rattle.codec.specs.declared.body.Body.{Body}
use Rattle.codec.specs.declared.body.Body.TheVariants as body
use Rattle.codec.specs.Table.{PacketOf}
use Rattle.departure.specs.Offers.{offered}
use Rattle.departure.specs.declared.freezing.FreezeError.{FreezeError}
use Rattle.departure.specs.declared.freezing.FreezeError.TheVariants as freeze
use Rattle.serial_meaning.specs.Job.{JobOf}
use Rattle.steal_protocol.specs.Replies.{by_order, by_reply, reply_in}
use Rattle.steal_protocol.specs.Requests.{is_answered_by, is_pending}
use Rattle.steal_protocol.specs.declared.asker.Request.{Request}
use Rattle.steal_protocol.specs.declared.replies.Reply.{Reply}
use Rattle.victim_records.specs.Records.{record_in}
use Rattle.sub_rules.specs.declared.change.ContentChange.{ContentChange}
use Rattle.sub_rules.specs.declared.change.SubError.{SubError}
use Rattle.sub_rules.specs.declared.change.SubError.TheVariants as sub
use Rattle.subcomputation.specs.Fitting.{content_fits, task_fits}
use Rattle.subcomputation.specs.Subs.{SubOf, host_in, sub_in, without_sub}
use Rattle.node_state.specs.Posts.{ReadyFrame, ready_at}
use Rattle.node_state.specs.declared.parts.State.TheVariants.{Joining, Member, Leaving, Ended}
use Rattle.node_steps.specs.Calls as calls
use Rattle.node_steps.specs.Cases.{Candidate, Collecting, Kept, Old, Whole, by_option, by_status, candidate_in, collected, collects, confirms, granted, is_above, is_finished, is_released, joins, leaving_offered, leaving_pieced, leaving_roster, member_offered, member_pieced, member_roster, on_body, on_packet, or_forgets, put_together, said_by, saved_fit, served, stolen, taken}
use Rattle.node_steps.specs.Moves.{awaited, closes, closes_by, is_empty, move_to}
use Rattle.node_steps.specs.Steps.{Answer, Does, Forgets, Ignored, Refused, for_some, sends}
use Rattle.node_steps.specs.declared.parts.Victim.{Victim}
use Rattle.node_state.specs.Assemblies.{assembly_in, without_assembly}
use Rattle.node_state.specs.Node.{NodeOf, by_state, hop_in}
use Rattle.node_state.specs.declared.parts.State.{State}
use Rattle.departure.specs.Freezing.{lacks_heir, refusal}
use Rattle.actor_laws.proofs.standing.Steps.{first_of}
use Rattle.actor_laws.specs.standing.Lasting.{AnswerLasts, LastsAt, LeaverLasts, NodeLasts}

at_state : (k : NodeOf) (s t : State) → s ≡ t → LastsAt k t → LastsAt k s
at_state k s t is lasts = rw is lasts

by_test : (b : Bool) (x y : Answer) → (b ≡ true → AnswerLasts x) → (b ≡ false → AnswerLasts y)
    → AnswerLasts (cond b x y)
by_test true x y a c = a refl
by_test false x y a c = c refl

if_there : {A : Type 0} (o : Option A) (none : Answer) (some : A → Answer) → AnswerLasts none
    → ((a : A) → AnswerLasts (some a)) → AnswerLasts (by_option o none some)
unfolding by_option
if_there None none some x y = x
if_there (Some a) none some x y = y a

in_state : (s : State) (joining : Answer) (joined : Roster → Answer) (leaving : Roster → ℕ → Answer) (over : Answer)
    → AnswerLasts joining → ((r : Roster) → s ≡ Member r → AnswerLasts (joined r))
    → ((r : Roster) (heir : ℕ) → s ≡ Leaving r heir → AnswerLasts (leaving r heir)) → AnswerLasts over
    → AnswerLasts (by_state s joining joined leaving over)
unfolding by_state
in_state Joining joining joined leaving over a b c d = a
in_state (Member r) joining joined leaving over a b c d = b r refl
in_state (Leaving r heir) joining joined leaving over a b c d = c r heir refl
in_state Ended joining joined leaving over a b c d = d

by_listed : (s : Option Status) (live gone unlisted : Answer) → (s ≡ Some member.Live → AnswerLasts live)
    → AnswerLasts gone → AnswerLasts unlisted → AnswerLasts (by_status s live gone unlisted)
unfolding by_status
by_listed None live gone unlisted a b c = c
by_listed (Some member.Live) live gone unlisted a b c = a refl
by_listed (Some member.Dead) live gone unlisted a b c = b
by_listed (Some (member.Left heir)) live gone unlisted a b c = b

in_order : (o : Ordering) (below same above : Answer) → AnswerLasts below → AnswerLasts same → AnswerLasts above
    → AnswerLasts (by_order o below same above)
unfolding by_order
in_order Less below same above a b c = a
in_order Equal below same above a b c = b
in_order Greater below same above a b c = c

listed_live : (i : ℕ) (members : List Listed) → status_in i members ≡ Some member.Live → is_live i members ≡ true
listed_live i members e = rw e refl

module _ (job : JobOf) (n : NodeOf) (r : Roster) (is : n.state ≡ Member r)
    (own : is_live n.incarnation r.members ≡ true) where
  goes : (k : NodeOf) → k.state ≡ Member r → k.incarnation ≡ n.incarnation → NodeLasts k
  goes k at name =
      let live : is_live k.incarnation r.members ≡ true = rw name own in at_state k k.state (Member r) at live

  served_lasts : (b : Steal) (o : Option ReadyFrame) → AnswerLasts (served job b o n)
  served_lasts b None = goes _ is refl
  served_lasts b (Some f) = by_test (nat_lt (n.minted + 1) (2 ^ 64)) _ _ (λ room. goes _ is refl) (λ room. tt)

  stolen_lasts : (b : Steal) (o : Option ReadyFrame) → AnswerLasts (stolen job r b o n)
  stolen_lasts b o = by_test (is_live b.from r.members) _ _ (λ live. by_kept (reply_in b.from n.replies)) (λ live. tt)
    where
      by_kept : (x : Option Reply)
          → AnswerLasts (by_reply x b.seq Ignored (λ reply. Does (sends (reply ∷ []) n)) (served job b o n))
      by_kept None = served_lasts b o
      by_kept (Some reply) = in_order (nat_cmp b.seq reply.seq) _ _ _ tt (goes n is refl) (served_lasts b o)

  granted_lasts : (b : GrantBody) → AnswerLasts (granted job b n)
  granted_lasts b =
      by_test (is_answered_by b.seq b.grant n.asker.pending && not (is_some (hop_in b.grant n.seen))
      && task_fits job.program b.task && saved_fit b.task b.saved) _ _
      (λ e. goes _ is refl)
      (λ no. by_test (is_worker b.grant.minter && is_some (hop_in b.grant n.seen)) _ _ (λ e. goes n is refl) (λ e. tt))

  closes_lasts : (b : TaskResult) → NodeLasts (closes job r b.grant b.outcome n).after
  unfolding for_some
  closes_lasts b = by_sub (host_in b.grant n.subs)
    where
      by_record : (s : SubOf) (o : Option Record) → NodeLasts (for_some o (λ x. closes_by job r b.outcome s x) n).after
      by_record s None = goes n is refl
      by_record s (Some x) = goes _ is refl

      by_sub : (o : Option SubOf)
          → NodeLasts
          (for_some o (λ s. for_some (record_in b.grant s.content.records) (λ x. closes_by job r b.outcome s x))
          n).after
      by_sub None = goes n is refl
      by_sub (Some s) = by_record s (record_in b.grant s.content.records)

  offered_lasts : (o : Offer) → AnswerLasts (member_offered job r o n)
  offered_lasts o = by_test (is_above o.hop (hop_in o.grant n.seen)) _ _ (λ above.
      by_test
      (not (is_some (sub_in o.grant n.subs)) && content_fits job.program n.incarnation n.subs (offered o).content) _ _
      (λ fits. goes _ is refl) (λ no. tt)) (λ no. goes n is refl)

  roster_lasts : (new : Roster) → AnswerLasts (member_roster job r new n)
  roster_lasts new =
      in_order (nat_cmp new.epoch r.epoch) _ _ _ tt
      (by_test (nat_lt r.version new.version) _ _
      (λ newer.
      by_listed (status_in n.incarnation new.members) _ _ _
      (λ live. listed_live n.incarnation new.members live) refl tt)
      (λ old. tt))
      refl

-- Piece: with the last one comes an Offer
forgets_last : (n : NodeOf) → NodeLasts n → (a : Answer) → AnswerLasts a → AnswerLasts (or_forgets n a)
unfolding or_forgets
forgets_last n lasts Ignored k = lasts
forgets_last n lasts (Refused e) k = tt
forgets_last n lasts (Does s) k = k
forgets_last n lasts (Forgets m) k = k

module _ (job : JobOf) (n : NodeOf) (r : Roster) (is : n.state ≡ Member r)
    (own : is_live n.incarnation r.members ≡ true) where
  together_lasts : (m : NodeOf) → m.state ≡ Member r → m.incarnation ≡ n.incarnation → (o : Option Offer)
      → AnswerLasts (put_together job r o m)
  unfolding put_together
  together_lasts m at name None = goes job n r is own m at name
  together_lasts m at name (Some o) =
      let lives : is_live m.incarnation r.members ≡ true = rw name own in
      forgets_last m (goes job n r is own m at name) (member_offered job r o m) (offered_lasts job m r at lives o)

  collected_lasts : (b : Piece) (x : Collecting) → AnswerLasts (collected job r b x n)
  unfolding collected
  collected_lasts b Old = tt
  collected_lasts b (Kept a) = goes job n r is own _ is refl
  collected_lasts b (Whole bytes) =
      let m : NodeOf = record n { assemblies = without_assembly b.grant n.assemblies } in
      together_lasts m is refl (said_by job b m (long_reading bytes))

  pieced_lasts : (b : Piece) → AnswerLasts (member_pieced job r b n)
  pieced_lasts b =
      by_test (is_above b.hop (hop_in b.grant n.seen)) _ _
      (λ above. collected_lasts b (collects b (assembly_in b.grant n.assemblies)))
      (λ old. goes job n r is own n is refl)

  -- a turn, and a request
  changed_lasts : (s : SubOf) (o : Result ContentChange SubError) → AnswerLasts (calls.changed job s n o)
  changed_lasts s (Ok c) = goes job n r is own _ is refl
  changed_lasts s (Err sub.Stale) = tt
  changed_lasts s (Err sub.Spent) = tt
  changed_lasts s (Err sub.Memory) = tt

  asks_last : (victim : Victim) → AnswerLasts (calls.member_ask job victim n r)
  asks_last victim =
      by_test (not (calls.may_ask r n victim)) _ _ (λ may. tt) (λ may.
      by_test (is_some n.asker.pending) _ _ (λ busy. tt) (λ idle.
      by_test (nat_lt (n.asker.asked + 1) (2 ^ 64)) _ _ (λ room. goes job n r is own _ is refl) (λ full. tt)))

module _ (job : JobOf) (n : NodeOf) (r : Roster) (heir : ℕ) (is : n.state ≡ Leaving r heir)
    (lasts : LeaverLasts n r heir) where
  stays : (k : NodeOf) → k.state ≡ Leaving r heir → LeaverLasts k r heir → NodeLasts k
  stays k at l = at_state k k.state (Leaving r heir) at l

  -- all but its subcomputations is asked of it as before
  leaver_stolen : (b : Steal) → AnswerLasts (stolen job r b None n)
  leaver_stolen b = by_test (is_live b.from r.members) _ _ (λ live. by_kept (reply_in b.from n.replies)) (λ live. tt)
    where
      by_kept : (x : Option Reply)
          → AnswerLasts (by_reply x b.seq Ignored (λ reply. Does (sends (reply ∷ []) n)) (served job b None n))
      by_kept None = stays _ is (record { own = lasts.own; idle = lasts.idle; heirs = lasts.heirs })
      by_kept (Some reply) =
          in_order (nat_cmp b.seq reply.seq) _ _ _ tt (stays n is lasts)
          (stays _ is (record { own = lasts.own; idle = lasts.idle; heirs = lasts.heirs }))

  unanswered : (seq : ℕ) (g : Grant) (o : Option Request) → o ≡ None → is_answered_by seq g o ≡ true → ⊥
  unanswered seq g None e a = cc
  unanswered seq g (Some q) e a = cc

  leaver_granted : (b : GrantBody) → AnswerLasts (granted job b n)
  leaver_granted b =
      by_test (is_answered_by b.seq b.grant n.asker.pending && not (is_some (hop_in b.grant n.seen))
      && task_fits job.program b.task && saved_fit b.task b.saved) _ _
      (λ e.
      let answered : is_answered_by b.seq b.grant n.asker.pending ≡ true =
      first_of (is_answered_by b.seq b.grant n.asker.pending) (not (is_some (hop_in b.grant n.seen)))
      (task_fits job.program b.task) (saved_fit b.task b.saved) e in
      absurd (unanswered b.seq b.grant n.asker.pending lasts.idle answered))
      (λ no.
      by_test (is_worker b.grant.minter && is_some (hop_in b.grant n.seen)) _ _ (λ e. stays n is lasts) (λ e. tt))

  leaver_offered : (o : Offer) → AnswerLasts (leaving_offered job o n)
  leaver_offered o = by_test (is_above o.hop (hop_in o.grant n.seen)) _ _ (λ e. tt) (λ e. stays n is lasts)

  leaver_pieced : (b : Piece) → AnswerLasts (leaving_pieced job b n)
  leaver_pieced b = by_test (is_above b.hop (hop_in b.grant n.seen)) _ _ (λ e. tt) (λ e. stays n is lasts)

  still : (g : Grant) (subs : List SubOf) → is_empty subs ≡ true → is_empty (without_sub g subs) ≡ true
  still g [] e = refl
  still g (s ∷ subs) e = cc

  fewer : (g : Grant) → (is_empty n.subs ≡ true) ⊎ (is_live heir r.members ≡ true)
      → (is_empty (without_sub g n.subs) ≡ true) ⊎ (is_live heir r.members ≡ true)
  fewer g (inl none) = inl (still g n.subs none)
  fewer g (inr live) = inr live

  leaver_taken : (b : OfferAck) → AnswerLasts (taken job r heir b n)
  leaver_taken b = by_test (is_released heir b (sub_in b.grant n.subs)) _ _
      (λ e. stays _ is (record { own = lasts.own; idle = lasts.idle; heirs = fewer b.grant lasts.heirs }))
      (λ e.
      by_test (nat_eq b.hop 0 && list_any (confirms b) (awaited r n)) _ _
      (λ e. stays _ is (record { own = lasts.own; idle = lasts.idle; heirs = lasts.heirs })) (λ e. tt))

  either_one : (a b : Bool) → (not a && not b) ≡ false → (a ≡ true) ⊎ (b ≡ true)
  either_one true b e = inl refl
  either_one false true e = inr refl
  either_one false false e = cc

  leaver_roster : (new : Roster) → AnswerLasts (leaving_roster job r heir new n)
  leaver_roster new =
      in_order (nat_cmp new.epoch r.epoch) _ _ _ tt
      (by_test (nat_lt r.version new.version) _ _
      (λ newer.
      by_listed (status_in n.incarnation new.members) _ _ _
      (λ live.
      by_test (not (is_empty n.subs) && not (is_live heir new.members)) _ _ (λ e. refl)
      (λ e. record {
        own = listed_live n.incarnation new.members live;
        idle = lasts.idle;
        heirs = either_one (is_empty n.subs) (is_live heir new.members) e;
      })) refl tt)
      (λ old. tt))
      refl

joins_last : (n : NodeOf) (r : Roster) → AnswerLasts (joins r n)
joins_last n r =
    by_listed (status_in n.incarnation r.members) _ _ _ (λ live. listed_live n.incarnation r.members live) refl tt

module _ (job : JobOf) (n : NodeOf) (lasts : NodeLasts n) where
  at : (r : Roster) → n.state ≡ Member r → is_live n.incarnation r.members ≡ true
  at r e = at_state n (Member r) n.state (sym e) lasts

  gone : (r : Roster) (heir : ℕ) → n.state ≡ Leaving r heir → LeaverLasts n r heir
  gone r heir e = at_state n (Leaving r heir) n.state (sym e) lasts

  body_lasts : (choice : Option Candidate) (b : Body) → AnswerLasts (on_body job choice b n)
  unfolding on_body
  body_lasts choice (body.Join b) = tt
  body_lasts choice (body.Roster b) =
      in_state n.state _ _ _ _ (joins_last n b) (λ r e. roster_lasts job n r e (at r e) b)
      (λ r heir e. leaver_roster job n r heir e (gone r heir e) b) tt
  body_lasts choice (body.Steal b) =
      in_state n.state _ _ _ _ tt (λ r e. stolen_lasts job n r e (at r e) b (candidate_in n choice))
      (λ r heir e. leaver_stolen job n r heir e (gone r heir e) b) tt
  body_lasts choice (body.Grant b) =
      in_state n.state _ _ _ _ tt (λ r e. granted_lasts job n r e (at r e) b)
      (λ r heir e. leaver_granted job n r heir e (gone r heir e) b) tt
  body_lasts choice (body.Refuse b) =
      in_state n.state _ _ _ _ tt
      (λ r e. by_test (is_pending b.seq n.asker.pending) _ _ (λ p. goes job n r e (at r e) _ e refl) (λ p. tt))
      (λ r heir e. tt) tt
  body_lasts choice (body.Result b) =
      in_state n.state _ _ _ _ tt (λ r e. closes_lasts job n r e (at r e) b) (λ r heir e. tt) tt
  body_lasts choice (body.ResultAck b) =
      in_state n.state _ _ _ _ tt
      (λ r e.
      if_there (sub_in b.grant n.subs) _ _ tt
      (λ s. by_test (is_finished s.content.progress) _ _ (λ p. goes job n r e (at r e) _ e refl) (λ p. tt)))
      (λ r heir e. tt) tt
  body_lasts choice (body.Offer b) =
      in_state n.state _ _ _ _ tt (λ r e. offered_lasts job n r e (at r e) b)
      (λ r heir e. leaver_offered job n r heir e (gone r heir e) b) tt
  body_lasts choice (body.OfferAck b) =
      in_state n.state _ _ _ _ tt (λ r e. tt) (λ r heir e. leaver_taken job n r heir e (gone r heir e) b) tt
  body_lasts choice (body.Leave b) = tt
  body_lasts choice (body.Abort b) =
      in_state n.state _ _ _ _ tt
      (λ r e. if_there (sub_in b.grant n.subs) _ _ tt (λ s. goes job n r e (at r e) _ e refl)) (λ r heir e. tt) tt
  body_lasts choice (body.Beat b) = tt
  body_lasts choice (body.Save b) = tt
  body_lasts choice (body.Piece b) =
      in_state n.state _ _ _ _ tt (λ r e. pieced_lasts job n r e (at r e) b)
      (λ r heir e. leaver_pieced job n r heir e (gone r heir e) b) tt

  pub packet_lasts : (choice : Option Candidate) (p : PacketOf) → AnswerLasts (on_packet job choice p n)
  unfolding on_packet
  packet_lasts choice p =
      by_test (nat_eq p.job job.number && nat_eq p.to n.incarnation) _ _ (λ e. body_lasts choice p.body) (λ e. tt)

  -- it departs to a live heir, with no request pending
  departs : (r : Roster) (heir : ℕ) → n.state ≡ Member r → (o : Option FreezeError)
      → refusal (move_to job heir n) (is_some n.asker.pending) r.members n.subs ≡ o
      → AnswerLasts (calls.frozen job o (calls.departs job r heir n))
  departs r heir e (Some x) is = tt
  departs r heir e None is =
      let heir_is_there : lacks_heir (move_to job heir n) r.members ≡ false =
      second (is_some n.asker.pending) (lacks_heir (move_to job heir n) r.members) _ is in
      record {
        own = at r e;
        idle = none n.asker.pending (first (is_some n.asker.pending) _ is);
        heirs = inr (live (nat_eq heir n.incarnation) (is_live heir r.members) heir_is_there);
      }
    where
      first : (b : Bool) (x : Option FreezeError) → cond b (Some freeze.Pending) x ≡ None → b ≡ false
      first true x e = cc
      first false x e = refl

      second : (b c : Bool) (x : Option FreezeError)
          → cond b (Some freeze.Pending) (cond c (Some freeze.NoHeir) x) ≡ None → c ≡ false
      second true c x e = cc
      second false true x e = cc
      second false false x e = refl

      none : (o : Option Request) → is_some o ≡ false → o ≡ None
      none None e = refl
      none (Some q) e = cc

      live : (a b : Bool) → (a || not b) ≡ false → b ≡ true
      live true b e = cc
      live false true e = refl
      live false false e = cc

  pub depart_lasts : (heir : ℕ) → AnswerLasts (calls.depart job heir n)
  unfolding calls.depart
  depart_lasts heir =
      in_state n.state _ _ _ _ tt
      (λ r e. departs r heir e (refusal (move_to job heir n) (is_some n.asker.pending) r.members n.subs) refl)
      (λ r x e. tt) tt

  pub exec_lasts : (d : DoneOf) (g : Grant) (f : ℕ) → AnswerLasts (calls.exec job d g f n)
  unfolding calls.exec
  exec_lasts d g f =
      in_state n.state _ _ _ _ tt (λ r e. if_there (sub_in g n.subs) _ _ tt (λ s. changed_lasts job n r e (at r e) s _))
      (λ r heir e. tt) tt

  pub exec_ready_lasts : (g : Grant) (f : ℕ) → AnswerLasts (calls.exec_ready job g f n)
  exec_ready_lasts g f =
      in_state n.state _ _ _ _ tt
      (λ r e.
      if_there (ready_at n g f) _ _ tt
      (λ x. if_there (calls.own_turn job.program x.ready) _ _ tt (λ d. exec_lasts d g f)))
      (λ r heir e. tt) tt

  pub whole_ready_lasts : (most : ℕ) (g : Grant) (f : ℕ) → AnswerLasts (calls.whole_ready job most g f n)
  whole_ready_lasts most g f =
      in_state n.state _ _ _ _ tt
      (λ r e.
      if_there (ready_at n g f) _ _ tt
      (λ x.
      if_there (calls.own_whole job.program most x.ready) _ _ tt
      (λ v. exec_lasts (calls.sends_it job.program x.ready v) g f)))
      (λ r heir e. tt) tt

  pub ask_lasts : (victim : Victim) → AnswerLasts (calls.ask job victim n)
  unfolding calls.ask
  ask_lasts victim =
      in_state n.state _ _ _ _ tt (λ r e. asks_last job n r e (at r e) victim)
      (λ r heir e. by_test (not (calls.may_ask r n victim)) _ _ (λ x. tt) (λ x. tt)) tt

  pub resend_lasts : AnswerLasts (calls.resend job n)
  unfolding calls.resend
  resend_lasts = in_state n.state _ _ _ _ lasts (λ r e. lasts) (λ r heir e. lasts) tt

pub start_lasts : (job : JobOf) (word : ℕ) → NodeLasts (calls.start job word).after
start_lasts job word = tt
