-- The rows of a leaving node.
use Rattle.std.proofs.Common.{◌≡◌, ◌<◌, ◌+◌, ℕ, suc, Bool, true, false, cond, not, nat_eq, nat_lt, ◌&&◌, [], inl, ⊎_elim, Option, None, Some, refl, sym, ap, ◌∙◌, Ordering, Less, Equal, Greater, arith}
use Rattle.std.specs.List.{list_any}
use Rattle.std.specs.Ordering.{eq_by_cmp, is_eq, nat_cmp}
use Rattle.std.proofs.lemmas.Bool.{and_parts}
use Rattle.ids.specs.Named.{item_in, name_cmp}
use Rattle.ids.specs.Names.{Grant, grant_cmp}
use Rattle.ids.specs.Naming.{name_of_grant}
use Rattle.ids.specs.Members.{is_live, status_in}
use Rattle.ids.specs.declared.member.Status.{Status}
use Rattle.ids.specs.declared.member.Status.TheVariants as member
use Rattle.ids.proofs.NameOrder.{exact_names}
use Rattle.ids.proofs.Replacing.{put_is_found}
use Rattle.agreement_laws.proofs.Finding.{put_stays}
use Rattle.codec.specs.declared.body.OfferAck.{OfferAck}
use Rattle.codec.specs.declared.body.Roster.{Roster}
use Rattle.codec.specs.declared.body.Steal.{Steal}
use Rattle.serial_meaning.specs.Job.{JobOf}
use Rattle.steal_protocol.specs.Replies.{by_order}
use Rattle.subcomputation.specs.Subs.{SubOf, name_of_sub, sub_in, without_sub}
use Rattle.node_state.specs.Node.{NodeOf, ended, is_confirmed, is_grant_of, name_of_confirmed, put_confirmed}
use Rattle.node_state.specs.declared.parts.State.TheVariants.{Leaving}
use Rattle.node_state.proofs.Posting.{same_names}
use Rattle.node_steps.specs.Cases.{by_status, confirms, is_released, leaving_roster, stolen, taken}
use Rattle.node_steps.specs.Moves.{awaited, is_empty, leaves}
use Rattle.node_steps.specs.Steps.{Does, Ignored, quiet, sends}
use Rattle.table_laws.specs.Tables.{◌∈◌}
use Rattle.table_laws.specs.View.{Works, View}
use Rattle.table_laws.specs.View as tables
use Rattle.table_laws.specs.Facts.{ack_of, offer_of, steal_of}
use Rattle.table_laws.specs.Guards.{MayAdopt, MayRelease}
use Rattle.table_laws.specs.Meaning.{Meaning}
use Rattle.table_laws.specs.Moves.{adopt, remove}
use Rattle.table_laws.specs.Acts as acts
use Rattle.table_laws.specs.Runs.{Run}
use Rattle.table_laws.proofs.Lists.{same_or}
use Rattle.table_laws.proofs.Entries.{put_here}
use Rattle.content_laws.proofs.Orders.{without_order}
use Rattle.move_laws.specs.Beside.{KeepsSent, unmoved, moved}
use Rattle.move_laws.proofs.Sent.{keeps_one, of_act, runs_on}
use Rattle.actor_laws.specs.node_moves.Shows.{RosterShown, PartsShown, NodeShown}
use Rattle.actor_laws.specs.node_moves.Steps.{StepShown, AnswerShown}
use Rattle.actor_laws.proofs.node_moves.Held.{HeldAt, held_at, shows_gone}
use Rattle.actor_laws.proofs.node_moves.Told.{packet_kept, none_shown}
use Rattle.actor_laws.proofs.node_moves.Beside.{steps_on}
use Rattle.actor_laws.proofs.node_moves.Granting.{refuses_shown, stolen_by}
use Rattle.actor_laws.proofs.node_moves.Leaving.{leaver_shown, leaves_shown}
use Rattle.actor_laws.proofs.node_moves.Rostering.{ends_shown}

pub exact_grants : (g h : Grant) → eq_by_cmp grant_cmp g h ≡ true → g ≡ h
exact_grants g h e = same_names g h (exact_names (name_of_grant g) (name_of_grant h)
    (by_order (name_cmp (name_of_grant g) (name_of_grant h)) e))
  where
    by_order : (o : Ordering) → is_eq o ≡ true → o ≡ Equal
    by_order Less e = cc
    by_order Equal e = refl
    by_order Greater e = cc

module _ (m : Meaning) (job : JobOf) (v : View) (n : NodeOf) (r : Roster) (heir : ℕ) (run : Run m v)
    (is : n.state ≡ Leaving r heir) (shown : NodeShown v n) where
  -- its heir has what was offered
  releases_shown : (b : OfferAck) → record { grant = b.grant; hop = b.hop; from = b.from; to = n.incarnation } ∈ v.acks
      → (s : SubOf) → sub_in b.grant n.subs ≡ Some s → b.hop ≡ s.hop + 1 → b.from ≡ heir
      → StepShown m job.number v n (quiet (record n { subs = without_sub b.grant n.subs }))
  releases_shown b acked s there hop from =
      let i = n.incarnation in
      let h = leaver_shown v n r heir is shown in
      let p = h.parts in
      let held : HeldAt (v.subs i b.grant) s =
      held_at (v.subs i b.grant) (sub_in b.grant n.subs) s (p.subs b.grant) there in
      let t = held.sub in
      let count : b.hop ≡ suc t.hop = (let e = held.shown.hop in omega (arith, e, hop)) in
      let same : ◌≡◌ {A = tables.Ack} (record { grant = b.grant; hop = b.hop; from = b.from; to = i })
      (ack_of (offer_of i heir b.grant t)) = rw (count, from) refl in
      let may : MayRelease v i heir b.grant t =
      record { leaving = h.mode; holds = held.is; acked = rw same at acked } in
      let act : acts.Act v (remove v i b.grant []) = acts.releases i heir b.grant t may in
      let view : View = remove v i b.grant [] in
      let keeps : KeepsSent v view = keeps_one act in
      let parts : PartsShown view (record n { subs = without_sub b.grant n.subs }) =
      record {
        minted = p.minted;
        asked = p.asked;
        pending = p.pending;
        seen = p.seen;
        subs = shows_gone v.subs i n.subs b.grant p.subs;
        order = without_order name_of_sub (name_of_grant b.grant) n.subs p.order;
        replies = p.replies;
        said = λ x y e. packet_kept keeps y.packet (p.said x y e);
        reply_order = p.reply_order;
        confirmed = p.confirmed;
        roster = p.roster;
      } in
      record {
        view = view;
        way = moved unmoved act tt (of_act act i refl);
        name = refl;
        node = record { mode = shown.mode; parts = λ x. parts };
        sent = none_shown view;
        transfers = λ u old. inl old;
        fills = refl;
      }

  -- a thief has its grant
  confirms_shown : (b : OfferAck) → record { grant = b.grant; hop = b.hop; from = b.from; to = n.incarnation } ∈ v.acks
      → b.hop ≡ 0 → StepShown m job.number v n
      (quiet (record n { confirmed = put_confirmed (record { thief = b.from; grant = b.grant }) n.confirmed }))
  confirms_shown b acked hop =
      let p = (leaver_shown v n r heir is shown).parts in
      let parts : PartsShown v (record n {
        confirmed = put_confirmed (record { thief = b.from; grant = b.grant }) n.confirmed;
      }) =
      record {
        minted = p.minted;
        asked = p.asked;
        pending = p.pending;
        seen = p.seen;
        subs = p.subs;
        order = p.order;
        replies = p.replies;
        said = p.said;
        reply_order = p.reply_order;
        confirmed = λ thief g e. one p thief g e;
        roster = p.roster;
      } in
      record {
        view = v;
        way = unmoved;
        name = refl;
        node = record { mode = shown.mode; parts = λ x. parts };
        sent = none_shown v;
        transfers = λ u old. inl old;
        fills = refl;
      }
    where
      ack_same : (g k : Grant) (h a c i : ℕ) → g ≡ k → h ≡ 0 → a ≡ c
          → ◌≡◌ {A = tables.Ack} (record { grant = g; hop = h; from = a; to = i })
          (record { grant = k; hop = 0; from = c; to = i })
      ack_same g k h a c i e f z = rw (e, f, z) refl

      named : (thief : ℕ) (g : Grant) → thief ≡ b.from
          → is_grant_of g (Some (record { thief = b.from; grant = b.grant })) ≡ true
          → record { grant = g; hop = 0; from = thief; to = n.incarnation } ∈ v.acks
      named thief g same e = rw (ack_same b.grant g b.hop b.from thief n.incarnation (exact_grants b.grant g e) hop
          (sym same)) at acked

      one : PartsShown v n → (thief : ℕ) (g : Grant)
          → is_confirmed thief g (put_confirmed (record { thief = b.from; grant = b.grant }) n.confirmed) ≡ true
          → record { grant = g; hop = 0; from = thief; to = n.incarnation } ∈ v.acks
      one p thief g e = ⊎_elim
          (λ (same : thief ≡ b.from).
          let at : item_in name_of_confirmed (thief, 0)
          (put_confirmed (record { thief = b.from; grant = b.grant }) n.confirmed)
          ≡ Some (record { thief = b.from; grant = b.grant }) =
          ap (λ (k : ℕ). item_in name_of_confirmed (k, 0)
          (put_confirmed (record { thief = b.from; grant = b.grant }) n.confirmed)) same
          ∙ put_is_found name_of_confirmed (record { thief = b.from; grant = b.grant }) n.confirmed in
          named thief g same (ap (is_grant_of g) (sym at) ∙ e))
          (λ (other : thief ≡ b.from → ⊥). p.confirmed thief g
          (ap (is_grant_of g) (sym (put_stays name_of_confirmed (thief, 0)
          (record { thief = b.from; grant = b.grant }) n.confirmed (λ z. other (ap (λ (k : ℕ × ℕ). k.0) z)))) ∙ e))
          (same_or thief b.from)

  -- then it may be done
  behind_shown : (k : NodeOf) → k.state ≡ Leaving r heir → (a : StepShown m job.number v n (quiet k))
      → StepShown m job.number v n (sends (leaves job r heir k) k)
  behind_shown k leaving a = steps_on m job.number v n (quiet k) (λ x. sends (leaves job r heir k) k) a
      (leaves_shown m job a.view k r heir (runs_on run a.way) leaving a.node)

  pub taken_shown : (b : OfferAck) → record { grant = b.grant; hop = b.hop; from = b.from; to = n.incarnation } ∈ v.acks
      → AnswerShown m job.number v n (taken job r heir b n)
  taken_shown b acked = by_sub (sub_in b.grant n.subs) refl
    where
      by_any : (x y : Bool) → nat_eq b.hop 0 ≡ x
          → AnswerShown m job.number v n (cond (x && y)
          (Does (sends (leaves job r heir (record n {
            confirmed = put_confirmed (record { thief = b.from; grant = b.grant }) n.confirmed;
          }))
          (record n { confirmed = put_confirmed (record { thief = b.from; grant = b.grant }) n.confirmed }))) Ignored)
      by_any false y e = tt
      by_any true false e = tt
      by_any true true e = behind_shown (record n {
        confirmed = put_confirmed (record { thief = b.from; grant = b.grant }) n.confirmed;
      }) is
          (confirms_shown b acked (grind (arith, e)))

      by_released : (s : SubOf) → sub_in b.grant n.subs ≡ Some s → (x : Bool)
          → (nat_eq b.hop (s.hop + 1) && nat_eq b.from heir) ≡ x
          → AnswerShown m job.number v n (cond x
          (Does (sends (leaves job r heir (record n { subs = without_sub b.grant n.subs }))
          (record n { subs = without_sub b.grant n.subs })))
          (cond (nat_eq b.hop 0 && list_any (confirms b) (awaited r n))
          (Does (sends (leaves job r heir (record n {
            confirmed = put_confirmed (record { thief = b.from; grant = b.grant }) n.confirmed;
          }))
          (record n { confirmed = put_confirmed (record { thief = b.from; grant = b.grant }) n.confirmed }))) Ignored))
      by_released s there false e = by_any (nat_eq b.hop 0) (list_any (confirms b) (awaited r n)) refl
      by_released s there true e =
          let hop : b.hop ≡ s.hop + 1 = (let f =
          (and_parts (nat_eq b.hop (s.hop + 1)) (nat_eq b.from heir) e).0 in grind (arith, f)) in
          let from : b.from ≡ heir = (let f =
          (and_parts (nat_eq b.hop (s.hop + 1)) (nat_eq b.from heir) e).1 in grind (arith, f)) in
          behind_shown (record n { subs = without_sub b.grant n.subs }) is (releases_shown b acked s there hop from)

      by_sub : (o : Option SubOf) → sub_in b.grant n.subs ≡ o
          → AnswerShown m job.number v n (cond (is_released heir b o)
          (Does (sends (leaves job r heir (record n { subs = without_sub b.grant n.subs }))
          (record n { subs = without_sub b.grant n.subs })))
          (cond (nat_eq b.hop 0 && list_any (confirms b) (awaited r n))
          (Does (sends (leaves job r heir (record n {
            confirmed = put_confirmed (record { thief = b.from; grant = b.grant }) n.confirmed;
          }))
          (record n { confirmed = put_confirmed (record { thief = b.from; grant = b.grant }) n.confirmed }))) Ignored))
      by_sub None e = by_any (nat_eq b.hop 0) (list_any (confirms b) (awaited r n)) refl
      by_sub (Some s) e = by_released s e (nat_eq b.hop (s.hop + 1) && nat_eq b.from heir) refl

  -- a Steal comes: the thief is refused, or gets the last answer again
  pub leaver_stolen : (b : Steal) → steal_of b.from b.seq n.incarnation ∈ v.steals
      → AnswerShown m job.number v n (stolen job r b None n)
  leaver_stolen b asked =
      let h = leaver_shown v n r heir is shown in
      let up : Works (v.mode n.incarnation) = rw h.mode tt in
      stolen_by m job v n up h.parts shown r h.roster None
      (λ x may. refuses_shown m job v n up h.parts shown x.from x.seq may) b asked

-- a roster comes to it
module _ (m : Meaning) (job : JobOf) (old new : Roster) (heir : ℕ) (v : View) (n : NodeOf) (run : Run m v)
    (is : n.state ≡ Leaving old heir) (shown : NodeShown v n) (told : RosterShown v.rosters new) where
  adopts_shown : told.roster ∈ v.rosters → new.epoch ≡ old.epoch → old.version < new.version
      → StepShown m job.number v n (quiet (record n { state = Leaving new heir }))
  adopts_shown sent epoch newer =
      let h = leaver_shown v n old heir is shown in
      let p = h.parts in
      let view : View = adopt v n.incarnation told.roster in
      let may : MayAdopt v n.incarnation h.roster.roster told.roster =
      record {
        sent = sent;
        keeps = h.roster.is;
        epoch = h.roster.shows.epoch ∙ sym epoch ∙ sym told.shows.epoch;
        newer = rw (h.roster.shows.version, told.shows.version) newer;
      } in
      let act : acts.Act v view = acts.adopts n.incarnation h.roster.roster told.roster may in
      let keeps : KeepsSent v view = keeps_one act in
      let parts : PartsShown view (record n { state = Leaving new heir }) =
      record {
        minted = p.minted;
        asked = p.asked;
        pending = p.pending;
        seen = p.seen;
        subs = p.subs;
        order = p.order;
        replies = p.replies;
        said = λ t r e. packet_kept keeps r.packet (p.said t r e);
        reply_order = p.reply_order;
        confirmed = p.confirmed;
        roster =
            record {
              roster = told.roster;
              is = put_here v.roster n.incarnation (Some told.roster);
              shows = told.shows;
            };
      } in
      record {
        view = view;
        way = moved unmoved act tt (of_act act n.incarnation refl);
        name = refl;
        node = record { mode = h.mode; parts = λ x. parts };
        sent = none_shown view;
        transfers = λ u o. inl o;
        fills = refl;
      }

  pub leaving_roster_shown : AnswerShown m job.number v n (leaving_roster job old heir new n)
  unfolding by_order by_status
  leaving_roster_shown = by_epoch (nat_cmp new.epoch old.epoch) refl
    where
      ends : StepShown m job.number v n (quiet (ended n))
      ends = let h = leaver_shown v n old heir is shown in ends_shown m job v n run shown (rw h.mode tt)
          (λ house. let two : tables.Leaving heir ≡ tables.House = sym h.mode ∙ house in cc)

      none_listed : new.members ≡ [] → status_in n.incarnation new.members ≡ None
      none_listed e = rw e refl

      by_heir : told.roster ∈ v.rosters → new.epoch ≡ old.epoch → old.version < new.version → (b : Bool)
          → AnswerShown m job.number v n (cond b (Does (quiet (ended n)))
          (Does (quiet (record n { state = Leaving new heir }))))
      by_heir sent epoch newer true = ends
      by_heir sent epoch newer false = adopts_shown sent epoch newer

      by_live : new.epoch ≡ old.epoch → old.version < new.version → (o : Option Status)
          → status_in n.incarnation new.members ≡ o
          → AnswerShown m job.number v n (by_status o
          (cond (not (is_empty n.subs) && not (is_live heir new.members)) (Does (quiet (ended n)))
          (Does (quiet (record n { state = Leaving new heir })))) (Does (quiet (ended n))) Ignored)
      by_live epoch newer None e = tt
      by_live epoch newer (Some member.Live) e =
          ⊎_elim (λ sent. by_heir sent epoch newer (not (is_empty n.subs) && not (is_live heir new.members)))
          (λ none. let no = none_listed none in cc) told.had
      by_live epoch newer (Some member.Dead) e = ends
      by_live epoch newer (Some (member.Left x)) e = ends

      by_version : new.epoch ≡ old.epoch → (b : Bool) → nat_lt old.version new.version ≡ b
          → AnswerShown m job.number v n (cond b
          (by_status (status_in n.incarnation new.members)
          (cond (not (is_empty n.subs) && not (is_live heir new.members)) (Does (quiet (ended n)))
          (Does (quiet (record n { state = Leaving new heir })))) (Does (quiet (ended n))) Ignored) Ignored)
      by_version epoch false e = tt
      by_version epoch true e = by_live epoch (grind (arith, e)) (status_in n.incarnation new.members) refl

      by_epoch : (o : Ordering) → nat_cmp new.epoch old.epoch ≡ o
          → AnswerShown m job.number v n (by_order o Ignored
          (cond (nat_lt old.version new.version)
          (by_status (status_in n.incarnation new.members)
          (cond (not (is_empty n.subs) && not (is_live heir new.members)) (Does (quiet (ended n)))
          (Does (quiet (record n { state = Leaving new heir })))) (Does (quiet (ended n))) Ignored) Ignored)
          (Does (quiet (ended n))))
      by_epoch Less e = tt
      by_epoch Equal e = by_version (grind (arith, e)) (nat_lt old.version new.version) refl
      by_epoch Greater e = ends
