-- A Refuse, a ResultAck, an Abort, a Result come to a member.
use Rattle.std.proofs.Common.{◌≡◌, ℕ, Bool, true, false, cond, nat_eq, List, [], ◌∷◌, ◌++◌, ◌⊎◌, ⊎_elim, inl, inr, Option, None, Some, refl, sym, ap, ◌∙◌, arith}
use Rattle.std.specs.List.{find}
use Rattle.ids.specs.Names.{Grant, house_of}
use Rattle.ids.specs.Naming.{name_of_grant}
use Rattle.ids.specs.declared.outcome.Outcome.{Outcome}
use Rattle.ids.specs.declared.outcome.Outcome.TheVariants.{Value, TooDeep}
use Rattle.ids.specs.declared.work.Record.{Record}
use Rattle.codec.specs.Table.{PacketOf}
use Rattle.codec.specs.declared.body.Body.TheVariants as body
use Rattle.codec.specs.declared.body.Roster.{Roster}
use Rattle.codec.specs.declared.body.TaskResult.{TaskResult}
use Rattle.saved_values.specs.Places.{is_saved_place, stripped}
use Rattle.serial_meaning.specs.Job.{JobOf}
use Rattle.victim_records.specs.Records.{record_in}
use Rattle.sub_rules.specs.Changes.{closed}
use Rattle.steal_protocol.specs.Requests.{is_pending, without_request}
use Rattle.steal_protocol.specs.declared.asker.Request.{Request}
use Rattle.subcomputation.specs.Subs.{SubOf, has_record, host_in, name_of_sub, sub_in, without_sub}
use Rattle.subcomputation.proofs.Others.{found_by}
use Rattle.node_state.specs.Node.{NodeOf}
use Rattle.node_state.specs.declared.parts.State.TheVariants.{Member}
use Rattle.node_steps.specs.Cases.{aborted, acknowledged, by_option, is_finished, refused}
use Rattle.node_steps.specs.Moves.{aborts, changes, closes, closes_by, drops, packet, result_ack, save_of}
use Rattle.node_steps.specs.Steps.{Does, Ignored, StepOf, for_some, quiet, sends, ◌then◌}
use Rattle.table_laws.specs.Tables.{◌∈◌}
use Rattle.table_laws.specs.View.{Sub, View}
use Rattle.table_laws.specs.Facts.{Live, RecordOf, result_to, steal_of}
use Rattle.table_laws.specs.Guards.{Drops, MaySettle, by_settled}
use Rattle.table_laws.specs.Meaning.{Meaning}
use Rattle.table_laws.specs.Moves.{remove, settle, unpend}
use Rattle.table_laws.specs.Acts as acts
use Rattle.table_laws.specs.Runs.{Run}
use Rattle.table_laws.proofs.Lists.{early}
use Rattle.table_laws.proofs.Among.{found_among}
use Rattle.table_laws.proofs.RequestsReached.{requests_reached}
use Rattle.table_laws.proofs.ValuesKept.{run_reached}
use Rattle.table_laws.proofs.Entries.{put_here}
use Rattle.content_laws.specs.Shown.{outcome_number}
use Rattle.content_laws.specs.Moved.{IsMove, grants_of_records}
use Rattle.content_laws.proofs.Apart.{own_grant}
use Rattle.content_laws.proofs.Carrying.{result_moves}
use Rattle.content_laws.proofs.Keeping.{result_kept}
use Rattle.content_laws.proofs.Orders.{without_order}
use Rattle.content_laws.proofs.Records.{listed_shown, record_there}
use Rattle.move_laws.specs.Beside.{KeepsSent, unmoved, moved}
use Rattle.move_laws.proofs.Sent.{keeps_one, of_act}
use Rattle.actor_laws.specs.node_moves.Shows.{pending_of, PacketShown, RefusalShown, PartsShown, NodeShown}
use Rattle.actor_laws.specs.node_moves.Steps.{AllShown, StepShown, AnswerShown}
use Rattle.actor_laws.proofs.node_moves.Held.{HeldAt, held_at, found_sub, shows_gone}
use Rattle.actor_laws.proofs.node_moves.Told.{packet_kept, both_shown, none_shown, one_shown, sent_early}
use Rattle.actor_laws.proofs.node_moves.Changing.{aborts_shown, changes_behind}
use Rattle.actor_laws.proofs.node_moves.Members.{member_shown, own_sub}

-- what isn't found among a list's items is none of them
pub unfound : {X : Type 0} (test : X → Bool) (x : X) (xs : List X) → find test xs ≡ None → x ∈ xs → test x ≡ false
unfound test x [] e m = absurd m
unfound test x (y ∷ ys) e m = by_test (unfound test x ys) (test y) refl e m
  where
    by_test : (find test ys ≡ None → x ∈ ys → test x ≡ false) → (b : Bool) → test y ≡ b
        → cond b (Some y) (find test ys) ≡ None → (x ≡ y) ⊎ (x ∈ ys) → test x ≡ false
    by_test rest true t e m = cc
    by_test rest false t e (inl same) = ap test same ∙ t
    by_test rest false t e (inr m) = rest e m

-- what is found passes the test
pub passes_test : {X : Type 0} (test : X → Bool) (x : X) (xs : List X) → find test xs ≡ Some x → test x ≡ true
passes_test test x [] e = cc
passes_test test x (y ∷ ys) e = by_test (passes_test test x ys) (test y) refl e
  where
    by_test : (find test ys ≡ Some x → test x ≡ true) → (b : Bool) → test y ≡ b
        → cond b (Some y) (find test ys) ≡ Some x → test x ≡ true
    by_test rest true t e = let same : y ≡ x = cc in ap test (sym same) ∙ t
    by_test rest false t e = rest e

-- packets that show wherever they come, behind those of a step
said_last : (m : Meaning) (number : ℕ) (v : View) (n : NodeOf) (s : StepOf) (last : List PacketOf)
    → ((w : View) → AllShown w last) → StepShown m number v n s
    → StepShown m number v n (record s { sent = s.sent ++ last })
said_last m number v n s last all shown = record {
  view = shown.view;
  way = shown.way;
  name = shown.name;
  node = shown.node;
  sent = both_shown shown.view s.sent last shown.sent (all shown.view);
  transfers = λ t x. ⊎_elim (λ old. inl old) (λ new. inr (sent_early s.sent last t new)) (shown.transfers t x);
  fills = shown.fills;
}

-- a value that is saved says nothing of the tables
save_shown : (w : View) (job : JobOf) (i : ℕ) (r : Roster) (place : List ℕ) (o : Outcome)
    → AllShown w (save_of job i r place o)
save_shown w job i r place TooDeep p x = absurd x
save_shown w job i r place (Value value) p x = by_test (is_saved_place (stripped place)) p x
  where
    save : PacketOf
    save = packet job (house_of r.epoch) (body.Save (record { from = i; place = stripped place; value = value }))

    by_test : (b : Bool) (p : PacketOf) → p ∈ cond b (save ∷ []) [] → PacketShown w p
    by_test true p (inl e) = rw e tt
    by_test true p (inr x) = absurd x
    by_test false p x = absurd x

module _ (m : Meaning) (job : JobOf) (v : View) (n : NodeOf) (r : Roster) (run : Run m v) (is : n.state ≡ Member r)
    (shown : NodeShown v n) where
  -- a Refuse
  heard : (seq : ℕ) → RefusalShown v.refusals n.incarnation seq → (q : Request) → n.asker.pending ≡ Some q → q.seq ≡ seq
      → StepShown m job.number v n (quiet (record n { asker = without_request n.asker }))
  heard seq s q is_q same =
      let i = n.incarnation in
      let h = member_shown v n r is shown in
      let p = h.parts in
      let k = requests_reached (run_reached run) in
      let x = s.steal in
      let waits : v.pending i ≡ Some (record { victim = q.victim; seq = q.seq }) = p.pending ∙ ap pending_of is_q in
      let asked = k.asked_sent i (record { victim = q.victim; seq = q.seq }) (rw h.mode tt) waits in
      let victim : x.victim ≡ q.victim = k.one_victim x (steal_of i q.seq q.victim)
      (k.refuse_asked x s.sent) asked s.thief (s.seq_is ∙ sym same) in
      let pending : v.pending i ≡ Some (record { victim = x.victim; seq = x.seq }) =
      rw (victim, s.seq_is, ← same) waits in
      let act : acts.Act v (unpend v i) = acts.hears_refuse i x s.sent s.thief pending in
      let view : View = unpend v i in
      let keeps : KeepsSent v view = keeps_one act in
      let parts : PartsShown view (record n { asker = without_request n.asker }) =
      record {
        minted = p.minted;
        asked = p.asked;
        pending = put_here v.pending i None;
        seen = p.seen;
        subs = p.subs;
        order = p.order;
        replies = p.replies;
        said = λ t y e. packet_kept keeps y.packet (p.said t y e);
        reply_order = p.reply_order;
        confirmed = p.confirmed;
        roster = p.roster;
      } in
      record {
        view = view;
        way = moved unmoved act tt (of_act act i refl);
        name = refl;
        node = record { mode = shown.mode; parts = λ z. parts };
        sent = none_shown view;
        transfers = λ u old. inl old;
        fills = refl;
      }

  pub refused_shown : (seq : ℕ) → RefusalShown v.refusals n.incarnation seq
      → AnswerShown m job.number v n (refused job seq n)
  refused_shown seq s = by_pending n.asker.pending refl
    where
      by_seq : (q : Request) → n.asker.pending ≡ Some q → (b : Bool) → nat_eq q.seq seq ≡ b
          → AnswerShown m job.number v n (cond b (Does (quiet (record n { asker = without_request n.asker }))) Ignored)
      by_seq q e false f = tt
      by_seq q e true f = heard seq s q e (grind (arith, f))

      by_pending : (o : Option Request) → n.asker.pending ≡ o
          → AnswerShown m job.number v n (cond (is_pending seq o)
          (Does (quiet (record n { asker = without_request n.asker }))) Ignored)
      by_pending None e = tt
      by_pending (Some q) e = by_seq q e (nat_eq q.seq seq) refl

  -- a subcomputation goes, with Aborts for these grants
  goes_shown : (s : SubOf) (gone : List Grant) (packets : List PacketOf)
      (held : HeldAt (v.subs n.incarnation s.grant) s) → ((g : Grant) → g ∈ gone → RecordOf held.sub.content g)
      → Drops v n.incarnation s.grant held.sub
      → ((w : View) → ((g : Grant) → g ∈ gone → g ∈ w.settled) → AllShown w packets)
      → StepShown m job.number v n (sends packets (record n { subs = without_sub s.grant n.subs }))
  goes_shown s gone packets held records why told =
      let i = n.incarnation in
      let h = member_shown v n r is shown in
      let p = h.parts in
      let act : acts.Act v (remove v i s.grant gone) =
      acts.drops i s.grant held.sub gone (record { member = h.mode; holds = held.is }) records why in
      let view : View = remove v i s.grant gone in
      let keeps : KeepsSent v view = keeps_one act in
      let parts : PartsShown view (record n { subs = without_sub s.grant n.subs }) =
      record {
        minted = p.minted;
        asked = p.asked;
        pending = p.pending;
        seen = p.seen;
        subs = shows_gone v.subs i n.subs s.grant p.subs;
        order = without_order name_of_sub (name_of_grant s.grant) n.subs p.order;
        replies = p.replies;
        said = λ t y e. packet_kept keeps y.packet (p.said t y e);
        reply_order = p.reply_order;
        confirmed = p.confirmed;
        roster = p.roster;
      } in
      record {
        view = view;
        way = moved unmoved act tt (of_act act i refl);
        name = refl;
        node = record { mode = shown.mode; parts = λ z. parts };
        sent = told view (λ g x. early gone v.settled g x);
        transfers = λ u old. inl old;
        fills = refl;
      }

  held_sub : (s : SubOf) → sub_in s.grant n.subs ≡ Some s → HeldAt (v.subs n.incarnation s.grant) s
  held_sub s there = held_at (v.subs n.incarnation s.grant) (sub_in s.grant n.subs) s
      ((member_shown v n r is shown).parts.subs s.grant) there

  -- a ResultAck
  pub acknowledged_shown : (g : Grant) → g ∈ v.settled → AnswerShown m job.number v n (acknowledged job g n)
  unfolding by_option
  acknowledged_shown g sent = by_sub (sub_in g n.subs) refl
    where
      by_end : (s : SubOf) → sub_in g n.subs ≡ Some s → (b : Bool)
          → AnswerShown m job.number v n (cond b (Does (quiet (record n { subs = without_sub g n.subs }))) Ignored)
      by_end s e false = tt
      by_end s e true =
          let own : g ≡ s.grant = own_sub g s n.subs e in
          rw own (goes_shown s [] [] (held_sub s (rw own at e)) (λ k x. absurd x) (by_settled (rw own at sent))
          (λ w f p x. absurd x))

      by_sub : (o : Option SubOf) → sub_in g n.subs ≡ o
          → AnswerShown m job.number v n (by_option o Ignored
          (λ s. cond (is_finished s.content.progress)
          (Does (quiet (record n { subs = without_sub g n.subs }))) Ignored))
      by_sub None e = tt
      by_sub (Some s) e = by_end s e (is_finished s.content.progress)

  -- an Abort
  pub aborted_shown : (g : Grant) → g ∈ v.settled → AnswerShown m job.number v n (aborted job g n)
  unfolding by_option
  aborted_shown g sent = by_sub (sub_in g n.subs) refl
    where
      by_sub : (o : Option SubOf) → sub_in g n.subs ≡ o
          → AnswerShown m job.number v n (by_option o Ignored (λ s. Does (drops job s n)))
      by_sub None e = tt
      by_sub (Some s) e =
          let own : g ≡ s.grant = own_sub g s n.subs e in
          let held = held_sub s (rw own at e) in
          goes_shown s (grants_of_records s.content.records) (aborts job s.content.records) held
          (λ k x. listed_shown held.sub.content s.content k held.shown.kept held.shown.content x)
          (by_settled (rw own at sent)) (λ w f. aborts_shown job w s.content.records f)

  -- a Result of which there is no record
  settles_shown : (b : TaskResult) → result_to b.grant n.incarnation (outcome_number b.outcome) ∈ v.results
      → host_in b.grant n.subs ≡ None → StepShown m job.number v n (sends (result_ack job b.from b.grant ∷ []) n)
  settles_shown b came none =
      let i = n.incarnation in
      let h = member_shown v n r is shown in
      let p = h.parts in
      let without : (g : Grant) (t : Sub) → v.subs i g ≡ Some t → RecordOf t.content b.grant → ⊥ = λ g t e has. (
      let x = found_sub (v.subs i g) (sub_in g n.subs) t (p.subs g) e in
      let there = record_there t.content x.sub.content b.grant x.shown.kept x.shown.content has in
      let not_so = unfound (has_record b.grant) x.sub n.subs none (found_among _ x.sub n.subs x.is) in
      let so : has_record b.grant x.sub ≡ true = rw (there.1) refl in
      let two : true ≡ false = sym so ∙ not_so in
      cc) in
      let may : MaySettle v i b.grant = record {
        member = h.mode;
        outcome = outcome_number b.outcome;
        result = came;
        without = without;
      } in
      let act : acts.Act v (settle v b.grant) = acts.settles i b.grant may in
      let view : View = settle v b.grant in
      let keeps : KeepsSent v view = keeps_one act in
      let parts : PartsShown view n = record {
        minted = p.minted;
        asked = p.asked;
        pending = p.pending;
        seen = p.seen;
        subs = p.subs;
        order = p.order;
        replies = p.replies;
        said = λ t y e. packet_kept keeps y.packet (p.said t y e);
        reply_order = p.reply_order;
        confirmed = p.confirmed;
        roster = p.roster;
      } in
      record {
        view = view;
        way = moved unmoved act tt (of_act act i refl);
        name = refl;
        node = record { mode = shown.mode; parts = λ z. parts };
        sent = one_shown view (result_ack job b.from b.grant) (inl refl);
        transfers = λ u old. inl old;
        fills = refl;
      }

  -- one of which there is
  closes_shown : (b : TaskResult) → result_to b.grant n.incarnation (outcome_number b.outcome) ∈ v.results → (s : SubOf)
      → sub_in s.grant n.subs ≡ Some s → (x : Record) → record_in x.grant s.content.records ≡ Some x → b.grant ≡ x.grant
      → StepShown m job.number v n (sends (result_ack job b.from b.grant ∷ []) n then changes job s
      (closed x b.outcome s.content))
  closes_shown b came s there x has own =
      let h = member_shown v n r is shown in
      let held = held_sub s there in
      let live : Live v n.incarnation s.grant held.sub = record { member = h.mode; holds = held.is } in
      let move : IsMove m v n.incarnation s.grant held.sub (closed x b.outcome s.content).after
      (closed x b.outcome s.content).fill (x.grant ∷ grants_of_records (closed x b.outcome s.content).dropped) =
      result_moves m v n.incarnation s.grant held.sub s.content x live held.shown.kept held.shown.content
      has b.outcome (rw own at came) in
      changes_behind m job v n run shown h.parts (result_ack job b.from b.grant ∷ []) s (closed x b.outcome s.content)
      (x.grant ∷ grants_of_records (closed x b.outcome s.content).dropped) held move
      (result_kept s.content x held.shown.kept has b.outcome) (λ g y. inr y)
      (λ w k f. one_shown w (result_ack job b.from b.grant) (rw own (f x.grant (inl refl))))

  -- and what is saved of it is sent behind
  saves_shown : (b : TaskResult) → result_to b.grant n.incarnation (outcome_number b.outcome) ∈ v.results → (s : SubOf)
      → sub_in s.grant n.subs ≡ Some s → (x : Record) → record_in x.grant s.content.records ≡ Some x → b.grant ≡ x.grant
      → StepShown m job.number v n (sends (result_ack job b.from b.grant ∷ []) n then closes_by job r b.outcome s x)
  saves_shown b came s there x has own =
      said_last m job.number v n (sends (result_ack job b.from b.grant ∷ []) n then changes job s
      (closed x b.outcome s.content)) (save_of job n.incarnation r x.task.place b.outcome)
      (λ w. save_shown w job n.incarnation r x.task.place b.outcome) (closes_shown b came s there x has own)

  pub returned_shown : (b : TaskResult) → result_to b.grant n.incarnation (outcome_number b.outcome) ∈ v.results
      → StepShown m job.number v n (sends (result_ack job b.from b.grant ∷ []) n then closes job r b.grant b.outcome)
  unfolding for_some
  returned_shown b came = by_host (host_in b.grant n.subs) refl
    where
      by_record : (s : SubOf) → host_in b.grant n.subs ≡ Some s → (o : Option Record)
          → record_in b.grant s.content.records ≡ o
          → StepShown m job.number v n (sends (result_ack job b.from b.grant ∷ []) n then for_some o
          (closes_by job r b.outcome s))
      by_record s e None f =
          let so = passes_test (has_record b.grant) s n.subs e in
          let not_so : has_record b.grant s ≡ false = rw f refl in
          let two : true ≡ false = sym so ∙ not_so in
          cc
      by_record s e (Some x) f =
          let own = own_grant b.grant x s.content.records f in
          saves_shown b came s (found_by name_of_sub (has_record b.grant) s n.subs
          ((member_shown v n r is shown).parts.order) e) x (rw own at f) own

      by_host : (o : Option SubOf) → host_in b.grant n.subs ≡ o
          → StepShown m job.number v n (sends (result_ack job b.from b.grant ∷ []) n then for_some o
          (λ s. for_some (record_in b.grant s.content.records) (closes_by job r b.outcome s)))
      by_host None e = settles_shown b came e
      by_host (Some s) e = by_record s e (record_in b.grant s.content.records) refl
