-- Recovery by a newer roster is a list of moves: for each subcomputation, and then for each record,
-- one or two.
use Rattle.std.proofs.Common.{◌≡◌, ℕ, List, [], ◌∷◌, ◌++◌, inl, Option, None, Some, refl, sym, ap, ◌∙◌}
use Rattle.ids.specs.Names.{Grant}
use Rattle.ids.specs.Naming.{name_of_grant}
use Rattle.ids.specs.Members.{resolve}
use Rattle.ids.specs.declared.work.Record.{Record}
use Rattle.codec.specs.Table.{PacketOf}
use Rattle.codec.specs.declared.body.Body.TheVariants as body
use Rattle.codec.specs.declared.body.Roster.{Roster}
use Rattle.serial_meaning.specs.Job.{JobOf}
use Rattle.victim_records.specs.Records.{record_in}
use Rattle.sub_rules.specs.Changes.{redone, with_parent, with_thief}
use Rattle.subcomputation.specs.Recovering.{Recovery, for_each, for_some, settled, sub_settled, settle_sub, record_settled, settle_record, their_records, ◌then◌}
use Rattle.subcomputation.specs.Subs.{SubOf, has_record, host_in, name_of_sub, put_sub, sub_in, with_content, without_sub}
use Rattle.subcomputation.proofs.Others.{found_by}
use Rattle.node_state.specs.Node.{NodeOf}
use Rattle.node_state.specs.declared.parts.State.TheVariants.{Member}
use Rattle.node_steps.specs.Moves.{aborts, packet, recovers}
use Rattle.node_steps.specs.Steps.{StepOf}
use Rattle.table_laws.specs.Tables.{◌∈◌}
use Rattle.table_laws.specs.Content.{rehost}
use Rattle.table_laws.specs.View.{Sub, Works, View}
use Rattle.table_laws.specs.View as tables
use Rattle.table_laws.specs.Facts.{Live, Resolves}
use Rattle.table_laws.specs.Guards.{by_verdict}
use Rattle.table_laws.specs.Meaning.{Meaning}
use Rattle.table_laws.specs.Moves.{alter, mark_lost, remove}
use Rattle.table_laws.specs.Acts as acts
use Rattle.table_laws.specs.Runs.{Run}
use Rattle.table_laws.proofs.HeirsKept.{heirs_reached}
use Rattle.table_laws.proofs.Lists.{early}
use Rattle.table_laws.proofs.RostersReached.{rosters_reached}
use Rattle.table_laws.proofs.ValuesKept.{run_reached}
use Rattle.content_laws.specs.Moved.{IsMove, fill_of, told, grants_of_records as grants_in}
use Rattle.content_laws.proofs.Apart.{own_grant}
use Rattle.content_laws.proofs.Granting.{redo_moves}
use Rattle.content_laws.proofs.Keeping.{parent_kept, thief_kept, redo_kept}
use Rattle.content_laws.proofs.Orders.{put_order, without_order}
use Rattle.content_laws.proofs.Records.{listed_shown}
use Rattle.content_laws.proofs.Renaming.{parent_shown, thief_shown}
use Rattle.move_laws.specs.Beside.{KeepsSent, unmoved, moved}
use Rattle.move_laws.specs.Listed.{DeadEnd, MarkedLost}
use Rattle.move_laws.proofs.MarkingLost.{marked_lost}
use Rattle.move_laws.proofs.Resolving.{dead_end, resolved}
use Rattle.move_laws.proofs.Sent.{keeps_one, keeps_then, of_act, of_alter, of_mark_lost, runs_on}
use Rattle.actor_laws.specs.node_moves.Shows.{IsShown, PartsShown, NodeShown}
use Rattle.actor_laws.specs.node_moves.Steps.{StepShown}
use Rattle.actor_laws.proofs.node_moves.Held.{HeldAt, held_at, shows_gone, shows_put, shows_swap}
use Rattle.actor_laws.proofs.node_moves.Told.{packet_kept, none_shown}
use Rattle.actor_laws.proofs.node_moves.Beside.{steps_on, stays_shown}
use Rattle.actor_laws.proofs.node_moves.Changing.{aborts_shown}
use Rattle.actor_laws.proofs.node_moves.Members.{member_shown, own_sub}

-- a part of a recovery, as a step of the node
abbrev pub recovery_step : JobOf → NodeOf → Recovery → StepOf
recovery_step job n r = record {
  after = record n { subs = r.subs };
  sent = aborts job r.stopped;
  fills = [];
  ready = r.again;
}

aborts_on : (job : JobOf) (xs ys : List Record) → aborts job (xs ++ ys) ≡ aborts job xs ++ aborts job ys
aborts_on job [] ys = refl
aborts_on job (x ∷ xs) ys = ap (λ (ps : List PacketOf). packet job x.holder
    (body.Abort (record { grant = x.grant })) ∷ ps) (aborts_on job xs ys)

module _ (m : Meaning) (job : JobOf) (new : Roster) where
  -- a member that keeps the roster, in a run
  pub record IsMember (v : View) (n : NodeOf) : Type 0 where
    pub run : Run m v
    pub is : n.state ≡ Member new
    pub shown : NodeShown v n

  abbrev pub Recovers : View → NodeOf → Recovery → Type 0
  Recovers v n r = StepShown m job.number v n (recovery_step job n r)

  -- a member stays one
  pub goes_on : (v : View) (n : NodeOf) (r : Recovery) → IsMember v n → (a : Recovers v n r)
      → IsMember a.view (record n { subs = r.subs })
  goes_on v n r k a = record { run = runs_on k.run a.way; is = k.is; shown = a.node }

  nothing : (v : View) (n : NodeOf) → IsMember v n → Recovers v n (settled n.subs)
  nothing v n k = stays_shown m job.number v n k.shown

  -- one part, and then another
  pub parts_on : (v : View) (n : NodeOf) (r : Recovery) (f : List SubOf → Recovery) → (a : Recovers v n r)
      → Recovers a.view (record n { subs = r.subs }) (f r.subs) → Recovers v n (r then f)
  parts_on v n r f a b =
      let x = steps_on m job.number v n (recovery_step job n r) (λ k. recovery_step job k (f k.subs)) a b in
      record {
        view = x.view;
        way = x.way;
        name = x.name;
        node = x.node;
        sent = rw (aborts_on job r.stopped (f r.subs).stopped) x.sent;
        transfers = λ t y. rw (aborts_on job r.stopped (f r.subs).stopped) (x.transfers t y);
        fills = x.fills;
      }

  -- a part for each
  pub each_recovers : {A : Type 0} (f : A → List SubOf → Recovery)
      → ((x : A) (v : View) (n : NodeOf) → IsMember v n → Recovers v n (f x n.subs))
      → (xs : List A) (v : View) (n : NodeOf) → IsMember v n → Recovers v n (for_each f xs n.subs)
  each_recovers f all [] v n k = nothing v n k
  each_recovers f all (x ∷ xs) v n k =
      let a = all x v n k in
      parts_on v n (f x n.subs) (λ subs. for_each f xs subs) a
      (each_recovers f all xs a.view (record n { subs = (f x n.subs).subs }) (goes_on v n (f x n.subs) k a))

  held_sub : (v : View) (n : NodeOf) → IsMember v n → (s : SubOf) → sub_in s.grant n.subs ≡ Some s
      → HeldAt (v.subs n.incarnation s.grant) s
  held_sub v n k s there = held_at (v.subs n.incarnation s.grant) (sub_in s.grant n.subs) s
      ((member_shown v n new k.is k.shown).parts.subs s.grant) there

  -- one whose host's work nobody has is dropped
  dropped : (v : View) (n : NodeOf) → IsMember v n → (s : SubOf) → sub_in s.grant n.subs ≡ Some s
      → resolve new.members s.content.parent ≡ None → Recovers v n (sub_settled s None n.subs)
  dropped v n k s there none =
      let i = n.incarnation in
      let reached = run_reached k.run in
      let h = member_shown v n new k.is k.shown in
      let p = h.parts in
      let held = held_sub v n k s there in
      let roster = h.roster.roster in
      let sent : roster ∈ v.rosters = (rosters_reached reached).kept_had i roster h.roster.is in
      let end : DeadEnd roster s.content.parent =
      dead_end roster new.members h.roster.shows.members s.content.parent
      ((heirs_reached reached).had_end roster sent) none in
      let loss : MarkedLost v i end.dead =
      marked_lost v i end.dead roster reached (rw h.mode tt) (λ house. let two : tables.Member ≡ tables.House =
      sym h.mode ∙ house in cc) h.roster.is end.is in
      let mid : View = mark_lost v loss.who in
      let gone = grants_in s.content.records in
      let resolves : Resolves roster held.sub.content.host end.dead = rw held.shown.content.host end.way in
      let act : acts.Act mid (remove mid i s.grant gone) =
      acts.drops i s.grant held.sub gone (record { member = h.mode; holds = held.is })
      (λ x y. listed_shown held.sub.content s.content x held.shown.kept held.shown.content y)
      (by_verdict roster end.dead sent resolves loss.told) in
      let view : View = remove mid i s.grant gone in
      let keeps : KeepsSent v view = keeps_then (keeps_one loss.act) (keeps_one act) in
      let parts : PartsShown view (record n { subs = without_sub s.grant n.subs }) = record {
        minted = p.minted;
        asked = p.asked;
        pending = p.pending;
        seen = p.seen;
        subs = shows_gone v.subs i n.subs s.grant p.subs;
        order = without_order name_of_sub (name_of_grant s.grant) n.subs p.order;
        replies = p.replies;
        said = λ thief r e. packet_kept keeps r.packet (p.said thief r e);
        reply_order = p.reply_order;
        confirmed = p.confirmed;
        roster = p.roster;
      } in
      record {
        view = view;
        way = moved (moved unmoved loss.act (loss.right m) (of_mark_lost v loss.who i)) act tt (of_act act i refl);
        name = refl;
        node = record { mode = k.shown.mode; parts = λ x. parts };
        sent = aborts_shown job view s.content.records (λ g x. early gone v.settled g x);
        transfers = λ t old. inl old;
        fills = refl;
      }

  -- one whose host left waits for whoever has that one's work
  renamed : (v : View) (n : NodeOf) → IsMember v n → (s : SubOf) (host : ℕ) → sub_in s.grant n.subs ≡ Some s
      → resolve new.members s.content.parent ≡ Some host → Recovers v n (sub_settled s (Some host) n.subs)
  renamed v n k s host there found =
      let i = n.incarnation in
      let h = member_shown v n new k.is k.shown in
      let p = h.parts in
      let held = held_sub v n k s there in
      let t = held.sub in
      let roster = h.roster.roster in
      let sent : roster ∈ v.rosters = (rosters_reached (run_reached k.run)).kept_had i roster h.roster.is in
      let resolves : Resolves roster t.content.host host =
      rw held.shown.content.host (resolved roster new.members h.roster.shows.members s.content.parent host found) in
      let act : acts.Act v (alter v i s.grant t (rehost t.content host) None [] []) =
      acts.renames i s.grant t roster host (record { member = h.mode; holds = held.is }) sent resolves in
      let view : View = alter v i s.grant t (rehost t.content host) None [] [] in
      let keeps : KeepsSent v view = keeps_one act in
      let after : SubOf = with_content s (with_parent host s.content) in
      let made : IsShown (record { hop = t.hop; content = rehost t.content host }) after =
      record {
        hop = held.shown.hop;
        content = parent_shown t.content s.content host held.shown.content;
        kept = parent_kept s.content host held.shown.kept;
      } in
      let parts : PartsShown view (record n { subs = put_sub after n.subs }) = record {
        minted = p.minted;
        asked = p.asked;
        pending = p.pending;
        seen = p.seen;
        subs = shows_put v.subs i n.subs (record { hop = t.hop; content = rehost t.content host }) after p.subs made;
        order = put_order name_of_sub after n.subs p.order;
        replies = p.replies;
        said = λ thief r e. packet_kept keeps r.packet (p.said thief r e);
        reply_order = p.reply_order;
        confirmed = p.confirmed;
        roster = p.roster;
      } in
      record {
        view = view;
        way = moved unmoved act tt (of_act act i refl);
        name = refl;
        node = record { mode = k.shown.mode; parts = λ x. parts };
        sent = none_shown view;
        transfers = λ u old. inl old;
        fills = refl;
      }

  settle_sub_shown : (g : Grant) (v : View) (n : NodeOf) → IsMember v n → Recovers v n (settle_sub new.members g n.subs)
  unfolding for_some
  settle_sub_shown g v n k = by_sub (sub_in g n.subs) refl
    where
      by_host : (s : SubOf) → sub_in s.grant n.subs ≡ Some s → (o : Option ℕ) → resolve new.members s.content.parent ≡ o
          → Recovers v n (sub_settled s o n.subs)
      by_host s there None e = dropped v n k s there e
      by_host s there (Some host) e = renamed v n k s host there e

      by_sub : (o : Option SubOf) → sub_in g n.subs ≡ o
          → Recovers v n (for_some o (λ s. sub_settled s (resolve new.members s.content.parent)) n.subs)
      by_sub None e = nothing v n k
      by_sub (Some s) e = by_host s (rw (own_sub g s n.subs e) at e) (resolve new.members s.content.parent) refl

  -- a record whose holder's work nobody has is closed, and its frame done again
  again : (v : View) (n : NodeOf) → IsMember v n → (s : SubOf) (r : Record) → sub_in s.grant n.subs ≡ Some s
      → record_in r.grant s.content.records ≡ Some r → Recovers v n (record_settled s r None n.subs)
  again v n k s r there has =
      let i = n.incarnation in
      let h = member_shown v n new k.is k.shown in
      let p = h.parts in
      let held = held_sub v n k s there in
      let t = held.sub in
      let live : Live v i s.grant t = record { member = h.mode; holds = held.is } in
      let move : IsMove m v i s.grant t (redone r s.content) None (r.grant ∷ []) =
      redo_moves m v i s.grant t s.content r live held.shown.kept held.shown.content has in
      let view : View = alter v i s.grant t move.content (fill_of s.grant None) (told s.grant (redone r s.content))
      (r.grant ∷ []) in
      let keeps : KeepsSent v view = keeps_one move.move in
      let after : SubOf = with_content s (redone r s.content) in
      let made : IsShown (record { hop = t.hop; content = move.content }) after =
      record { hop = held.shown.hop; content = move.shown; kept = redo_kept s.content r held.shown.kept has } in
      let parts : PartsShown view (record n { subs = put_sub after n.subs }) = record {
        minted = p.minted;
        asked = p.asked;
        pending = p.pending;
        seen = p.seen;
        subs = shows_put v.subs i n.subs (record { hop = t.hop; content = move.content }) after p.subs made;
        order = put_order name_of_sub after n.subs p.order;
        replies = p.replies;
        said = λ thief x e. packet_kept keeps x.packet (p.said thief x e);
        reply_order = p.reply_order;
        confirmed = p.confirmed;
        roster = p.roster;
      } in
      record {
        view = view;
        way = moved unmoved move.move move.right
            (of_alter v i s.grant t move.content (fill_of s.grant None) (told s.grant (redone r s.content))
            (r.grant ∷ []));
        name = refl;
        node = record { mode = k.shown.mode; parts = λ x. parts };
        sent = aborts_shown job view (r ∷ []) (λ g x. early (r.grant ∷ []) v.settled g x);
        transfers = λ u old. inl old;
        fills = refl;
      }

  -- one whose holder left is held by whoever has that one's work, which is no fact of tables
  passed_on : (v : View) (n : NodeOf) → IsMember v n → (s : SubOf) (r : Record) (holder : ℕ)
      → sub_in s.grant n.subs ≡ Some s → Recovers v n (record_settled s r (Some holder) n.subs)
  passed_on v n k s r holder there =
      let h = member_shown v n new k.is k.shown in
      let p = h.parts in
      let held = held_sub v n k s there in
      let after : SubOf = with_content s (with_thief r.grant holder s.content) in
      let made : IsShown held.sub after =
      record {
        hop = held.shown.hop;
        content = thief_shown held.sub.content s.content r.grant holder held.shown.content;
        kept = thief_kept s.content r.grant holder held.shown.kept;
      } in
      let subs = shows_swap (v.subs n.incarnation) n.subs held.sub after p.subs held.is made in
      let order = put_order name_of_sub after n.subs p.order in
      let parts : PartsShown v (record n { subs = put_sub after n.subs }) =
      record {
        minted = p.minted;
        asked = p.asked;
        pending = p.pending;
        seen = p.seen;
        subs = subs;
        order = order;
        replies = p.replies;
        said = p.said;
        reply_order = p.reply_order;
        confirmed = p.confirmed;
        roster = p.roster;
      } in
      record {
        view = v;
        way = unmoved;
        name = refl;
        node = record { mode = k.shown.mode; parts = λ x. parts };
        sent = none_shown v;
        transfers = λ u old. inl old;
        fills = refl;
      }

  settle_record_shown : (g : Grant) (v : View) (n : NodeOf) → IsMember v n
      → Recovers v n (settle_record new.members g n.subs)
  unfolding for_some
  settle_record_shown g v n k = by_host (host_in g n.subs) refl
    where
      by_holder : (s : SubOf) (r : Record) → sub_in s.grant n.subs ≡ Some s
          → record_in r.grant s.content.records ≡ Some r → (o : Option ℕ) → Recovers v n (record_settled s r o n.subs)
      by_holder s r there has None = again v n k s r there has
      by_holder s r there has (Some holder) = passed_on v n k s r holder there

      by_record : (s : SubOf) → sub_in s.grant n.subs ≡ Some s → (o : Option Record) → record_in g s.content.records ≡ o
          → Recovers v n (for_some o (λ r. record_settled s r (resolve new.members r.holder)) n.subs)
      by_record s there None e = nothing v n k
      by_record s there (Some r) e = by_holder s r there (rw (own_grant g r s.content.records e) at e)
          (resolve new.members r.holder)

      by_host : (o : Option SubOf) → host_in g n.subs ≡ o
          → Recovers v n (for_some o (λ s. for_some (record_in g s.content.records)
          (λ r. record_settled s r (resolve new.members r.holder))) n.subs)
      by_host None e = nothing v n k
      by_host (Some s) e = by_record s (found_by name_of_sub (has_record g) s n.subs
          ((member_shown v n new k.is k.shown).parts.order) e) (record_in g s.content.records) refl

  -- recovery of subcomputations is a list of moves
  pub recovers_shown : (grants : List Grant) (v : View) (n : NodeOf) → IsMember v n
      → StepShown m job.number v n (recovers job new.members grants n)
  recovers_shown grants v n k =
      let a = each_recovers (settle_sub new.members) settle_sub_shown grants v n k in
      let left = (for_each (settle_sub new.members) grants n.subs).subs in
      parts_on v n (for_each (settle_sub new.members) grants n.subs)
      (λ subs. for_each (settle_record new.members) (their_records grants subs) subs) a
      (each_recovers (settle_record new.members) settle_record_shown (their_records grants left) a.view
      (record n { subs = left }) (goes_on v n (for_each (settle_sub new.members) grants n.subs) k a))
