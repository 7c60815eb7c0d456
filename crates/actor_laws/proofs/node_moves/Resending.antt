-- What isn't answered yet is sent again, by one that joins and by a member.
use Rattle.std.proofs.Common.{◌≡◌, ℕ, List, [], ◌∷◌, ◌++◌, ◌⊎◌, inl, inr, ⊎_elim, Option, None, Some, refl, sym, ap, ◌∙◌}
use Rattle.std.specs.List.{AllByRecursion, flat_map}
use Rattle.ids.specs.Named.{item_in, put_in}
use Rattle.ids.specs.Names.{Grant}
use Rattle.codec.specs.Table.{PacketOf}
use Rattle.codec.specs.declared.body.Roster.{Roster}
use Rattle.serial_meaning.specs.Job.{JobOf}
use Rattle.recovery.proofs.Orders.{all_there}
use Rattle.steal_protocol.specs.Replies.{name_of_reply}
use Rattle.steal_protocol.specs.declared.replies.Reply.{Reply}
use Rattle.steal_protocol.specs.declared.asker.Request.{Request}
use Rattle.subcomputation.specs.Subs.{SubOf, name_of_sub, sub_in}
use Rattle.node_state.specs.Node.{NodeOf, by_state}
use Rattle.node_state.specs.declared.parts.State.{State}
use Rattle.node_state.specs.declared.parts.State.TheVariants.{Joining, Leaving, Member, Ended}
use Rattle.node_steps.specs.Calls as calls
use Rattle.node_steps.specs.Moves.{Given, all_given, awaited, beat, given, given_by, grants_in, leaves, name_of_given, results, with_given}
use Rattle.node_steps.specs.Steps.{Does, Refused, sends}
use Rattle.node_steps.specs.declared.error.NodeError.TheVariants as error
use Rattle.table_laws.specs.Tables.{◌∈◌, put_grant}
use Rattle.table_laws.specs.View.{Sub, Works, View}
use Rattle.table_laws.specs.View as tables
use Rattle.table_laws.specs.Facts.{Live}
use Rattle.table_laws.specs.Meaning.{Meaning}
use Rattle.table_laws.specs.Moves.{alter}
use Rattle.table_laws.specs.Runs.{Run}
use Rattle.table_laws.proofs.Among.{put_among, filtered, mapped, of_each}
use Rattle.table_laws.proofs.HomesKept.{homes_reached}
use Rattle.table_laws.proofs.Lists.{early, either, grant_or}
use Rattle.table_laws.proofs.NamesReached.{names_reached}
use Rattle.table_laws.proofs.RequestsReached.{requests_reached}
use Rattle.table_laws.proofs.ValuesKept.{run_reached}
use Rattle.content_laws.specs.Moved.{IsMove, fill_of, told}
use Rattle.content_laws.proofs.Granting.{again_moves}
use Rattle.move_laws.specs.Beside.{KeepsSent, unmoved, moved}
use Rattle.move_laws.proofs.Sent.{keeps_one, of_alter, runs_on}
use Rattle.actor_laws.specs.node_moves.Shows.{mode_of, pending_of, IsShown, ShowsSub, PartsShown, NodeShown}
use Rattle.actor_laws.specs.node_moves.Steps.{AllShown, StepShown, AnswerShown}
use Rattle.actor_laws.proofs.node_moves.Held.{HeldAt, held_at, grant_here, grant_beside}
use Rattle.actor_laws.proofs.node_moves.Told.{packet_kept, one_shown, both_shown, none_shown}
use Rattle.actor_laws.proofs.node_moves.Beside.{steps_on}
use Rattle.actor_laws.proofs.node_moves.Changing.{results_shown}
use Rattle.actor_laws.proofs.node_moves.Members.{member_shown}
use Rattle.actor_laws.proofs.node_moves.Departing.{each_offer, packets_shown}
use Rattle.actor_laws.proofs.node_moves.Leaving.{leaver_shown, leaves_shown}

-- another sub that shows the same subcomputation
shows_again : (f : ℕ → Grant → Option Sub) (i : ℕ) (subs : List SubOf) (t : Sub) (s : SubOf)
    → ((k : Grant) → ShowsSub (f i k) (sub_in k subs)) → sub_in s.grant subs ≡ Some s → IsShown t s → (k : Grant)
    → ShowsSub (put_grant f i s.grant (Some t) i k) (sub_in k subs)
shows_again f i subs t s old there new k = ⊎_elim
    (λ (same : k ≡ s.grant). rw (same, grant_here f i s.grant (Some t), there) new)
    (λ (other : k ≡ s.grant → ⊥). rw (grant_beside f i s.grant k (Some t) other) (old k))
    (grant_or k s.grant)

-- packets alone
pub only_sends : (m : Meaning) (job : JobOf) (v : View) (n : NodeOf) → NodeShown v n → (packets : List PacketOf)
    → AllShown v packets → StepShown m job.number v n (sends packets n)
only_sends m job v n shown packets sent =
    record { view = v; way = unmoved; name = refl; node = shown; sent = sent; transfers = λ t u. inl u; fills = refl }

module _ (m : Meaning) (job : JobOf) (n : NodeOf) (r : Roster) (is : n.state ≡ Member r) where
  -- the Result of one subcomputation, if it has ended
  tells_again : (v : View) → NodeShown v n → (s : SubOf) → sub_in s.grant n.subs ≡ Some s
      → StepShown m job.number v n (sends (results job n.incarnation s) n)
  tells_again v shown s there =
      let i = n.incarnation in
      let h = member_shown v n r is shown in
      let p = h.parts in
      let held : HeldAt (v.subs i s.grant) s =
      held_at (v.subs i s.grant) (sub_in s.grant n.subs) s (p.subs s.grant) there in
      let t = held.sub in
      let live : Live v i s.grant t = record { member = h.mode; holds = held.is } in
      let move : IsMove m v i s.grant t s.content None [] =
      again_moves m v i s.grant t s.content live held.shown.content in
      let view : View = alter v i s.grant t move.content (fill_of s.grant None) (told s.grant s.content) [] in
      let keeps : KeepsSent v view = keeps_one move.move in
      let again : IsShown (record { hop = t.hop; content = move.content }) s =
      record { hop = held.shown.hop; content = move.shown; kept = held.shown.kept } in
      let parts : PartsShown view n = record {
        minted = p.minted;
        asked = p.asked;
        pending = p.pending;
        seen = p.seen;
        subs = shows_again v.subs i n.subs
            (record { hop = t.hop; content = move.content }) s p.subs there again;
        order = p.order;
        replies = p.replies;
        said = λ x y e. packet_kept keeps y.packet (p.said x y e);
        reply_order = p.reply_order;
        confirmed = p.confirmed;
        roster = p.roster;
      } in
      record {
        view = view;
        way = moved unmoved move.move move.right
            (of_alter v i s.grant t move.content (fill_of s.grant None) (told s.grant s.content) []);
        name = refl;
        node = record { mode = shown.mode; parts = λ x. parts };
        sent = results_shown job view i s (λ x y. early (told s.grant s.content) v.results x y);
        transfers = λ u old. inl old;
        fills = refl;
      }

  all_again : (xs : List SubOf) → AllByRecursion (λ s. sub_in s.grant n.subs ≡ Some s) xs → (v : View) → NodeShown v n
      → StepShown m job.number v n (sends (flat_map (results job n.incarnation) xs) n)
  all_again [] there v shown = only_sends m job v n shown [] (none_shown v)
  all_again (s ∷ xs) there v shown =
      let a = tells_again v shown s there.0 in
      steps_on m job.number v n (sends (results job n.incarnation s) n)
      (λ k. sends (flat_map (results job n.incarnation) xs) n) a (all_again xs there.1 a.view a.node)

  pub member_resend_shown : (v : View) → Run m v → NodeShown v n
      → StepShown m job.number v n (sends (calls.member_resend job n r) n)
  member_resend_shown v run shown =
      let h = member_shown v n r is shown in
      let a = only_sends m job v n shown (beat job n.incarnation r ∷ calls.pending_steal job n n.asker.pending)
      (both_shown v (beat job n.incarnation r ∷ []) (calls.pending_steal job n n.asker.pending)
      (one_shown v (beat job n.incarnation r) tt) (by_pending h.parts.pending (rw h.mode tt) n.asker.pending refl))
      in
      steps_on m job.number v n (sends (beat job n.incarnation r ∷ calls.pending_steal job n n.asker.pending) n)
      (λ k. sends (flat_map (results job n.incarnation) n.subs) n) a
      (all_again n.subs (all_there name_of_sub n.subs h.parts.order) a.view a.node)
    where
      by_pending : v.pending n.incarnation ≡ pending_of n.asker.pending → Works (v.mode n.incarnation)
          → (o : Option Request) → n.asker.pending ≡ o → AllShown v (calls.pending_steal job n o)
      by_pending waits up None e = none_shown v
      by_pending waits up (Some q) e = one_shown v _
          ((requests_reached (run_reached run)).asked_sent n.incarnation (record { victim = q.victim; seq = q.seq }) up
          (waits ∙ ap pending_of e))

-- one that joins
pub join_again_shown : (m : Meaning) (job : JobOf) (v : View) (n : NodeOf) → Run m v → n.state ≡ Joining → NodeShown v n
    → StepShown m job.number v n (sends (calls.join job n.incarnation ∷ []) n)
join_again_shown m job v n run is shown =
    let mode : v.mode n.incarnation ≡ tables.Joining = shown.mode ∙ ap mode_of is in
    let up : Works (v.mode n.incarnation) = rw mode tt in
    let used = (names_reached (run_reached run)).up_used n.incarnation up in
    let worker = (homes_reached (run_reached run)).worker_name n.incarnation up
    (λ house. let two : tables.Joining ≡ tables.House = sym mode ∙ house in cc) in
    only_sends m job v n shown (calls.join job n.incarnation ∷ [])
    (one_shown v (calls.join job n.incarnation) (used, worker))

-- items that are put in order were there
sorted_among : (gs sorted : List Given) (y : Given) → y ∈ with_given gs sorted → (y ∈ gs) ⊎ (y ∈ sorted)
sorted_among [] sorted y m = inr m
sorted_among (g ∷ gs) sorted y m = ⊎_elim
    (λ k. inl (inr k))
    (λ k. ⊎_elim (λ e. inl (inl e)) (λ l. inr l) (put_among name_of_given g y sorted k))
    (sorted_among gs (put_in name_of_given g sorted) y m)

-- a Grant that is kept is that of a reply
pub record GivenIn (replies : List Reply) (p : PacketOf) : Type 0 where
  pub reply : Reply
  pub there : reply ∈ replies
  pub is : p ≡ reply.packet

given_among : (replies : List Reply) (y : Given) → y ∈ all_given replies → GivenIn replies y.packet
given_among [] y m = absurd m
given_among (r ∷ rs) y m = ⊎_elim
    (λ k. first (given_by r.packet.body) k)
    (λ k. let x = given_among rs y k in record { reply = x.reply; there = inr x.there; is = x.is })
    (either (given r.packet (given_by r.packet.body)) (all_given rs) y m)
  where
    first : (o : Option Grant) → y ∈ given r.packet o → GivenIn (r ∷ rs) y.packet
    first None k = absurd k
    first (Some g) (inl e) = record { reply = r; there = inl refl; is = ap (λ (z : Given). z.packet) e }
    first (Some g) (inr k) = absurd k

-- one that leaves
module _ (m : Meaning) (job : JobOf) (v : View) (n : NodeOf) (r : Roster) (heir : ℕ) (run : Run m v)
    (is : n.state ≡ Leaving r heir) (shown : NodeShown v n) where
  grants_again : AllShown v (grants_in (awaited r n))
  grants_again p k =
      let own = (leaver_shown v n r heir is shown).parts in
      let g = mapped (λ (y : Given). y.packet) (with_given (all_given (awaited r n)) []) p k in
      let among : g.item ∈ all_given (awaited r n) =
      ⊎_elim (λ x. x) (λ x. absurd x) (sorted_among (all_given (awaited r n)) [] g.item g.there) in
      let x = given_among (awaited r n) g.item among in
      let held = filtered _ x.reply n.replies x.there in
      let found = of_each (λ (z : Reply). item_in name_of_reply (name_of_reply z) n.replies ≡ Some z) n.replies
      (all_there name_of_reply n.replies own.reply_order) x.reply held in
      rw (g.is, x.is) (own.said x.reply.thief x.reply found)

  offers_again : AllShown v (calls.wholes job heir n)
  offers_again =
      let h = leaver_shown v n r heir is shown in
      let p = h.parts in
      let i = n.incarnation in
      let names = names_reached (run_reached run) in
      packets_shown (v.subs i) i heir job.number v n.subs n.subs p.subs (all_there name_of_sub n.subs p.order) (λ t k. (
      let o = each_offer (v.subs i) i heir n.subs t k in
      let sent = names.frozen_offered i heir t.grant o.sub h.mode o.holds in
      rw (o.is) sent))

  pub leaving_resend_shown : StepShown m job.number v n (sends (calls.whole_leaving_resend job n r heir) n)
  leaving_resend_shown =
      let first = beat job n.incarnation r ∷ calls.wholes job heir n ++ grants_in (awaited r n) in
      let a = only_sends m job v n shown first
      (both_shown v (beat job n.incarnation r ∷ calls.wholes job heir n) (grants_in (awaited r n))
      (both_shown v (beat job n.incarnation r ∷ []) (calls.wholes job heir n)
      (one_shown v (beat job n.incarnation r) tt) offers_again) grants_again) in
      steps_on m job.number v n (sends first n) (λ k. sends (leaves job r heir n) n) a
      (leaves_shown m job a.view n r heir (runs_on run a.way) is a.node)

-- wherever it stands
pub resend_shown : (m : Meaning) (job : JobOf) (v : View) (n : NodeOf) → Run m v → NodeShown v n
    → AnswerShown m job.number v n (calls.whole_resend job n)
unfolding calls.whole_resend by_state
resend_shown m job v n run shown = by_where n.state refl
  where
    by_where : (x : State) → n.state ≡ x
        → AnswerShown m job.number v n (by_state x (Does (sends (calls.join job n.incarnation ∷ []) n))
        (λ r. Does (sends (calls.member_resend job n r) n))
        (λ r heir. Does (sends (calls.whole_leaving_resend job n r heir) n)) (Refused error.NotJoined))
    by_where Joining is = join_again_shown m job v n run is shown
    by_where (Member r) is = member_resend_shown m job n r is v run shown
    by_where (Leaving r heir) is = leaving_resend_shown m job v n r heir run is shown
    by_where Ended is = tt
