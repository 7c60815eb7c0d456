-- A member departs: all that it holds is frozen and offered to its heir.
use Rattle.std.proofs.Common.{◌≡◌, ◌+◌, ℕ, suc, true, List, [], ◌∷◌, ◌++◌, map, ◌⊎◌, inl, inr, ⊎_elim, Option, None, Some, refl, sym, ap, ◌∙◌, arith}
use Rattle.std.specs.List.{AllByRecursion}
use Rattle.ids.specs.Names.{Grant}
use Rattle.ids.specs.Members.{is_live}
use Rattle.codec.specs.declared.body.Roster.{Roster}
use Rattle.serial_meaning.specs.Job.{JobOf}
use Rattle.departure.specs.Offers.{offer}
use Rattle.recovery.proofs.Orders.{all_there}
use Rattle.subcomputation.specs.Subs.{SubOf, name_of_sub, sub_in}
use Rattle.node_state.specs.Node.{NodeOf}
use Rattle.node_state.specs.declared.parts.State.TheVariants.{Leaving, Member}
use Rattle.node_steps.specs.Calls as calls
use Rattle.node_steps.specs.Steps.{sends}
use Rattle.table_laws.specs.Tables.{◌∈◌}
use Rattle.table_laws.specs.View.{Transfer, Sub, Works, View}
use Rattle.table_laws.specs.View as tables
use Rattle.table_laws.specs.Facts.{offer_of}
use Rattle.table_laws.specs.Guards.{IsOffer, MayFreeze}
use Rattle.table_laws.specs.Meaning.{Meaning}
use Rattle.table_laws.specs.Moves.{freeze}
use Rattle.table_laws.specs.Acts as acts
use Rattle.table_laws.specs.Runs.{Run}
use Rattle.table_laws.proofs.Lists.{early, either, later}
use Rattle.table_laws.proofs.Among.{found_among}
use Rattle.table_laws.proofs.RostersReached.{rosters_reached}
use Rattle.table_laws.proofs.ValuesKept.{run_reached}
use Rattle.table_laws.proofs.Entries.{put_here}
use Rattle.move_laws.specs.Beside.{KeepsSent, unmoved, moved}
use Rattle.move_laws.proofs.Sent.{keeps_one, of_act}
use Rattle.actor_laws.specs.node_moves.Shows.{pending_of, ShowsSub, PartsShown, NodeShown}
use Rattle.actor_laws.specs.node_moves.Steps.{AllShown, IsSent, StepShown}
use Rattle.actor_laws.proofs.node_moves.Held.{HeldAt, held_at, found_sub}
use Rattle.actor_laws.proofs.node_moves.Told.{packet_kept}
use Rattle.actor_laws.proofs.node_moves.Members.{live_status, member_shown, own_sub}

module _ (subs : Grant → Option Sub) (i heir : ℕ) where
  -- the Offer of what is shown
  abbrev offer_in : Grant → Option Sub → List Transfer
  offer_in g None = []
  offer_in g (Some t) = offer_of i heir g t ∷ []

  abbrev pub offers_in : List SubOf → List Transfer
  offers_in [] = []
  offers_in (x ∷ xs) = offer_in x.grant (subs x.grant) ++ offers_in xs

  pub each_offer : (xs : List SubOf) (t : Transfer) → t ∈ offers_in xs → IsOffer subs i heir t
  each_offer [] t m = absurd m
  each_offer (x ∷ xs) t m = by_sub (each_offer xs t) (subs x.grant) refl m
    where
      by_sub : (t ∈ offers_in xs → IsOffer subs i heir t) → (o : Option Sub) → subs x.grant ≡ o
          → t ∈ (offer_in x.grant o ++ offers_in xs) → IsOffer subs i heir t
      by_sub rest None e y = rest y
      by_sub rest (Some s) e (inl is) = record {
        sub = s;
        holds = ap subs (ap (λ (u : Transfer). u.grant) is) ∙ e;
        is = is ∙ ap (λ (g : Grant). offer_of i heir g s) (sym (ap (λ (u : Transfer). u.grant) is));
      }
      by_sub rest (Some s) e (inr y) = rest y

  in_offers : (xs : List SubOf) (x : SubOf) (s : Sub) → x ∈ xs → subs x.grant ≡ Some s
      → offer_of i heir x.grant s ∈ offers_in xs
  in_offers [] x s m e = absurd m
  in_offers (y ∷ ys) x s (inl same) e = first (subs y.grant) (ap (λ (z : SubOf). subs z.grant) (sym same) ∙ e)
    where
      first : (o : Option Sub) → o ≡ Some s → offer_of i heir x.grant s ∈ (offer_in y.grant o ++ offers_in ys)
      first None f = cc
      first (Some t) f = let one : t ≡ s = cc in inl (rw (one, same) refl)
  in_offers (y ∷ ys) x s (inr m) e = later (offer_in y.grant (subs y.grant)) (offers_in ys) (offer_of i heir x.grant s)
      (in_offers ys x s m e)

  -- packets of Offers
  module _ (job : ℕ) where
    pub packets_shown : (v : View) (all xs : List SubOf) → ((g : Grant) → ShowsSub (subs g) (sub_in g all))
        → AllByRecursion (λ x. sub_in x.grant all ≡ Some x) xs → ((t : Transfer) → t ∈ offers_in xs → t ∈ v.transfers)
        → AllShown v (map (offer job i heir) xs)
    packets_shown v all [] shows there sent p m = absurd m
    packets_shown v all (x ∷ xs) shows there sent p (inl is) =
        let held : HeldAt (subs x.grant) x = held_at (subs x.grant) (sub_in x.grant all) x (shows x.grant) there.0 in
        let t = held.sub in
        let hop : suc t.hop ≡ x.hop + 1 = (let e = held.shown.hop in omega (arith, e)) in
        rw is (record {
          transfer = offer_of i heir x.grant t;
          sent = sent (offer_of i heir x.grant t) (in_offers (x ∷ xs) x t (inl refl) held.is);
          before = t.hop;
          grant = refl;
          hop = hop;
          later = refl;
          from = refl;
          to_is = refl;
          content = held.shown.content;
          kept = held.shown.kept;
        })
    packets_shown v all (x ∷ xs) shows there sent p (inr m) =
        packets_shown v all xs shows there.1
        (λ t y. sent t (later (offer_in x.grant (subs x.grant)) (offers_in xs) t y)) p m

    packets_sent : (all xs : List SubOf) → ((g : Grant) → ShowsSub (subs g) (sub_in g all))
        → AllByRecursion (λ x. sub_in x.grant all ≡ Some x) xs → (t : Transfer) → t ∈ offers_in xs
        → IsSent job (map (offer job i heir) xs) t
    packets_sent all [] shows there t m = absurd m
    packets_sent all (x ∷ xs) shows there t m = ⊎_elim
        (λ y. first (subs x.grant) refl y)
        (λ y. let s = packets_sent all xs shows there.1 t y in record {
          packet = s.packet;
          there = inr s.there;
          job_is = s.job_is;
          to = s.to;
          carries = s.carries;
        })
        (either (offer_in x.grant (subs x.grant)) (offers_in xs) t m)
      where
        first : (o : Option Sub) → subs x.grant ≡ o → t ∈ offer_in x.grant o
            → IsSent job (map (offer job i heir) (x ∷ xs)) t
        first None e y = absurd y
        first (Some s) e (inr y) = absurd y
        first (Some s) e (inl is) =
            let held : HeldAt (subs x.grant) x =
            held_at (subs x.grant) (sub_in x.grant all) x (shows x.grant) there.0 in
            let shown = held.shown in
            let same : held.sub ≡ s = (let a = held.is in cc) in
            let hop : x.hop + 1 ≡ suc s.hop =
            (let e = shown.hop in let f : held.sub.hop ≡ s.hop =
            ap (λ (z : Sub). z.hop) same in omega (arith, e, f)) in
            record {
              packet = offer job i heir x;
              there = inl refl;
              job_is = refl;
              to = ap (λ (u : Transfer). u.to) (sym is);
              carries = (ap (λ (u : Transfer). u.grant) (sym is), hop ∙ ap (λ (u : Transfer). u.hop) (sym is));
            }

-- why it may leave
pub record MayDepart (n : NodeOf) (r : Roster) (heir : ℕ) : Type 0 where
  pub idle : n.asker.pending ≡ None
  pub other : heir ≡ n.incarnation → ⊥
  pub live : is_live heir r.members ≡ true

module _ (m : Meaning) (job : JobOf) (v : View) (n : NodeOf) (r : Roster) (run : Run m v) (is : n.state ≡ Member r)
    (shown : NodeShown v n) where
  pub freezes_shown : (heir : ℕ) → MayDepart n r heir
      → StepShown m job.number v n (sends (calls.wholes job heir n)
      (record n { state = Leaving r heir; assemblies = [] }))
  freezes_shown heir may =
      let i = n.incarnation in
      let h = member_shown v n r is shown in
      let p = h.parts in
      let roster = h.roster.roster in
      let sent = (rosters_reached (run_reached run)).kept_had i roster h.roster.is in
      let live : roster.status heir ≡ tables.Live =
      h.roster.shows.members.status heir ∙ live_status heir r.members may.live in
      let listed = (rosters_reached (run_reached run)).members roster heir sent
      (λ u. let two : tables.Live ≡ tables.Unlisted = sym live ∙ u in cc) in
      let news : List Transfer = offers_in (v.subs i) i heir n.subs in
      let guard : MayFreeze v i heir news = record {
        member = h.mode;
        idle = p.pending ∙ ap pending_of may.idle;
        heir_used = listed.0;
        heir_worker = listed.1;
        heir_other = may.other;
        each = each_offer (v.subs i) i heir n.subs;
        all = λ g s e. (
            let x = found_sub (v.subs i g) (sub_in g n.subs) s (p.subs g) e in
            let own : g ≡ x.sub.grant = own_sub g x.sub n.subs x.is in
            let mem = in_offers (v.subs i) i heir n.subs x.sub s (found_among _ x.sub n.subs x.is) (rw (← own) e) in
            rw own mem);
      } in
      let act : acts.Act v (freeze v i heir news) = acts.freezes i heir news guard in
      let view : View = freeze v i heir news in
      let keeps : KeepsSent v view = keeps_one act in
      let there = all_there name_of_sub n.subs p.order in
      let parts : PartsShown view (record n { state = Leaving r heir; assemblies = [] }) =
      record {
        minted = p.minted;
        asked = p.asked;
        pending = p.pending;
        seen = p.seen;
        subs = p.subs;
        order = p.order;
        replies = p.replies;
        said = λ t x e. packet_kept keeps x.packet (p.said t x e);
        reply_order = p.reply_order;
        confirmed = p.confirmed;
        roster = h.roster;
      } in
      record {
        view = view;
        way = moved unmoved act tt (of_act act i refl);
        name = refl;
        node = record { mode = put_here v.mode i (tables.Leaving heir); parts = λ x. parts };
        sent = packets_shown (v.subs i) i heir job.number view n.subs n.subs p.subs there
            (λ t y. early news v.transfers t y);
        transfers = λ t y. ⊎_elim (λ new. inr
            (packets_sent (v.subs i) i heir job.number n.subs n.subs p.subs there t new)) (λ old. inl old)
            (either news v.transfers t y);
        fills = refl;
      }
