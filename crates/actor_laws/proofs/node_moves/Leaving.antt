-- A node that leaves and is done says Leave: thieves that needn't be waited for turn out to be lost
-- first.
use Rattle.std.proofs.Common.{◌≡◌, ℕ, Bool, true, false, cond, not, ◌&&◌, List, [], ◌∷◌, ◌++◌, map, ◌⊎◌, inl, inr, ⊎_elim, Option, None, Some, refl, sym, subst, ap, ◌∙◌}
use Rattle.std.specs.List.{filter}
use Rattle.std.proofs.lemmas.Bool.{not-false}
use Rattle.ids.specs.Names.{Grant, house_of}
use Rattle.ids.specs.Members.{is_live, says_live, status_in}
use Rattle.ids.specs.declared.member.Status.{Status}
use Rattle.ids.specs.declared.member.Status.TheVariants as member
use Rattle.codec.specs.declared.body.Roster.{Roster}
use Rattle.serial_meaning.specs.Job.{JobOf}
use Rattle.sub_rules.proofs.Sums.{found_name}
use Rattle.steal_protocol.specs.Replies.{name_of_reply, reply_in}
use Rattle.steal_protocol.specs.declared.replies.Reply.{Reply}
use Rattle.node_state.specs.Node.{NodeOf, is_confirmed}
use Rattle.node_state.specs.declared.parts.Confirmed.{Confirmed}
use Rattle.node_state.specs.declared.parts.State.TheVariants.{Leaving}
use Rattle.node_steps.specs.Moves.{awaited, given_by, is_awaited, is_empty, lacks, leave, leaves}
use Rattle.node_steps.specs.Steps.{sends}
use Rattle.table_laws.specs.Tables.{◌∈◌}
use Rattle.table_laws.specs.View.{Transfer, Sub, House, Works, View}
use Rattle.table_laws.specs.View as tables
use Rattle.table_laws.specs.Facts.{Lost, Said}
use Rattle.table_laws.specs.Guards.{Free, taken, thief_lost, thief_left, self_lost, MayLeave}
use Rattle.table_laws.specs.Meaning.{Meaning}
use Rattle.table_laws.specs.Moves as moves
use Rattle.table_laws.specs.Acts as acts
use Rattle.table_laws.specs.Runs.{Run}
use Rattle.table_laws.proofs.Among.{found_among}
use Rattle.table_laws.proofs.HomesKept.{homes_reached}
use Rattle.table_laws.proofs.KnownKept.{known_reached, unheard}
use Rattle.table_laws.proofs.NamesReached.{names_reached}
use Rattle.table_laws.proofs.RequestsReached.{requests_reached}
use Rattle.table_laws.proofs.RostersReached.{rosters_reached}
use Rattle.table_laws.proofs.ValuesKept.{run_reached}
use Rattle.move_laws.specs.Beside.{KeepsSent, MovedBy, unmoved, moved}
use Rattle.move_laws.specs.Listed.{status_of}
use Rattle.move_laws.proofs.Sent.{keeps_all, of_act, of_mark_lost}
use Rattle.actor_laws.specs.node_moves.Shows.{mode_of, IsReply, ShowsGiven, ShowsReply, ShowsSub, KeepsRoster, PartsShown, NodeShown}
use Rattle.actor_laws.specs.node_moves.Steps.{StepShown}
use Rattle.actor_laws.proofs.node_moves.Told.{packet_kept, none_shown, one_shown}
use Rattle.actor_laws.proofs.node_moves.Offering.{same_ack}

pub record LeaverShown (v : View) (n : NodeOf) (r : Roster) (heir : ℕ) : Type 0 where
  pub mode : v.mode n.incarnation ≡ tables.Leaving heir
  pub parts : PartsShown v n
  pub roster : KeepsRoster (v.roster n.incarnation) r

pub leaver_shown : (v : View) (n : NodeOf) (r : Roster) (heir : ℕ) → n.state ≡ Leaving r heir → NodeShown v n
    → LeaverShown v n r heir
leaver_shown v n r heir is s =
    let p = s.parts (rw is tt) in
    let kept = p.roster in
    record { mode = s.mode ∙ ap mode_of is; parts = p; roster = rw is at kept }

-- some have turned out to be lost
abbrev pub with_lost : View → List ℕ → View
with_lost v whos = record v { lost = whos ++ v.lost }

live_or : (s : tables.Status) → (s ≡ tables.Live) ⊎ (s ≡ tables.Live → ⊥)
live_or tables.Unlisted = inr (λ e. cc)
live_or tables.Live = inl refl
live_or tables.Dead = inr (λ e. cc)
live_or (tables.Left heir) = inr (λ e. cc)

-- a thief needn't be waited for
abbrev IsGone : View → ℕ → ℕ → Type 0
IsGone v i thief = ((thief ∈ v.lost) ⊎ (i ∈ v.lost)) ⊎ Said v.leaves thief

module _ (m : Meaning) (v : View) (run : Run m v) (i : ℕ) (up : Works (v.mode i)) (worker : v.mode i ≡ House → ⊥)
    (roster : tables.Roster) (keeps : v.roster i ≡ Some roster) where
  pub record AllMarkedLost (thieves : List ℕ) : Type 0 where
    pub whos : List ℕ
    pub way : MovedBy m i v (with_lost v whos)
    pub gone : (thief : ℕ) (y : tables.Reply) → thief ∈ thieves → v.kept i thief ≡ Some y
        → (roster.status thief ≡ tables.Live → ⊥) → IsGone (with_lost v whos) i thief

  -- one more is lost
  one_more : (thief who : ℕ) (thieves : List ℕ) (a : AllMarkedLost thieves) → who ∈ v.used → (v.mode who ≡ House → ⊥)
      → ((house : tables.Roster) → v.house ≡ Some house → Lost v house who)
      → IsGone (with_lost v (who ∷ a.whos)) i thief → AllMarkedLost (thief ∷ thieves)
  one_more thief who thieves a used not why gone =
      let act : acts.Act (with_lost v a.whos) (with_lost v (who ∷ a.whos)) = acts.marks_lost who used not why in
      record {
        whos = who ∷ a.whos;
        way = moved a.way act tt (of_mark_lost (with_lost v a.whos) who i);
        gone = λ t y m e other. ⊎_elim
            (λ (same : t ≡ thief). subst (λ (k : ℕ). IsGone (with_lost v (who ∷ a.whos)) i k) (sym same) gone)
            (λ old. more (a.gone t y old e other))
            m;
      }
    where
      more : {t : ℕ} → IsGone (with_lost v a.whos) i t → IsGone (with_lost v (who ∷ a.whos)) i t
      more (inl (inl x)) = inl (inl (inr x))
      more (inl (inr x)) = inl (inr (inr x))
      more (inr x) = inr x

  -- no more is
  no_more : (thief : ℕ) (thieves : List ℕ) (a : AllMarkedLost thieves)
      → ((y : tables.Reply) → v.kept i thief ≡ Some y → (roster.status thief ≡ tables.Live → ⊥)
      → IsGone (with_lost v a.whos) i thief) → AllMarkedLost (thief ∷ thieves)
  no_more thief thieves a gone = record {
    whos = a.whos;
    way = a.way;
    gone = λ t y m e other. ⊎_elim
        (λ (same : t ≡ thief). let kept : v.kept i thief ≡ Some y =
        rw same at e in let not : roster.status thief ≡ tables.Live
        → ⊥ = rw same at other in rw same (gone y kept not))
        (λ old. a.gone t y old e other)
        m;
  }

  pub mark_lost_all : (thieves : List ℕ) → AllMarkedLost thieves
  mark_lost_all [] = record { whos = []; way = unmoved; gone = λ t y m e other. absurd m }
  mark_lost_all (thief ∷ thieves) = by_kept (mark_lost_all thieves) (v.kept i thief) refl
    where
      listed : (y : tables.Reply) → v.kept i thief ≡ Some y → (thief ∈ v.used) × (v.mode thief ≡ House → ⊥)
      listed y e =
          let reached = run_reached run in
          let sent = (rosters_reached reached).kept_had i roster keeps in
          let k = (rosters_reached reached).members roster thief sent
          ((known_reached reached).thief_listed i thief y roster up worker e keeps) in
          (k.0, λ house. (let name = (homes_reached reached).house_name thief house in let other = k.1 in cc))

      by_house : AllMarkedLost thieves → (y : tables.Reply) → v.kept i thief ≡ Some y
          → (roster.status thief ≡ tables.Live → ⊥) → (o : Option tables.Roster) → v.house ≡ o
          → AllMarkedLost (thief ∷ thieves)
      by_house a y e other None none = let k =
          listed y e in one_more thief thief thieves a k.0 k.1 (λ house here. cc) (inl (inl (inl refl)))
      by_house a y e other (Some house) here = ⊎_elim
          (λ lost. ⊎_elim
          (λ (l : Lost v house thief). let k =
          listed y e in one_more thief thief thieves a k.0 k.1 (λ h f. let same : house ≡ h =
          cc in rw same at l) (inl (inl (inl refl))))
          (λ (l : Lost v house i). one_more thief i thieves a ((names_reached (run_reached run)).up_used i up) worker
          (λ h f. let same : house ≡ h = cc in rw same at l) (inl (inr (inl refl))))
          lost)
          (λ said. no_more thief thieves a (λ z f g. inr said))
          (unheard v house roster i thief y (run_reached run) here up worker keeps e other)

      by_kept : AllMarkedLost thieves → (o : Option tables.Reply) → v.kept i thief ≡ o → AllMarkedLost (thief ∷ thieves)
      by_kept a None e = no_more thief thieves a (λ y f g. let two : None ≡ Some y = sym e ∙ f in cc)
      by_kept a (Some y) e = ⊎_elim
          (λ live. no_more thief thieves a (λ z f g. absurd (g live)))
          (λ other. by_house a y e other v.house refl)
          (live_or (roster.status thief))

-- nothing is held
none_held : (o : Option Sub) → ShowsSub o None → o ≡ None
none_held None s = refl
none_held (Some t) s = absurd s

nothing : {A : Type 0} (xs : List A) → is_empty xs ≡ true → xs ≡ []
nothing [] e = refl
nothing (x ∷ xs) e = cc

-- what isn't left of a list doesn't pass its test
unfiltered : {A : Type 0} (test : A → Bool) (x : A) (xs : List A) → is_empty (filter test xs) ≡ true → x ∈ xs
    → test x ≡ false
unfiltered test x [] e m = absurd m
unfiltered test x (y ∷ ys) e m = by_test (unfiltered test x ys) (test y) refl e m
  where
    by_test : (is_empty (filter test ys) ≡ true → x ∈ ys → test x ≡ false) → (b : Bool) → test y ≡ b
        → is_empty (cond b (y ∷ filter test ys) (filter test ys)) ≡ true → (x ≡ y) ⊎ (x ∈ ys) → test x ≡ false
    by_test rest true t e m = cc
    by_test rest false t e (inl same) = ap test same ∙ t
    by_test rest false t e (inr m) = rest e m

-- an answer that tables show
pub record Answered (n : NodeOf) (thief : ℕ) (y : tables.Reply) : Type 0 where
  pub reply : Reply
  pub there : reply_in thief n.replies ≡ Some reply
  pub shown : IsReply n.incarnation thief y reply

answered_by : (n : NodeOf) (thief : ℕ) (o : Option tables.Reply) (q : Option Reply) (y : tables.Reply)
    → ShowsReply n.incarnation thief o q → o ≡ Some y → reply_in thief n.replies ≡ q → Answered n thief y
answered_by n thief None q y s e f = cc
answered_by n thief (Some z) None y s e f = absurd s
answered_by n thief (Some z) (Some x) y s e f = let same : z ≡ y =
    cc in record { reply = x; there = f; shown = rw same at s }

given_some : (i : ℕ) (o : Option Transfer) (q : Option Grant) (t : Transfer) → ShowsGiven i o q → o ≡ Some t
    → (g : Grant) × (q ≡ Some g) × (t.grant ≡ g) × (t.from ≡ i)
given_some i None q t s e = cc
given_some i (Some u) None t s e = absurd s
given_some i (Some u) (Some g) t s e = let same : u ≡ t = cc in (g, refl, rw same at s.0, rw same at s.1)

live_says : (o : Option Status) → status_of o ≡ tables.Live → says_live o ≡ true
live_says None e = cc
live_says (Some member.Live) e = refl
live_says (Some member.Dead) e = cc
live_says (Some (member.Left heir)) e = cc

-- a live thief that isn't awaited has said that it has its grant
awaited_lacks : (b : Bool) (confirmed : List Confirmed) (thief : ℕ) (o : Option Grant) (g : Grant) → b ≡ true
    → o ≡ Some g → (b && lacks confirmed thief o) ≡ false → is_confirmed thief g confirmed ≡ true
awaited_lacks false confirmed thief o g e f none = cc
awaited_lacks true confirmed thief None g e f none = cc
awaited_lacks true confirmed thief (Some h) g e f none = let same : h ≡ g =
    cc in rw (← same) (not-false (is_confirmed thief h confirmed) none)

lacks_as : (r : Roster) (confirmed : List Confirmed) (thief other : ℕ) (o : Option Grant) (g : Grant) → thief ≡ other
    → is_live thief r.members ≡ true → o ≡ Some g → (is_live other r.members && lacks confirmed other o) ≡ false
    → is_confirmed thief g confirmed ≡ true
lacks_as r confirmed thief other o g same live f none =
    let there : is_live other r.members ≡ true = ap (λ (k : ℕ). is_live k r.members) (sym same) ∙ live in
    ap (λ (k : ℕ). is_confirmed k g confirmed) same
    ∙ awaited_lacks (is_live other r.members) confirmed other o g there f none

module _ (m : Meaning) (job : JobOf) (v : View) (n : NodeOf) (r : Roster) (heir : ℕ) (run : Run m v)
    (is : n.state ≡ Leaving r heir) (shown : NodeShown v n) where
  -- it is done
  done_shown : is_empty n.subs ≡ true → is_empty (awaited r n) ≡ true
      → StepShown m job.number v n (sends (leave job n.incarnation r heir ∷ []) n)
  done_shown empty nobody =
      let i = n.incarnation in
      let h = leaver_shown v n r heir is shown in
      let p = h.parts in
      let roster = h.roster.roster in
      let up : Works (v.mode i) = rw h.mode tt in
      let worker : v.mode i ≡ House → ⊥ =
      λ house. (let two : tables.Leaving heir ≡ tables.House = sym h.mode ∙ house in cc) in
      let lost : AllMarkedLost m v run i up worker roster h.roster.is (map (λ (x : Reply). x.thief) n.replies) =
      mark_lost_all m v run i up worker roster h.roster.is (map (λ (x : Reply). x.thief) n.replies) in
      let mid : View = with_lost v lost.whos in
      let held : n.subs ≡ [] = nothing n.subs empty in
      let may : MayLeave mid i heir = record {
        leaving = h.mode;
        empty = λ g. none_held (v.subs i g) (let s = p.subs g in rw held at s);
        free = λ thief y t e f. free h up worker lost thief y t e f;
      } in
      let act : acts.Act mid (moves.leave mid i heir roster.epoch) = acts.leaves i heir roster h.roster.is may in
      let view : View = moves.leave mid i heir roster.epoch in
      let way : MovedBy m i v view = moved lost.way act tt (of_act act i refl) in
      let keeps : KeepsSent v view = keeps_all way in
      let parts : PartsShown view n = record {
        minted = p.minted;
        asked = p.asked;
        pending = p.pending;
        seen = p.seen;
        subs = p.subs;
        order = p.order;
        replies = p.replies;
        said = λ x y e. packet_kept keeps y.packet (p.said x y e);
        reply_order = p.reply_order;
        confirmed = p.confirmed;
        roster = p.roster;
      } in
      record {
        view = view;
        way = way;
        name = refl;
        node = record { mode = shown.mode; parts = λ x. parts };
        sent = one_shown view (leave job i r heir) (roster.epoch, ap house_of (sym h.roster.shows.epoch), inl refl);
        transfers = λ u old. inl old;
        fills = refl;
      }
    where
      named : (x : Reply) (thief : ℕ) → reply_in thief n.replies ≡ Some x → thief ≡ x.thief
      named x thief e = ap (λ (k : ℕ × ℕ). k.0) (found_name name_of_reply (thief, 0) x n.replies e)

      among : (x : Reply) (xs : List Reply) → x ∈ xs → x.thief ∈ map (λ (z : Reply). z.thief) xs
      among x [] k = absurd k
      among x (z ∷ zs) (inl same) = inl (ap (λ (z : Reply). z.thief) same)
      among x (z ∷ zs) (inr k) = inr (among x zs k)

      free : (h : LeaverShown v n r heir) (up : Works (v.mode n.incarnation))
          (worker : v.mode n.incarnation ≡ House → ⊥)
          (lost : AllMarkedLost m v run n.incarnation up worker h.roster.roster h.roster.is
          (map (λ (x : Reply). x.thief) n.replies)) (thief : ℕ) (y : tables.Reply) (t : Transfer)
          → v.kept n.incarnation thief ≡ Some y → y.given ≡ Some t → Free (with_lost v lost.whos) n.incarnation thief t
      free h up worker lost thief y t e f = by_live (is_live thief r.members) refl
        where
          x : Answered n thief y
          x = answered_by n thief (v.kept n.incarnation thief) (reply_in thief n.replies) y
              (h.parts.replies thief) e refl

          g : (g : Grant) × (given_by x.reply.packet.body ≡ Some g) × (t.grant ≡ g) × (t.from ≡ n.incarnation)
          g = given_some n.incarnation y.given (given_by x.reply.packet.body) t x.shown.given f

          in_replies : x.reply ∈ n.replies
          in_replies = found_among _ x.reply n.replies x.there

          not_awaited : is_awaited r n.confirmed x.reply ≡ false
          not_awaited = unfiltered (is_awaited r n.confirmed) x.reply n.replies nobody in_replies

          by_gone : IsGone (with_lost v lost.whos) n.incarnation thief
              → Free (with_lost v lost.whos) n.incarnation thief t
          by_gone (inl (inl k)) = thief_lost k
          by_gone (inl (inr k)) = self_lost k
          by_gone (inr k) = thief_left k

          by_live : (b : Bool) → is_live thief r.members ≡ b → Free (with_lost v lost.whos) n.incarnation thief t
          by_live false not_live = by_gone (lost.gone thief y
              (rw (named x.reply thief x.there) (among x.reply n.replies in_replies)) e (λ live. (
              let said : is_live thief r.members ≡ true =
              live_says (status_in thief r.members) (sym (h.roster.shows.members.status thief) ∙ live) in
              let two : true ≡ false = sym said ∙ not_live in
              cc)))
          by_live true live =
              let own = named x.reply thief x.there in
              let said : is_confirmed thief g.0 n.confirmed ≡ true =
              lacks_as r n.confirmed thief x.reply.thief
              (given_by x.reply.packet.body) g.0 own live g.1 not_awaited in
              let k = (requests_reached (run_reached run)).kept_grant n.incarnation thief y t up e f in
              let same = same_ack t g.0 0 thief n.incarnation g.2 k.2 k.0 g.3 in
              taken (rw same at (h.parts.confirmed thief g.0 said))

  pub leaves_shown : StepShown m job.number v n (sends (leaves job r heir n) n)
  leaves_shown = by_subs (is_empty n.subs) refl
    where
      quietly : StepShown m job.number v n (sends [] n)
      quietly = record {
        view = v;
        way = unmoved;
        name = refl;
        node = shown;
        sent = none_shown v;
        transfers = λ u old. inl old;
        fills = refl;
      }

      by_awaited : is_empty n.subs ≡ true → (b : Bool) → is_empty (awaited r n) ≡ b
          → StepShown m job.number v n (sends (cond b (leave job n.incarnation r heir ∷ []) []) n)
      by_awaited empty true e = done_shown empty e
      by_awaited empty false e = quietly

      by_subs : (b : Bool) → is_empty n.subs ≡ b
          → StepShown m job.number v n (sends
          (cond (b && is_empty (awaited r n)) (leave job n.incarnation r heir ∷ []) []) n)
      by_subs false e = quietly
      by_subs true e = by_awaited e (is_empty (awaited r n)) refl
