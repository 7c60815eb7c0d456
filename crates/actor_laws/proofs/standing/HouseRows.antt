-- By the clearinghouse's members the holder of the root's grant is live: each packet, each moment,
-- and an opening.
use Rattle.std.proofs.Common.{◌≡◌, ◌+◌, ◌^◌, ℕ, Bool, true, false, cond, not, nat_eq, nat_lt, ◌||◌, ◌&&◌, suc, List, [], ◌∷◌, map, ◌⊎◌, inl, inr, Option, None, Some, is_some, length, refl, sym, ap, subst, ◌∙◌, Ordering, Less, Equal, Greater}
use Rattle.std.specs.List.{list_any}
use Rattle.std.proofs.lemmas.Bool.{eq-eqb}
use Rattle.std.specs.Ordering.{nat_cmp}
use Rattle.ids.specs.Keyed.{has_key}
use Rattle.ids.specs.Members.{bearer, follow, is_live, resolve, says_live, status_in}
use Rattle.ids.specs.Named.{Name, changed_of, item_in, name_cmp, put_in}
use Rattle.ids.specs.Naming.{name_of_member}
use Rattle.ids.specs.Options.{◌>>=◌}
use Rattle.ids.specs.declared.member.Member.{Member as Listed}
use Rattle.ids.specs.declared.member.Status.{Status}
use Rattle.ids.specs.declared.member.Status.TheVariants as member
use Rattle.ids.specs.declared.work.Task.{Task}
use Rattle.ids.proofs.KeyedLaws.{found_in}
use Rattle.ids.proofs.NameOrder.{exact_names}
use Rattle.ids.proofs.Replacing.{put_is_found}
use Rattle.codec.specs.Table.{PacketOf, is_house}
use Rattle.codec.specs.declared.body.Beat.{Beat}
use Rattle.codec.specs.declared.body.Body.{Body}
use Rattle.codec.specs.declared.body.Body.TheVariants as body
use Rattle.codec.specs.declared.body.Leave.{Leave}
use Rattle.codec.specs.declared.body.Save.{Save}
use Rattle.codec.specs.declared.body.Steal.{Steal}
use Rattle.codec.specs.declared.body.TaskResult.{TaskResult}
use Rattle.saved_values.specs.Saved.{put_saved}
use Rattle.saved_values.specs.declared.value.SavedValue.{SavedValue}
use Rattle.serial_meaning.specs.Job.{JobOf}
use Rattle.agreement_laws.proofs.Finding.{put_stays, same_or_other}
use Rattle.steal_protocol.specs.Replies.{by_order, by_reply, reply_in}
use Rattle.steal_protocol.specs.declared.replies.Reply.{Reply}
use Rattle.clearinghouse.specs.Calls.{can_begin, declares_dead, next_epoch, open_over, passes}
use Rattle.clearinghouse.specs.Cases.{answered_beat, beats, by_status, free_task, joined, left, may_save, on_body, on_packet, returned, saved, served, stolen}
use Rattle.clearinghouse.specs.House.{HouseOf, Kept, is_root, member_of, members_of, name_of, name_of_enlisted, opened}
use Rattle.clearinghouse.specs.Moves as moves
use Rattle.clearinghouse.specs.Steps.{HouseAnswer, Does, Ignored, sends}
use Rattle.clearinghouse.specs.declared.parts.Enlisted.{Enlisted}
use Rattle.clearinghouse.specs.declared.parts.RootGrant.{RootGrant}
use Rattle.table_laws.proofs.Lists.{some_same}
use Rattle.actor_laws.specs.standing.Root.{HouseAnswerStands, RootStands}

-- what is said of a worker that is kept
abbrev status_kept : Option Enlisted → Option Status
status_kept None = None
status_kept (Some w) = Some w.status

abbrev told : Option Listed → Option Status
told o = o >>= λ m. Some m.status

kept_found : (i : ℕ) (ws : List Enlisted)
    → status_in i (map member_of ws) ≡ status_kept (item_in name_of_enlisted (i, 0) ws)
kept_found i [] = refl
kept_found i (w ∷ ws) = by_test (kept_found i ws) (has_key name_of_enlisted name_cmp (i, 0) w)
  where
    by_test : status_in i (map member_of ws) ≡ status_kept (item_in name_of_enlisted (i, 0) ws) → (b : Bool)
        → told (cond b (Some (member_of w)) (item_in name_of_member (i, 0) (map member_of ws))) ≡ status_kept
        (cond b (Some w) (item_in name_of_enlisted (i, 0) ws))
    by_test rest true = refl
    by_test rest false = rest

abbrev hear : ℕ → Enlisted → Enlisted
hear moment w = record w { heard = moment }

put_here : (j : ℕ) (x : Enlisted) (ws : List Enlisted) → (j, 0) ≡ name_of_enlisted x
    → status_in j (map member_of (put_in name_of_enlisted x ws)) ≡ Some x.status
put_here j x ws same =
    kept_found j (put_in name_of_enlisted x ws)
    ∙ ap (λ n. status_kept (item_in name_of_enlisted n (put_in name_of_enlisted x ws))) same
    ∙ ap status_kept (put_is_found name_of_enlisted x ws)

-- where one is put, that is said of it, and of all others what was
put_says : (j : ℕ) (x : Enlisted) (ws : List Enlisted)
    → (status_in j (map member_of (put_in name_of_enlisted x ws)) ≡ Some x.status) ⊎
    (status_in j (map member_of (put_in name_of_enlisted x ws)) ≡ status_in j (map member_of ws))
put_says j x ws = elim (same_or_other (j, 0) (name_of_enlisted x)) [
  | inl same ↦ inl (put_here j x ws same)
  | inr other ↦
      inr (kept_found j (put_in name_of_enlisted x ws)
      ∙ ap status_kept (put_stays name_of_enlisted (j, 0) x ws other)
      ∙ sym (kept_found j ws))
]

-- who is heard is said to be what it was
heard_says : (j i moment : ℕ) (ws : List Enlisted)
    → status_in j (map member_of (moves.changed (hear moment) i ws)) ≡ status_in j (map member_of ws)
heard_says j i moment ws = by_item (item_in name_of_enlisted (i, 0) ws) refl
  where
    by_item : (o : Option Enlisted) → item_in name_of_enlisted (i, 0) ws ≡ o
        → status_in j (map member_of (changed_of name_of_enlisted (hear moment) ws o)) ≡ status_in j (map member_of ws)
    by_item None e = refl
    by_item (Some w) e =
        let named : (i, 0) ≡ name_of_enlisted w =
        exact_names (i, 0) (name_of_enlisted w) (found_in name_of_enlisted name_cmp (i, 0) w ws e) in
        elim (same_or_other (j, 0) (name_of_enlisted w)) [
          | inl same ↦
              let at : item_in name_of_enlisted (j, 0) ws ≡ Some w =
              ap (λ n. item_in name_of_enlisted n ws) (same ∙ sym named) ∙ e in
              put_here j (hear moment w) ws same ∙ sym (kept_found j ws ∙ ap status_kept at)
          | inr other ↦
              kept_found j (put_in name_of_enlisted (hear moment w) ws)
              ∙ ap status_kept (put_stays name_of_enlisted (j, 0) (hear moment w) ws other)
              ∙ sym (kept_found j ws)
        ]

-- the root's grant where members changed
same_root : (h k : HouseOf) → k.root ≡ h.root → k.workers ≡ h.workers → RootStands h → RootStands k
same_root h k root workers stands r out =
    let there : is_live r.holder (members_of h) ≡ true = stands r (sym root ∙ out) in rw workers there

none_out : (h : HouseOf) → h.root ≡ None → RootStands h
none_out h none r out = cc

hears_stands : (h : HouseOf) (i : ℕ) → RootStands h → RootStands (moves.hears i h)
hears_stands h i stands r out = ap says_live (heard_says r.holder i h.moment h.workers) ∙ stands r out

lists_stands : (h : HouseOf) (i : ℕ) → RootStands h → RootStands (moves.lists i h)
lists_stands h i stands r out =
    elim (put_says r.holder (record { incarnation = i; status = member.Live; heard = h.moment }) h.workers) [
      | inl live ↦ ap says_live live
      | inr same ↦ ap says_live same ∙ stands r out
    ]

-- what is said of a worker leads to a live one, or to none
data LeadsLive (members : List Listed) (i : ℕ) : Type 0 where
  lives : is_live i members ≡ true → LeadsLive members i
  died : status_in i members ≡ Some member.Dead → LeadsLive members i
  left_to : (heir : ℕ) → status_in i members ≡ Some (member.Left heir) → is_live heir members ≡ true
      → LeadsLive members i

says_so : (o : Option Status) → says_live o ≡ true → o ≡ Some member.Live
says_so None e = cc
says_so (Some member.Live) e = refl
says_so (Some member.Dead) e = cc
says_so (Some (member.Left heir)) e = cc

bears : (most : ℕ) (members : List Listed) (i : ℕ) → is_live i members ≡ true → follow (suc most) members i ≡ Some i
unfolding follow
bears most members i live = ap (bearer (follow most members) i) (says_so (status_in i members) live)

-- so who has its work is live
resolved_live : (members : List Listed) (i j : ℕ) → LeadsLive members i → resolve members i ≡ Some j
    → is_live j members ≡ true
unfolding follow
resolved_live members i j (lives live) e =
    let same : i ≡ j = some_same (sym (bears (length members) members i live) ∙ e) in
    subst (λ (k : ℕ). is_live k members ≡ true) same live
resolved_live members i j (died dead) e =
    let none : None ≡ Some j = sym (ap (bearer (follow (length members) members) i) dead) ∙ e in
    cc
resolved_live [] i j (left_to heir at live) e = cc
resolved_live (m ∷ ms) i j (left_to heir at live) e =
    let there : follow (suc (length ms)) (m ∷ ms) heir ≡ Some j =
    sym (ap (bearer (follow (length (m ∷ ms)) (m ∷ ms)) i) at) ∙ e in
    let same : heir ≡ j = some_same (sym (bears (length ms) (m ∷ ms) heir live) ∙ there) in
    subst (λ (k : ℕ). is_live k (m ∷ ms) ≡ true) same live

abbrev RootLeads : HouseOf → Type 0
RootLeads h = (r : RootGrant) → h.root ≡ Some r → LeadsLive (members_of h) r.holder

settled_stands : (job : JobOf) (h : HouseOf) → RootLeads h → RootStands (moves.settles job h).after
settled_stands job h leads = by_root h.root refl
  where
    by_holder : (r : RootGrant) → LeadsLive (members_of h) r.holder → (o : Option ℕ)
        → resolve (members_of h) r.holder ≡ o
        → RootStands (moves.settles_to job r o h).after
    by_holder r way None e x out = cc
    by_holder r way (Some holder) e x out =
        let same : record r { holder = holder } ≡ x = some_same out in
        let there : is_live holder (members_of h) ≡ true = resolved_live (members_of h) r.holder holder way e in
        rw (← same) there

    by_root : (o : Option RootGrant) → h.root ≡ o → RootStands (moves.settles_root job o h).after
    by_root None e = none_out h e
    by_root (Some r) e = by_holder r (leads r e) (resolve (members_of h) r.holder) refl

-- something else is said of one worker
abbrev restate : Status → Enlisted → Enlisted
restate s w = record w { status = s }

says_says : (j i : ℕ) (s : Status) (ws : List Enlisted)
    → ((j ≡ i) × (status_in j (map member_of (moves.changed (restate s) i ws)) ≡ Some s)) ⊎
    (status_in j (map member_of (moves.changed (restate s) i ws)) ≡ status_in j (map member_of ws))
says_says j i s ws = by_item (item_in name_of_enlisted (i, 0) ws) refl
  where
    by_item : (o : Option Enlisted) → item_in name_of_enlisted (i, 0) ws ≡ o
        → ((j ≡ i) × (status_in j (map member_of (changed_of name_of_enlisted (restate s) ws o)) ≡ Some s)) ⊎
        (status_in j (map member_of (changed_of name_of_enlisted (restate s) ws o)) ≡ status_in j (map member_of ws))
    by_item None e = inr refl
    by_item (Some w) e =
        let named : (i, 0) ≡ name_of_enlisted w =
        exact_names (i, 0) (name_of_enlisted w) (found_in name_of_enlisted name_cmp (i, 0) w ws e) in
        elim (same_or_other (j, 0) (name_of_enlisted w)) [
          | inl same ↦ inl (ap (λ (n : Name). n.0) (same ∙ sym named), put_here j (restate s w) ws same)
          | inr other ↦
              inr (kept_found j (put_in name_of_enlisted (restate s w) ws)
              ∙ ap status_kept (put_stays name_of_enlisted (j, 0) (restate s w) ws other)
              ∙ sym (kept_found j ws))
        ]

-- one that leaves is said to be dead, or to have left to a live one
leaving_leads : (h : HouseOf) (from heir : ℕ) → RootStands h
    → RootLeads (moves.says from (moves.leaving_status from heir (members_of h)) h)
leaving_leads h from heir stands r out = by_bearer (resolve (members_of h) heir)
  where
    by_status : (s : Status) → (status_in r.holder (map member_of (moves.changed (restate s) from h.workers)) ≡ Some s
        → LeadsLive (map member_of (moves.changed (restate s) from h.workers)) r.holder)
        → LeadsLive (map member_of (moves.changed (restate s) from h.workers)) r.holder
    by_status s new = elim (says_says r.holder from s h.workers) [
      | inl both ↦ new both.1
      | inr same ↦ lives (ap says_live same ∙ stands r out)
    ]

    heir_lives : (k : ℕ) → (k ≡ from → ⊥) → is_live k (members_of h) ≡ true
        → is_live k (map member_of (moves.changed (restate (member.Left k)) from h.workers)) ≡ true
    heir_lives k other live = elim (says_says k from (member.Left k) h.workers) [
      | inl both ↦ absurd (other both.0)
      | inr same ↦ ap says_live same ∙ live
    ]

    by_heir : (k : ℕ) (a b : Bool) → nat_eq k from ≡ a → is_live k (members_of h) ≡ b
        → LeadsLive (map member_of (moves.changed
        (restate (cond (not a && b) (member.Left k) member.Dead)) from h.workers)) r.holder
    by_heir k true b same live = by_status member.Dead died
    by_heir k false false same live = by_status member.Dead died
    by_heir k false true same live =
        by_status (member.Left k) (λ at. left_to k at
        (heir_lives k (λ e. (let two : true ≡ false = sym (eq-eqb k from e) ∙ same in cc)) live))

    by_bearer : (o : Option ℕ) → LeadsLive
        (map member_of (moves.changed (restate (moves.left_to from (members_of h) o)) from h.workers)) r.holder
    by_bearer None = by_status member.Dead died
    by_bearer (Some k) = by_heir k (nat_eq k from) (is_live k (members_of h)) refl refl

-- who was silent for too long is dead, and of others is said what was
dead_says : (j limit now : ℕ) (ws : List Enlisted)
    → (status_in j (map member_of (map (moves.declared_dead limit now) ws)) ≡ Some member.Dead) ⊎
    (status_in j (map member_of (map (moves.declared_dead limit now) ws)) ≡ status_in j (map member_of ws))
dead_says j limit now [] = inr refl
dead_says j limit now (w ∷ ws) = by_test (has_key name_of_enlisted name_cmp (j, 0) w) (dead_says j limit now ws)
  where
    by_lost : (b : Bool) → (Some (cond b member.Dead w.status) ≡ Some member.Dead)
        ⊎ (Some (cond b member.Dead w.status) ≡ Some w.status)
    by_lost true = inl refl
    by_lost false = inr refl

    by_test : (b : Bool)
        → (status_in j (map member_of (map (moves.declared_dead limit now) ws)) ≡ Some member.Dead)
        ⊎ (status_in j (map member_of (map (moves.declared_dead limit now) ws)) ≡ status_in j (map member_of ws))
        → (told (cond b (Some (member_of (moves.declared_dead limit now w)))
        (item_in name_of_member (j, 0) (map member_of (map (moves.declared_dead limit now) ws))))
        ≡ Some member.Dead) ⊎
        (told (cond b (Some (member_of (moves.declared_dead limit now w)))
        (item_in name_of_member (j, 0) (map member_of (map (moves.declared_dead limit now) ws))))
        ≡ told (cond b (Some (member_of w)) (item_in name_of_member (j, 0) (map member_of ws))))
    by_test true later = by_lost (moves.is_lost limit now w)
    by_test false later = later

-- answers
by_test : (b : Bool) (x y : HouseAnswer) → (b ≡ true → HouseAnswerStands x) → HouseAnswerStands y
    → HouseAnswerStands (cond b x y)
by_test true x y a c = a refl
by_test false x y a c = c

by_listed : (s : Option Status) (live gone unlisted : HouseAnswer) → HouseAnswerStands live → HouseAnswerStands gone
    → HouseAnswerStands unlisted → HouseAnswerStands (by_status s live gone unlisted)
unfolding by_status
by_listed None live gone unlisted a b c = c
by_listed (Some member.Live) live gone unlisted a b c = a
by_listed (Some member.Dead) live gone unlisted a b c = b
by_listed (Some (member.Left heir)) live gone unlisted a b c = b

in_order : (o : Ordering) (below same above : HouseAnswer) → HouseAnswerStands below → HouseAnswerStands same
    → HouseAnswerStands above → HouseAnswerStands (by_order o below same above)
unfolding by_order
in_order Less below same above a b c = a
in_order Equal below same above a b c = b
in_order Greater below same above a b c = c

module _ (job : JobOf) (h : HouseOf) (stands : RootStands h) where
  -- Join
  joins_stands : (i : ℕ) → HouseAnswerStands (joined job i h)
  joins_stands i =
      by_listed (status_in i (members_of h)) _ _ _ (hears_stands h i stands) stands
      (by_test (nat_lt (length h.workers) 4096) _ _ (λ room. lists_stands h i stands) tt)

  -- Steal: a thief that is granted the root is live
  serves_stands : (b : Steal) → is_live b.from (members_of h) ≡ true → (o : Option Task)
      → HouseAnswerStands (served job b o h)
  serves_stands b live None = same_root h (moves.refuses job b h).after refl refl stands
  serves_stands b live (Some task) = by_test (nat_lt (h.minted + 1) (2 ^ 64)) _ _ (λ room. granted) tt
    where
      granted : RootStands (moves.grants job b task h).after
      granted r out =
          let same : record { grant = record { minter = name_of h; number = h.minted + 1 }; holder = b.from } ≡ r =
          some_same out in
          rw (← same) live

  steals_stands : (b : Steal) → HouseAnswerStands (stolen job b h)
  steals_stands b = by_test (is_live b.from (members_of h)) _ _ (λ live. by_kept live (reply_in b.from h.replies)) tt
    where
      new : is_live b.from (members_of h) ≡ true → HouseAnswerStands (served job b (free_task job h) h)
      new live = serves_stands b live (free_task job h)

      by_kept : is_live b.from (members_of h) ≡ true → (o : Option Reply)
          → HouseAnswerStands
          (by_reply o b.seq Ignored (λ reply. Does (sends (reply ∷ []) h)) (served job b (free_task job h) h))
      by_kept live None = new live
      by_kept live (Some reply) = in_order (nat_cmp b.seq reply.seq) _ _ _ tt stands (new live)

  -- Result: with the outcome the root isn't out any more
  returns_stands : (b : TaskResult) → HouseAnswerStands (returned job b h)
  returns_stands b =
      by_test (not (is_root b.grant h.root)) _ _ (λ other. stands)
      (by_test (nat_lt (h.sequence + 1) (2 ^ 64)) _ _
      (λ room. none_out (record h { outcome = Some b.outcome; root = None; sequence = h.sequence + 1 }) refl) tt)

  -- Leave
  leaves_stands : (b : Leave) → HouseAnswerStands (left job b h)
  leaves_stands b =
      by_listed (status_in b.from (members_of h)) _ _ _
      (settled_stands job (moves.says b.from (moves.leaving_status b.from b.heir (members_of h)) h)
      (leaving_leads h b.from b.heir stands))
      stands tt

  -- Save
  saves_stands : (b : Save) → HouseAnswerStands (saved b h)
  saves_stands b =
      let x : SavedValue = record { place = b.place; value = b.value } in
      by_test (not (is_live b.from (members_of h)) || (is_some h.outcome || not (may_save x h))) _ _ (λ not_now. tt)
      (by_test (nat_lt (h.sequence + 1) (2 ^ 64)) _ _
      (λ room. same_root h (moves.saves (put_saved x h.saved) h).after refl refl stands) tt)

-- Beat
module _ (job : JobOf) where
  answers_stand : (h : HouseOf) → RootStands h → (b : Beat) → HouseAnswerStands (answered_beat job b h)
  answers_stand h stands b = by_test (nat_lt b.version h.version) _ _ (λ older. stands) stands

  beats_stand : (h : HouseOf) → RootStands h → (to : ℕ) (b : Beat) → HouseAnswerStands (beats job to b h)
  beats_stand h stands to b =
      by_test (nat_eq to (name_of h)) _ _
      (λ own.
      by_listed (status_in b.from (members_of h)) _ _ _
      (answers_stand (moves.hears b.from h) (hears_stands h b.from stands) b) (answers_stand h stands b) tt)
      (by_test (is_house to) _ _ (λ other. stands) tt)

  -- the whole table
  body_stands : (h : HouseOf) → RootStands h → (to : ℕ) (b : Body) → HouseAnswerStands (on_body job to b h)
  unfolding on_body
  body_stands h stands to (body.Join b) = by_test (nat_eq to (2 ^ 63)) _ _ (λ e. joins_stands job h stands b.from) tt
  body_stands h stands to (body.Steal b) = by_test (nat_eq to (name_of h)) _ _ (λ e. steals_stands job h stands b) tt
  body_stands h stands to (body.Result b) = by_test (nat_eq to (name_of h)) _ _ (λ e. returns_stands job h stands b) tt
  body_stands h stands to (body.Leave b) = by_test (nat_eq to (name_of h)) _ _ (λ e. leaves_stands job h stands b) tt
  body_stands h stands to (body.Beat b) = beats_stand h stands to b
  body_stands h stands to (body.Save b) = by_test (nat_eq to (name_of h)) _ _ (λ e. saves_stands job h stands b) tt
  body_stands h stands to (body.Roster b) = tt
  body_stands h stands to (body.Grant b) = tt
  body_stands h stands to (body.Refuse b) = tt
  body_stands h stands to (body.ResultAck b) = tt
  body_stands h stands to (body.Offer b) = tt
  body_stands h stands to (body.OfferAck b) = tt
  body_stands h stands to (body.Abort b) = tt
  body_stands h stands to (body.Piece b) = tt

  pub root_stands : (h : HouseOf) → RootStands h → (p : PacketOf) → HouseAnswerStands (on_packet job p h)
  unfolding on_packet
  root_stands h stands p = by_test (nat_eq p.job job.number) _ _ (λ own. body_stands h stands p.to p.body) tt

  pub moment_stands : (h : HouseOf) → RootStands h → (now : ℕ) → RootStands (passes job now h).after
  unfolding passes
  moment_stands h stands now = by_later (nat_lt h.moment now)
    where
      by_lost : (b : Bool)
          → RootStands
          (cond b (moves.settles job (moves.with_workers (map (moves.declared_dead h.limit now) h.workers)
          (record h { moment = now }))) (sends [] (record h { moment = now }))).after
      by_lost true =
          settled_stands job
          (moves.with_workers (map (moves.declared_dead h.limit now) h.workers) (record h { moment = now }))
          (λ r out. elim (dead_says r.holder h.limit now h.workers) [
            | inl dead ↦ died dead
            | inr same ↦ lives (ap says_live same ∙ stands r out)
          ])
      by_lost false = same_root h (record h { moment = now }) refl refl stands

      by_later : (b : Bool) → RootStands (cond b (declares_dead job now h) (sends [] h)).after
      by_later true = by_lost (list_any (moves.is_lost h.limit now) h.workers)
      by_later false = stands

pub opening_stands : (limit : ℕ) (k : Kept) → HouseAnswerStands (open_over limit k)
opening_stands limit k = by_test (can_begin k) _ _ (λ can. none_out (opened limit (next_epoch k)) refl) tt
