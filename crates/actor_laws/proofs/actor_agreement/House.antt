-- The clearinghouse: it gives away nothing but the first task of the job, which agrees with it.
use Rattle.std.proofs.Common.{◌≡◌, ◌+◌, ◌^◌, ℕ, Bool, true, false, cond, not, nat_eq, nat_lt, ◌||◌, List, [], ◌∷◌, length, map, Option, None, Some, is_some, codes, IsTrue, refl, arith, Ordering, Less, Equal, Greater}
use Rattle.std.specs.List.{list_any}
use Rattle.std.specs.Ordering.{nat_cmp}
use Rattle.std.proofs.lemmas.Bool.{and_parts}
use Rattle.ids.specs.Members.{is_live, resolve, status_in}
use Rattle.ids.specs.Names.{Grant}
use Rattle.ids.specs.Options.{◌>>=◌}
use Rattle.ids.specs.declared.member.Status.{Status}
use Rattle.ids.specs.declared.member.Status.TheVariants as member
use Rattle.ids.specs.declared.work.Task.{Task}
use Rattle.codec.specs.Table.{PacketOf, is_house}
use Rattle.codec.specs.declared.body.Beat.{Beat}
use Rattle.codec.specs.declared.body.Body.{Body}
use Rattle.codec.specs.declared.body.Body.TheVariants as body
use Rattle.codec.specs.declared.body.Leave.{Leave}
use Rattle.codec.specs.declared.body.Save.{Save}
use Rattle.codec.specs.declared.body.Steal.{Steal}
use Rattle.codec.specs.declared.body.TaskResult.{TaskResult}
use Rattle.kind_check.specs.Turns.{thread_of}
use Rattle.serial_meaning.specs.Job.{JobOf, IsJob}
use Rattle.serial_meaning.specs.Places.{Call, root}
use Rattle.agreement_laws.specs.Agreement.{IsSavedOf, TaskAgrees}
use Rattle.agreement_laws.proofs.Saving.{put_saved_agrees}
use Rattle.saved_values.specs.Places.{is_saved_place}
use Rattle.saved_values.specs.Saved.{is_taken, put_saved}
use Rattle.saved_values.specs.declared.value.SavedValue.{SavedValue}
use Rattle.steal_protocol.specs.Replies.{by_order, by_reply, reply_in}
use Rattle.steal_protocol.specs.declared.replies.Reply.{Reply}
use Rattle.clearinghouse.specs.Calls.{declares_dead, passes}
use Rattle.clearinghouse.specs.Cases as cases
use Rattle.clearinghouse.specs.House.{HouseOf, is_root, members_of, name_of}
use Rattle.clearinghouse.specs.Moves as moves
use Rattle.clearinghouse.specs.Steps as house
use Rattle.clearinghouse.specs.declared.error.HouseError.TheVariants as error
use Rattle.clearinghouse.specs.declared.parts.RootGrant.{RootGrant}
use Rattle.table_laws.proofs.Among.{found_among}
use Rattle.actor_laws.specs.actor_agreement.Values.{AllRight, BodyIsRight, HouseAnswerIsRight, HouseIsRight, HouseStepIsRight, SaveIsRight}
use Rattle.actor_laws.proofs.actor_agreement.Below.{put_below, root_fit}
use Rattle.actor_laws.proofs.actor_agreement.Sent.{both_sent, none_sent, one_sent, replies_put}

-- the first task of a job agrees with it
first_agrees : (job : JobOf) (call : Call) → IsJob job → root job.program job.input ≡ Some call
    → TaskAgrees job (record { place = []; thread = call.thread; numbers = call.numbers })
first_agrees job call accepted is =
    let same : record { thread = accepted.takes.thread; numbers = job.input } ≡ call = by_thread (thread_of job.program.threads (codes "main")) accepted.takes.thread accepted.takes.found is in
    record { takes = rw (← same) accepted.takes.takes; at = is; short = omega arith }
  where
    by_thread : (o : Option ℕ) (t : ℕ) → o ≡ Some t
        → (o >>= (λ x. Some (record { thread = x; numbers = job.input }))) ≡ Some call
        → record { thread = t; numbers = job.input } ≡ call
    by_thread None t there at = cc
    by_thread (Some x) t there at = cc

-- so does the task that may be granted, which stands at the root
record IsFirst (job : JobOf) (task : Task) : Type 0 where
  agrees : TaskAgrees job task
  place : task.place ≡ []

free_agrees : (job : JobOf) → IsJob job → (h : HouseOf) (task : Task) → cases.free_task job h ≡ Some task
    → IsFirst job task
free_agrees job accepted h task is = by_free (is_some h.root || is_some h.outcome) is
  where
    by_call : (o : Option Call) → root job.program job.input ≡ o
        → (o >>= (λ c. Some (record { place = []; thread = c.thread; numbers = c.numbers }))) ≡ Some task
        → IsFirst job task
    by_call None e there = cc
    by_call (Some call) e there =
        let same : record { place = []; thread = call.thread; numbers = call.numbers } ≡ task = cc in
        let first : IsFirst job (record { place = []; thread = call.thread; numbers = call.numbers }) =
        record { agrees = first_agrees job call accepted e; place = refl } in
        rw (← same) first

    by_free : (b : Bool) → cond b None (moves.root_task job) ≡ Some task → IsFirst job task
    by_free true there = cc
    by_free false there = by_call (root job.program job.input) refl there

module _ (job : JobOf) where
  -- answers by a test, and by what the roster says
  by_test : (b : Bool) (x y : house.HouseAnswer) → HouseAnswerIsRight job x → HouseAnswerIsRight job y
      → HouseAnswerIsRight job (cond b x y)
  by_test true x y a c = a
  by_test false x y a c = c

  by_listed : (s : Option Status) (live gone unlisted : house.HouseAnswer) → HouseAnswerIsRight job live
      → HouseAnswerIsRight job gone → HouseAnswerIsRight job unlisted
      → HouseAnswerIsRight job (cases.by_status s live gone unlisted)
  unfolding cases.by_status
  by_listed None live gone unlisted a b c = c
  by_listed (Some member.Live) live gone unlisted a b c = a
  by_listed (Some member.Dead) live gone unlisted a b c = b
  by_listed (Some (member.Left heir)) live gone unlisted a b c = b

  -- packets alone
  sends_right : (packets : List PacketOf) (h : HouseOf) → AllRight job packets → HouseIsRight job h
      → HouseStepIsRight job (house.sends packets h)
  sends_right packets h sent right = record { after = right; sent = sent }

  quiet_right : (h : HouseOf) → HouseIsRight job h → HouseStepIsRight job (house.sends [] h)
  quiet_right h right = sends_right [] h (none_sent job) right

  tells_right : (i : ℕ) (h : HouseOf) → HouseIsRight job h → HouseStepIsRight job (moves.tells job i h)
  tells_right i h right = sends_right (moves.roster_for job i h ∷ []) h
      (one_sent job (moves.roster_for job i h) tt) right

  -- a thief is answered
  answers_right : (thief seq : ℕ) (b : Body) (h : HouseOf) → BodyIsRight job b → HouseIsRight job h
      → HouseStepIsRight job (moves.answers job thief seq b h)
  answers_right thief seq b h is right = record {
    after = (
      replies_put job (record {
        thief = thief;
        seq = seq;
        packet = moves.packet job thief b;
      }) h.replies is right.0,
      right.1,
      right.2,
    );
    sent = one_sent job (moves.packet job thief b) is;
  }

  -- the root's grant is settled by a changed roster
  settles_right : (h : HouseOf) → HouseIsRight job h → HouseStepIsRight job (moves.settles job h)
  settles_right h right = by_root h.root
    where
      by_holder : (r : RootGrant) (o : Option ℕ) → HouseStepIsRight job (moves.settles_to job r o h)
      by_holder r None = record { after = right; sent = one_sent job _ tt }
      by_holder r (Some holder) = record { after = right; sent = none_sent job }

      by_root : (o : Option RootGrant) → HouseStepIsRight job (moves.settles_root job o h)
      by_root None = quiet_right h right
      by_root (Some r) = by_holder r (resolve (members_of h) r.holder)

  module _ (h : HouseOf) (right : HouseIsRight job h) where
    -- a Join
    joined_right : (i : ℕ) → HouseAnswerIsRight job (cases.joined job i h)
    joined_right i = by_listed (status_in i (members_of h)) _ _ _ (tells_right i (moves.hears i h) right)
        (tells_right i h right) (by_test (nat_lt (length h.workers) 4096) _ _
        (tells_right i (moves.lists i h) right) tt)

    -- a Steal
    served_right : (b : Steal) (o : Option Task) → ((task : Task) → o ≡ Some task → IsFirst job task)
        → HouseAnswerIsRight job (cases.served job b o h)
    served_right b None agrees = answers_right b.from b.seq (body.Refuse (record { seq = b.seq })) h tt right
    served_right b (Some task) agrees =
        let name : Grant = record { minter = name_of h; number = h.minted + 1 } in
        by_test (nat_lt (h.minted + 1) (2 ^ 64)) _ _
        (answers_right b.from b.seq (body.Grant
        (record { seq = b.seq; grant = name; task = task; saved = h.saved }))
        (record h { root = Some (record { grant = name; holder = b.from }); minted = h.minted + 1 })
        ((agrees task refl).agrees, right.1, root_fit task h.saved (agrees task refl).place right.2) right) tt

    stolen_right : IsJob job → (b : Steal) → HouseAnswerIsRight job (cases.stolen job b h)
    unfolding by_order
    stolen_right accepted b = by_test (is_live b.from (members_of h)) _ _ (by_kept (reply_in b.from h.replies) refl) tt
      where
        serves : HouseAnswerIsRight job (cases.served job b (cases.free_task job h) h)
        serves = served_right b (cases.free_task job h) (λ task e. free_agrees job accepted h task e)

        by_seq : (reply : Reply) → reply_in b.from h.replies ≡ Some reply → (o : Ordering)
            → HouseAnswerIsRight job (by_order o house.Ignored (house.Does (house.sends (reply.packet ∷ []) h))
            (cases.served job b (cases.free_task job h) h))
        by_seq reply e Less = tt
        by_seq reply e Equal = sends_right (reply.packet ∷ []) h
            (one_sent job reply.packet (right.0 reply (found_among _ reply h.replies e))) right
        by_seq reply e Greater = serves

        by_kept : (o : Option Reply) → reply_in b.from h.replies ≡ o
            → HouseAnswerIsRight job (by_reply o b.seq house.Ignored (λ reply. house.Does (house.sends (reply ∷ []) h))
            (cases.served job b (cases.free_task job h) h))
        by_kept None e = serves
        by_kept (Some reply) e = by_seq reply e (nat_cmp b.seq reply.seq)

    -- a Result
    returned_right : (b : TaskResult) → HouseAnswerIsRight job (cases.returned job b h)
    returned_right b =
        let ack : PacketOf = moves.packet job b.from (body.ResultAck (record { grant = b.grant })) in
        let sent : AllRight job (ack ∷ []) = one_sent job ack tt in
        by_test (not (is_root b.grant h.root)) _ _ (sends_right (ack ∷ []) h sent right)
        (by_test (nat_lt (h.sequence + 1) (2 ^ 64)) _ _ (record { after = right; sent = sent }) tt)

    -- a Leave
    left_right : (b : Leave) → HouseAnswerIsRight job (cases.left job b h)
    left_right b =
        let new : HouseOf = moves.says b.from (moves.leaving_status b.from b.heir (members_of h)) h in
        let settled : HouseStepIsRight job (moves.settles job new) = settles_right new right in
        let told : AllRight job (moves.roster_for job b.from new ∷ []) =
        one_sent job (moves.roster_for job b.from new) tt in
        let leaves : HouseAnswerIsRight job (cases.leaves job b h) =
        record {
          after = settled.after;
          sent = both_sent job (moves.roster_for job b.from new ∷ []) (moves.settles job new).sent told settled.sent;
        } in
        by_listed (status_in b.from (members_of h)) _ _ _ leaves (tells_right b.from h right) tt

    -- a Beat
    answered_right : (b : Beat) (k : HouseOf) → HouseIsRight job k
        → HouseAnswerIsRight job (cases.answered_beat job b k)
    answered_right b k same = by_test (nat_lt b.version k.version) _ _ (tells_right b.from k same) (quiet_right k same)

    beats_right : (to : ℕ) (b : Beat) → HouseAnswerIsRight job (cases.beats job to b h)
    beats_right to b =
        by_test (nat_eq to (name_of h)) _ _
        (by_listed (status_in b.from (members_of h)) _ _ _ (answered_right b (moves.hears b.from h) right)
        (answered_right b h right) tt)
        (by_test (is_house to) _ _ (tells_right b.from h right) tt)

    -- a Save
    saved_right : (b : Save) → IsSavedOf job (record { place = b.place; value = b.value })
        → HouseAnswerIsRight job (cases.saved b h)
    saved_right b is =
        let x : SavedValue = record { place = b.place; value = b.value } in
        by_use x is (not (is_live b.from (members_of h))) (is_some h.outcome) (cases.may_save x h) refl
      where
        saves_right : (x : SavedValue) → IsSavedOf job x → IsTrue (cases.may_save x h)
            → HouseStepIsRight job (moves.saves (put_saved x h.saved) h)
        saves_right x saved may = record {
          after = (
            right.0,
            put_saved_agrees job x h.saved saved right.1,
            put_below x h.saved (and_parts (is_saved_place x.place) (is_taken x h.saved) may).0 right.2,
          );
          sent = none_sent job;
        }

        by_use : (x : SavedValue) → IsSavedOf job x → (gone over may : Bool) → cases.may_save x h ≡ may
            → HouseAnswerIsRight job (cond (gone || (over || not may)) house.Ignored
            (cond (nat_lt (h.sequence + 1) (2 ^ 64)) (house.Does (moves.saves (put_saved x h.saved) h))
            (house.Refused error.Spent)))
        by_use x saved true over may e = tt
        by_use x saved false true may e = tt
        by_use x saved false false false e = tt
        by_use x saved false false true e = by_test (nat_lt (h.sequence + 1) (2 ^ 64)) _ _ (saves_right x saved e) tt

    -- a packet of each kind
    body_right : IsJob job → (to : ℕ) (b : Body) → SaveIsRight job b → HouseAnswerIsRight job (cases.on_body job to b h)
    unfolding cases.on_body
    body_right accepted to (body.Join b) save = by_test (nat_eq to (2 ^ 63)) _ _ (joined_right b.from) tt
    body_right accepted to (body.Steal b) save = by_test (nat_eq to (name_of h)) _ _ (stolen_right accepted b) tt
    body_right accepted to (body.Result b) save = by_test (nat_eq to (name_of h)) _ _ (returned_right b) tt
    body_right accepted to (body.Leave b) save = by_test (nat_eq to (name_of h)) _ _ (left_right b) tt
    body_right accepted to (body.Beat b) save = beats_right to b
    body_right accepted to (body.Save b) save = by_test (nat_eq to (name_of h)) _ _ (saved_right b save) tt
    body_right accepted to (body.Roster b) save = tt
    body_right accepted to (body.Grant b) save = tt
    body_right accepted to (body.Refuse b) save = tt
    body_right accepted to (body.ResultAck b) save = tt
    body_right accepted to (body.Offer b) save = tt
    body_right accepted to (body.OfferAck b) save = tt
    body_right accepted to (body.Abort b) save = tt
    body_right accepted to (body.Piece b) save = tt

    pub packet_right : IsJob job → (p : PacketOf) → SaveIsRight job p.body
        → HouseAnswerIsRight job (cases.on_packet job p h)
    unfolding cases.on_packet
    packet_right accepted p save = by_test (nat_eq p.job job.number) _ _ (body_right accepted p.to p.body save) tt

    -- a moment
    pub passes_right : (now : ℕ) → HouseStepIsRight job (passes job now h)
    unfolding passes
    passes_right now = by_later (nat_lt h.moment now)
      where
        by_lost : (b : Bool) → HouseStepIsRight job
            (cond b (moves.settles job (moves.with_workers (map (moves.declared_dead h.limit now) h.workers)
            (record h { moment = now }))) (house.sends [] (record h { moment = now })))
        by_lost true = settles_right (moves.with_workers (map (moves.declared_dead h.limit now) h.workers)
            (record h { moment = now })) right
        by_lost false = quiet_right (record h { moment = now }) right

        by_later : (b : Bool) → HouseStepIsRight job (cond b (declares_dead job now h) (house.sends [] h))
        by_later true = by_lost (list_any (moves.is_lost h.limit now) h.workers)
        by_later false = quiet_right h right
