-- A Steal comes to the clearinghouse: the root task is granted, or it is refused.
use Rattle.std.proofs.Common.{◌≡◌, ◌+◌, ◌^◌, ℕ, Bool, true, false, cond, nat_lt, ◌||◌, [], ◌∷◌, inl, inr, Option, None, Some, is_some, refl, sym, ap, ◌∙◌, Ordering, Less, Equal, Greater}
use Rattle.std.specs.Ordering.{nat_cmp}
use Rattle.ids.specs.Names.{Grant}
use Rattle.ids.specs.Options.{◌>>=◌}
use Rattle.ids.specs.Members.{is_live}
use Rattle.ids.specs.declared.outcome.Outcome.{Outcome}
use Rattle.ids.specs.declared.work.Task.{Task}
use Rattle.codec.specs.Table.{PacketOf}
use Rattle.codec.specs.declared.body.Body.TheVariants as body
use Rattle.codec.specs.declared.body.Steal.{Steal}
use Rattle.serial_meaning.specs.Job.{JobOf}
use Rattle.serial_meaning.specs.Places.{Call, root}
use Rattle.steal_protocol.specs.Replies.{by_order, by_reply, reply_in}
use Rattle.steal_protocol.specs.declared.replies.Reply.{Reply}
use Rattle.clearinghouse.specs.Cases as cases
use Rattle.clearinghouse.specs.House.{HouseOf, members_of, name_of}
use Rattle.clearinghouse.specs.Moves as moves
use Rattle.clearinghouse.specs.Steps as house
use Rattle.clearinghouse.specs.declared.error.HouseError.TheVariants as error
use Rattle.clearinghouse.specs.declared.parts.RootGrant.{RootGrant}
use Rattle.table_laws.specs.Tables.{◌∈◌}
use Rattle.table_laws.specs.Content.{given, Task as TableTask}
use Rattle.table_laws.specs.View.{Transfer, View}
use Rattle.table_laws.specs.Facts.{Answered, grant_of, steal_of}
use Rattle.table_laws.specs.Guards.{MayAnswer, MayBegin}
use Rattle.table_laws.specs.Meaning.{FitsMeaning}
use Rattle.table_laws.specs.Moves.{grant_root, refuse}
use Rattle.table_laws.specs.Acts as acts
use Rattle.table_laws.specs.Runs.{Run, by_right, leads_on}
use Rattle.table_laws.proofs.Entries.{put_here, put_other, at_other_row}
use Rattle.content_laws.specs.Moved.{BeginsTask}
use Rattle.content_laws.proofs.Beginning.{task_begins}
use Rattle.content_laws.proofs.Rooting.{first_fits}
use Rattle.move_laws.specs.Beside.{KeepsSent}
use Rattle.move_laws.proofs.Sent.{keeps_one, all_kept}
use Rattle.move_laws.proofs.Others.{all_same}
use Rattle.actor_laws.specs.node_moves.Shows.{ShowsReply, PacketShown}
use Rattle.actor_laws.proofs.node_moves.Granting.{said_put}
use Rattle.actor_laws.proofs.node_moves.Held.{reply_put}
use Rattle.actor_laws.proofs.node_moves.Members.{unanswered_none, unanswered_newer}
use Rattle.actor_laws.proofs.node_moves.Told.{one_shown}
use Rattle.actor_laws.specs.house_moves.Shows.{OpenShown, ShowsRoot, stored_of}
use Rattle.actor_laws.specs.house_moves.Steps.{HouseStepShown, HouseAnswerShown, tables_meaning}

module _ (job : JobOf) (v : View) (run : Run (tables_meaning job) v) (h : HouseOf) (s : OpenShown v h) where
  -- it refuses
  refuses_shown : (b : Steal) → MayAnswer v (name_of h) b.from b.seq → HouseStepShown job v h (moves.refuses job b h)
  refuses_shown b may =
      let act : acts.Act v (refuse v (name_of h) b.from b.seq) =
      acts.refuses (name_of h) b.from b.seq (rw s.mode tt) may in
      let view : View = refuse v (name_of h) b.from b.seq in
      let keeps : KeepsSent v view = keeps_one act in
      let sent : PacketOf = moves.packet job b.from (body.Refuse (record { seq = b.seq })) in
      let answer : PacketShown view sent =
      record { steal = steal_of b.from b.seq (name_of h); sent = inl refl; thief = refl; seq_is = refl } in
      record {
        view = view;
        run = λ k. by_right k act tt;
        since = λ base k. leads_on k act;
        keeps = keeps;
        others = λ j apart. record {
          mode = refl;
          minted = refl;
          asked = refl;
          seen = λ g. refl;
          subs = λ g. refl;
          pending = refl;
          kept = λ t. at_other_row v.kept (name_of h) b.from j t _ apart;
          roster = refl;
        };
        used = refl;
        same_name = refl;
        after = record {
          mode = s.mode;
          roster = s.roster;
          is = s.is;
          shows = s.shows;
          room = s.room;
          minted = s.minted;
          replies = reply_put v.kept (name_of h) h.replies (record { seq = b.seq; given = None })
              (record { thief = b.from; seq = b.seq; packet = sent }) s.replies
              (record { seq = refl; to = refl; given = tt });
          said = said_put keeps h.replies (record { thief = b.from; seq = b.seq; packet = sent }) s.said answer;
          root = s.root;
          stored = s.stored;
          epoch = s.epoch;
          only = s.only;
        };
        sent = one_shown view sent answer;
        transfers = λ t m. inl m;
        fills = refl;
        keeps_transfers = λ k e. cc;
      }

  -- it grants the job's first task
  grants_shown : (b : Steal) (call : Call) → MayAnswer v (name_of h) b.from b.seq
      → root job.program job.input ≡ Some call → h.root ≡ None → h.outcome ≡ None
      → HouseStepShown job v h (moves.grants job b
      (record { place = []; thread = call.thread; numbers = call.numbers }) h)
  grants_shown b call may first out none =
      let task : Task = record { place = []; thread = call.thread; numbers = call.numbers } in
      let begun : BeginsTask (name_of h) task = task_begins (name_of h) task in
      let c = begun.content in
      let unrecorded : v.root ≡ None = no_root v.root h.root s.root out in
      let unstored : v.stored ≡ None = s.stored ∙ ap stored_of none in
      let begin : MayBegin v c = record {
        unrecorded = unrecorded;
        unstored = unstored;
        place = ap (λ (t : TableTask). t.place) begun.task_is;
      } in
      let act : acts.Act v (grant_root v (name_of h) b.from b.seq c) =
      acts.grants_root (name_of h) b.from b.seq c s.mode begin may begun.begins in
      let fits : FitsMeaning (tables_meaning job) [] c.task.thread (λ j. given c.task.numbers j) =
      rw begun.task_is (first_fits job.program job.input call first) in
      let view : View = grant_root v (name_of h) b.from b.seq c in
      let keeps : KeepsSent v view = keeps_one act in
      let name : Grant = record { minter = name_of h; number = h.minted + 1 } in
      let same : record { minter = name_of h; number = v.minted (name_of h) + 1 } ≡ name =
      ap (λ (k : ℕ). let g : Grant = record { minter = name_of h; number = k + 1 } in g) s.minted in
      let sent : PacketOf = moves.packet job b.from
      (body.Grant (record { seq = b.seq; grant = name; task = task; saved = h.saved })) in
      let t : Transfer = grant_of v (name_of h) b.from b.seq c in
      let answer : PacketShown view sent =
      record {
        transfer = t;
        sent = inl refl;
        grant = same;
        hop = refl;
        from = refl;
        to_is = refl;
        seq = refl;
        content = begun.shown;
      } in
      record {
        view = view;
        run = λ k. by_right k act fits;
        since = λ base k. leads_on k act;
        keeps = keeps;
        others = λ j apart. record {
          mode = refl;
          minted = put_other v.minted (name_of h) j _ apart;
          asked = refl;
          seen = λ g. refl;
          subs = λ g. refl;
          pending = refl;
          kept = λ u. at_other_row v.kept (name_of h) b.from j u _ apart;
          roster = refl;
        };
        used = refl;
        same_name = refl;
        after = record {
          mode = s.mode;
          roster = s.roster;
          is = s.is;
          shows = s.shows;
          room = s.room;
          minted = put_here v.minted (name_of h) (v.minted (name_of h) + 1) ∙ ap (λ (k : ℕ). k + 1) s.minted;
          replies = reply_put v.kept (name_of h) h.replies (record { seq = b.seq; given = Some t })
              (record { thief = b.from; seq = b.seq; packet = sent }) s.replies
              (record { seq = refl; to = refl; given = (same, refl) });
          said = said_put keeps h.replies (record { thief = b.from; seq = b.seq; packet = sent }) s.said answer;
          root = same;
          stored = s.stored;
          epoch = s.epoch;
          only = s.only;
        };
        sent = one_shown view sent answer;
        transfers = λ u. elim [
          | inl e ↦ inr (rw e (record {
            packet = sent;
            there = inl refl;
            job_is = refl;
            to = refl;
            carries = (sym same, refl, refl, sym begun.task_is);
          }))
          | inr old ↦ inl old
        ];
        fills = refl;
        keeps_transfers = λ k e. cc;
      }
    where
      no_root : (o : Option Grant) (q : Option RootGrant) → ShowsRoot o q → q ≡ None → o ≡ None
      no_root None q k e = refl
      no_root (Some g) None k e = absurd k
      no_root (Some g) (Some r) k e = cc

  -- its last answer, again
  again_shown : (thief : ℕ) (reply : Reply) → reply_in thief h.replies ≡ Some reply
      → HouseStepShown job v h (house.sends (reply.packet ∷ []) h)
  again_shown thief reply there = record {
    view = v;
    run = λ k. k;
    since = λ base k. k;
    keeps = all_kept v;
    others = λ j apart. all_same v j;
    used = refl;
    same_name = refl;
    after = s;
    sent = one_shown v reply.packet (s.said thief reply there);
    transfers = λ t m. inl m;
    fills = refl;
    keeps_transfers = λ k e. cc;
  }

  -- a request that is newer
  served_shown : (b : Steal) → MayAnswer v (name_of h) b.from b.seq
      → HouseAnswerShown job v h (cases.served job b (cases.free_task job h) h)
  served_shown b may = by_root h.root h.outcome refl refl
    where
      by_room : (call : Call) → root job.program job.input ≡ Some call → h.root ≡ None → h.outcome ≡ None → (x : Bool)
          → HouseAnswerShown job v h (cond x
          (house.Does (moves.grants job b (record { place = []; thread = call.thread; numbers = call.numbers }) h))
          (house.Refused error.Spent))
      by_room call first out none false = tt
      by_room call first out none true = grants_shown b call may first out none

      by_task : (o : Option Call) → root job.program job.input ≡ o → h.root ≡ None → h.outcome ≡ None
          → HouseAnswerShown job v h (cases.served job b
          (o >>= (λ t. Some (record { place = []; thread = t.thread; numbers = t.numbers }))) h)
      by_task None first out none = refuses_shown b may
      by_task (Some call) first out none = by_room call first out none (nat_lt (h.minted + 1) (2 ^ 64))

      by_root : (x : Option RootGrant) (y : Option Outcome) → h.root ≡ x → h.outcome ≡ y
          → HouseAnswerShown job v h (cases.served job b (cond (is_some x || is_some y) None (moves.root_task job)) h)
      by_root (Some r) y e f = refuses_shown b may
      by_root None (Some o) e f = refuses_shown b may
      by_root None None e f = by_task (root job.program job.input) refl e f

  -- a Steal comes
  pub stolen_shown : (b : Steal) → steal_of b.from b.seq (name_of h) ∈ v.steals
      → HouseAnswerShown job v h (cases.stolen job b h)
  unfolding by_order
  stolen_shown b asked = by_live (is_live b.from (members_of h))
    where
      may : (Answered (v.kept (name_of h) b.from) b.seq → ⊥) → MayAnswer v (name_of h) b.from b.seq
      may due = record { asked = asked; due = due; listed = inl s.mode }

      by_seq : (reply : Reply) → reply_in b.from h.replies ≡ Some reply
          → ShowsReply (name_of h) b.from (v.kept (name_of h) b.from) (Some reply) → (o : Ordering)
          → nat_cmp b.seq reply.seq ≡ o → HouseAnswerShown job v h
          (by_order o house.Ignored (house.Does (house.sends (reply.packet ∷ []) h))
          (cases.served job b (cases.free_task job h) h))
      by_seq reply there kept Less e = tt
      by_seq reply there kept Equal e = again_shown b.from reply there
      by_seq reply there kept Greater e =
          served_shown b (may (unanswered_newer (name_of h) b.from b.seq (v.kept (name_of h) b.from) reply kept e))

      by_kept : (o : Option Reply) → reply_in b.from h.replies ≡ o
          → ShowsReply (name_of h) b.from (v.kept (name_of h) b.from) o
          → HouseAnswerShown job v h (by_reply o b.seq house.Ignored (λ reply. house.Does (house.sends (reply ∷ []) h))
          (cases.served job b (cases.free_task job h) h))
      by_kept None there kept = served_shown b
          (may (unanswered_none (name_of h) b.from b.seq (v.kept (name_of h) b.from) kept))
      by_kept (Some reply) there kept = by_seq reply there kept (nat_cmp b.seq reply.seq) refl

      by_live : (x : Bool) → HouseAnswerShown job v h
          (cond x (by_reply (reply_in b.from h.replies) b.seq house.Ignored
          (λ reply. house.Does (house.sends (reply ∷ []) h)) (cases.served job b (cases.free_task job h) h))
          house.Ignored)
      by_live false = tt
      by_live true = by_kept (reply_in b.from h.replies) refl (s.replies b.from)
