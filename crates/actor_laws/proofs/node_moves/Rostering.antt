-- A roster comes to a member: it is kept, what is held is recovered by it, and a request is
-- forgotten; or the node ends.
use Rattle.std.proofs.Common.{◌≡◌, ◌<◌, ℕ, Bool, true, false, cond, nat_lt, List, [], ◌∷◌, ◌⊎◌, inl, inr, ⊎_elim, Option, None, Some, refl, sym, ap, ◌∙◌, Ordering, Less, Equal, Greater, arith}
use Rattle.std.specs.Ordering.{nat_cmp}
use Rattle.ids.specs.Members.{status_in}
use Rattle.ids.specs.declared.member.Status.{Status}
use Rattle.ids.specs.declared.member.Status.TheVariants as member
use Rattle.codec.specs.declared.body.Roster.{Roster}
use Rattle.serial_meaning.specs.Job.{JobOf}
use Rattle.steal_protocol.specs.Replies.{by_order}
use Rattle.steal_protocol.specs.Requests.{AskerOf, settled}
use Rattle.steal_protocol.specs.declared.asker.Request.{Request}
use Rattle.subcomputation.specs.Subs.{grants_of_subs}
use Rattle.node_state.specs.Assemblies.{of_living}
use Rattle.node_state.specs.Node.{NodeOf, ended}
use Rattle.node_state.specs.declared.parts.State.TheVariants.{Member}
use Rattle.node_steps.specs.Cases.{by_status, member_roster, recovers_by}
use Rattle.node_steps.specs.Moves.{recovers, settle_request, status_of as status_of_request}
use Rattle.node_steps.specs.Steps.{Does, Ignored, quiet}
use Rattle.table_laws.specs.Tables.{◌∈◌}
use Rattle.table_laws.specs.View.{Leave, Works, View}
use Rattle.table_laws.specs.View as tables
use Rattle.table_laws.specs.Facts.{Said}
use Rattle.table_laws.specs.Guards.{MayAdopt, GivesUp, lost_thief, lost_victim, left_victim}
use Rattle.table_laws.specs.Meaning.{Meaning}
use Rattle.table_laws.specs.Moves.{adopt, fail, mark_lost, stop, unpend}
use Rattle.table_laws.specs.Acts as acts
use Rattle.table_laws.specs.Runs.{Run}
use Rattle.table_laws.proofs.LeaversKept.{leavers_reached}
use Rattle.table_laws.proofs.Lists.{same_or}
use Rattle.table_laws.proofs.RostersReached.{rosters_reached}
use Rattle.table_laws.proofs.ValuesKept.{run_reached}
use Rattle.table_laws.proofs.Entries.{put_here}
use Rattle.move_laws.specs.Beside.{KeepsSent, unmoved, moved}
use Rattle.move_laws.specs.Listed.{status_of, MarkedLost}
use Rattle.move_laws.proofs.MarkingLost.{marked_lost}
use Rattle.move_laws.proofs.Sent.{keeps_one, keeps_then, of_act, of_mark_lost, runs_on}
use Rattle.actor_laws.specs.node_moves.Shows.{pending_of, RosterShown, PartsShown, NodeShown}
use Rattle.actor_laws.specs.node_moves.Steps.{StepShown, AnswerShown}
use Rattle.actor_laws.proofs.node_moves.Told.{packet_kept, none_shown}
use Rattle.actor_laws.proofs.node_moves.Beside.{steps_on}
use Rattle.actor_laws.proofs.node_moves.Members.{MemberShown, member_shown}
use Rattle.actor_laws.proofs.node_moves.Recovering.{IsMember, recovers_shown}

-- whether somebody said Leave
pub said_or : (leaves : List Leave) (i : ℕ) → Said leaves i ⊎ (Said leaves i → ⊥)
said_or [] i = inr (λ s. s.sent)
said_or (l ∷ leaves) i = ⊎_elim
    (λ (same : l.from ≡ i). inl (record { leave = l; sent = inl refl; from = same }))
    (λ other. ⊎_elim
    (λ s. inl (record { leave = s.leave; sent = inr s.sent; from = s.from }))
    (λ none. inr (λ s. ⊎_elim (λ first. other (ap (λ (x : Leave). x.from) (sym first) ∙ s.from))
    (λ later. none (record { leave = s.leave; sent = later; from = s.from })) s.sent))
    (said_or leaves i))
    (same_or l.from i)

module _ (m : Meaning) (job : JobOf) (v : View) (n : NodeOf) (run : Run m v) (shown : NodeShown v n) where
  -- a node that is up ends
  pub ends_shown : Works (v.mode n.incarnation) → (v.mode n.incarnation ≡ tables.House → ⊥)
      → StepShown m job.number v n (quiet (ended n))
  ends_shown up worker = ⊎_elim
      (λ (s : Said v.leaves n.incarnation).
      let act : acts.Act v (stop v n.incarnation) = acts.goes n.incarnation s in
      let keeps : KeepsSent v (stop v n.incarnation) = keeps_one act in
      let x : StepShown m job.number v n (quiet (ended n)) =
      record {
        view = stop v n.incarnation;
        way = moved unmoved act tt (of_act act n.incarnation refl);
        name = refl;
        node = record { mode = put_here v.mode n.incarnation tables.Gone; parts = λ w. absurd w };
        sent = none_shown (stop v n.incarnation);
        transfers = λ u old. inl old;
        fills = refl;
      } in x)
      (λ (s : Said v.leaves n.incarnation → ⊥).
      let act : acts.Act v (fail v n.incarnation) =
      acts.fails n.incarnation (record { works = up; worker = worker; unsaid = s }) in
      let x : StepShown m job.number v n (quiet (ended n)) =
      record {
        view = fail v n.incarnation;
        way = moved unmoved act tt (of_act act n.incarnation refl);
        name = refl;
        node = record { mode = put_here v.mode n.incarnation tables.Gone; parts = λ w. absurd w };
        sent = none_shown (fail v n.incarnation);
        transfers = λ u old. inl old;
        fills = refl;
      } in x)
      (said_or v.leaves n.incarnation)

-- a pending request is kept, or forgotten
module _ (m : Meaning) (job : JobOf) (new : Roster) (v : View) (n : NodeOf) (k : IsMember m job new v n) where
  abbrev with_asker : AskerOf → NodeOf
  with_asker a = record n { asker = a; assemblies = of_living new.members n.assemblies }

  keeps_asker : (a : AskerOf) → a.pending ≡ n.asker.pending → a.asked ≡ n.asker.asked
      → StepShown m job.number v n (quiet (with_asker a))
  keeps_asker a pending asked =
      let p = (member_shown v n new k.is k.shown).parts in
      let parts : PartsShown v (with_asker a) =
      record {
        minted = p.minted;
        asked = p.asked ∙ sym asked;
        pending = rw pending p.pending;
        seen = p.seen;
        subs = p.subs;
        order = p.order;
        replies = p.replies;
        said = p.said;
        reply_order = p.reply_order;
        confirmed = p.confirmed;
        roster = p.roster;
      } in
      record {
        view = v;
        way = unmoved;
        name = refl;
        node = record { mode = k.shown.mode; parts = λ x. parts };
        sent = none_shown v;
        transfers = λ u old. inl old;
        fills = refl;
      }

  -- the view in which somebody is marked as lost, or the same view
  loses_asker : (a : AskerOf) → a.pending ≡ None → a.asked ≡ n.asker.asked → GivesUp v n.incarnation
      → StepShown m job.number v n (quiet (with_asker a))
  loses_asker a pending asked why =
      let p = (member_shown v n new k.is k.shown).parts in
      let view : View = unpend v n.incarnation in
      let act : acts.Act v view = acts.gives_up n.incarnation why in
      let keeps : KeepsSent v view = keeps_one act in
      let parts : PartsShown view (with_asker a) =
      record {
        minted = p.minted;
        asked = p.asked ∙ sym asked;
        pending = rw pending (put_here v.pending n.incarnation None);
        seen = p.seen;
        subs = p.subs;
        order = p.order;
        replies = p.replies;
        said = λ t r e. packet_kept keeps r.packet (p.said t r e);
        reply_order = p.reply_order;
        confirmed = p.confirmed;
        roster = p.roster;
      } in
      record {
        view = view;
        way = moved unmoved act tt (of_act act n.incarnation refl);
        name = refl;
        node = record { mode = k.shown.mode; parts = λ x. parts };
        sent = none_shown view;
        transfers = λ u old. inl old;
        fills = refl;
      }

  -- the same, where somebody turns out to be lost first
  lost_gives_up : (a : AskerOf) → a.pending ≡ None → a.asked ≡ n.asker.asked → (dead : ℕ)
      → (loss : MarkedLost v n.incarnation dead) → GivesUp (mark_lost v loss.who) n.incarnation
      → StepShown m job.number v n (quiet (with_asker a))
  lost_gives_up a pending asked dead loss why =
      let p = (member_shown v n new k.is k.shown).parts in
      let mid : View = mark_lost v loss.who in
      let view : View = unpend mid n.incarnation in
      let act : acts.Act mid view = acts.gives_up n.incarnation why in
      let keeps : KeepsSent v view = keeps_then (keeps_one loss.act) (keeps_one act) in
      let parts : PartsShown view (with_asker a) =
      record {
        minted = p.minted;
        asked = p.asked ∙ sym asked;
        pending = rw pending (put_here v.pending n.incarnation None);
        seen = p.seen;
        subs = p.subs;
        order = p.order;
        replies = p.replies;
        said = λ t r e. packet_kept keeps r.packet (p.said t r e);
        reply_order = p.reply_order;
        confirmed = p.confirmed;
        roster = p.roster;
      } in
      record {
        view = view;
        way = moved (moved unmoved loss.act (loss.right m) (of_mark_lost v loss.who n.incarnation))
            act tt (of_act act n.incarnation refl);
        name = refl;
        node = record { mode = k.shown.mode; parts = λ x. parts };
        sent = none_shown view;
        transfers = λ u old. inl old;
        fills = refl;
      }

pub forgets_shown : (m : Meaning) (job : JobOf) (new : Roster) (v : View) (n : NodeOf) → IsMember m job new v n
    → StepShown m job.number v n (quiet
    (record n { asker = settle_request new.members n.asker; assemblies = of_living new.members n.assemblies }))
forgets_shown m job new v n k = by_status_of (status_of_request new.members n.asker.pending) refl
  where
    h : MemberShown v n new
    h = member_shown v n new k.is k.shown

    by_victim : (o : Option Request) (s : Status) → status_of_request new.members o ≡ Some s
        → (q : Request) × (o ≡ Some q) × (status_in q.victim new.members ≡ Some s)
    by_victim None s e = cc
    by_victim (Some q) s e = (q, refl, e)

    by_dead : status_of_request new.members n.asker.pending ≡ Some member.Dead
        → StepShown m job.number v n (quiet
        (record n { asker = settled (Some member.Dead) n.asker; assemblies = of_living new.members n.assemblies }))
    by_dead e =
        let x = by_victim n.asker.pending member.Dead e in
        let q : Request = x.0 in
        let verdict : h.roster.roster.status q.victim ≡ tables.Dead =
        h.roster.shows.members.status q.victim ∙ ap status_of x.2 in
        let loss : MarkedLost v n.incarnation q.victim =
        marked_lost v n.incarnation q.victim h.roster.roster (run_reached k.run) (rw h.mode tt)
        (λ house. let two : tables.Member ≡ tables.House = sym h.mode ∙ house in cc) h.roster.is verdict in
        let waits : v.pending n.incarnation ≡ Some (record { victim = q.victim; seq = q.seq }) =
        h.parts.pending ∙ ap pending_of x.1 in
        let why : GivesUp (mark_lost v loss.who) n.incarnation =
        ⊎_elim (λ lost. lost_victim (record { victim = q.victim; seq = q.seq }) waits lost)
        (λ lost. lost_thief lost) loss.told in
        lost_gives_up m job new v n k (settled (Some member.Dead) n.asker) refl refl q.victim loss why

    by_left : (heir : ℕ) → status_of_request new.members n.asker.pending ≡ Some (member.Left heir)
        → StepShown m job.number v n (quiet
        (record n {
          asker = settled (Some (member.Left heir)) n.asker;
          assemblies = of_living new.members n.assemblies;
        }))
    by_left heir e =
        let x = by_victim n.asker.pending (member.Left heir) e in
        let q : Request = x.0 in
        let reached = run_reached k.run in
        let left : h.roster.roster.status q.victim ≡ tables.Left heir =
        h.roster.shows.members.status q.victim ∙ ap status_of x.2 in
        let sent = (rosters_reached reached).kept_had n.incarnation h.roster.roster h.roster.is in
        let said : Said v.leaves q.victim =
        (leavers_reached reached).left_said h.roster.roster q.victim heir sent left in
        let waits : v.pending n.incarnation ≡ Some (record { victim = q.victim; seq = q.seq }) =
        h.parts.pending ∙ ap pending_of x.1 in
        loses_asker m job new v n k (settled (Some (member.Left heir)) n.asker) refl refl
        (left_victim (record { victim = q.victim; seq = q.seq }) said.leave waits said.sent said.from)

    by_status_of : (o : Option Status) → status_of_request new.members n.asker.pending ≡ o
        → StepShown m job.number v n (quiet
        (record n { asker = settled o n.asker; assemblies = of_living new.members n.assemblies }))
    by_status_of None e = keeps_asker m job new v n k (settled None n.asker) refl refl
    by_status_of (Some member.Live) e = keeps_asker m job new v n k (settled (Some member.Live) n.asker) refl refl
    by_status_of (Some member.Dead) e = by_dead e
    by_status_of (Some (member.Left heir)) e = by_left heir e

module _ (m : Meaning) (job : JobOf) (old new : Roster) (v : View) (n : NodeOf) (run : Run m v)
    (is : n.state ≡ Member old) (shown : NodeShown v n) (told : RosterShown v.rosters new) where
  -- it is kept
  adopts_shown : told.roster ∈ v.rosters → new.epoch ≡ old.epoch → old.version < new.version
      → StepShown m job.number v n (quiet (record n { state = Member new }))
  adopts_shown sent epoch newer =
      let h = member_shown v n old is shown in
      let p = h.parts in
      let view : View = adopt v n.incarnation told.roster in
      let may : MayAdopt v n.incarnation h.roster.roster told.roster =
      record {
        sent = sent;
        keeps = h.roster.is;
        epoch = h.roster.shows.epoch ∙ sym epoch ∙ sym told.shows.epoch;
        newer = rw (h.roster.shows.version, told.shows.version) newer;
      } in
      let act : acts.Act v view = acts.adopts n.incarnation h.roster.roster told.roster may in
      let keeps : KeepsSent v view = keeps_one act in
      let parts : PartsShown view (record n { state = Member new }) =
      record {
        minted = p.minted;
        asked = p.asked;
        pending = p.pending;
        seen = p.seen;
        subs = p.subs;
        order = p.order;
        replies = p.replies;
        said = λ t r e. packet_kept keeps r.packet (p.said t r e);
        reply_order = p.reply_order;
        confirmed = p.confirmed;
        roster =
            record {
              roster = told.roster;
              is = put_here v.roster n.incarnation (Some told.roster);
              shows = told.shows;
            };
      } in
      record {
        view = view;
        way = moved unmoved act tt (of_act act n.incarnation refl);
        name = refl;
        node = record { mode = h.mode; parts = λ x. parts };
        sent = none_shown view;
        transfers = λ u o. inl o;
        fills = refl;
      }

  keeps_shown : told.roster ∈ v.rosters → new.epoch ≡ old.epoch → old.version < new.version
      → StepShown m job.number v n (recovers_by job new n)
  keeps_shown sent epoch newer =
      let n1 : NodeOf = record n { state = Member new } in
      let a = adopts_shown sent epoch newer in
      let k : IsMember m job new a.view n1 = record { run = runs_on run a.way; is = refl; shown = a.node } in
      let b = recovers_shown m job new (grants_of_subs n.subs) a.view n1 k in
      let n2 : NodeOf = (recovers job new.members (grants_of_subs n.subs) n1).after in
      let l : IsMember m job new b.view n2 = record { run = runs_on k.run b.way; is = refl; shown = b.node } in
      let c = forgets_shown m job new b.view n2 l in
      let bc = steps_on m job.number a.view n1 (recovers job new.members (grants_of_subs n.subs) n1)
      (λ x. quiet (record x {
        asker = settle_request new.members x.asker;
        assemblies = of_living new.members x.assemblies;
      })) b c in
      steps_on m job.number v n (quiet n1) (λ x. recovers_by job new n) a bc

  pub member_roster_shown : AnswerShown m job.number v n (member_roster job old new n)
  unfolding by_order by_status
  member_roster_shown = by_epoch (nat_cmp new.epoch old.epoch) refl
    where
      ends : StepShown m job.number v n (quiet (ended n))
      ends = let h = member_shown v n old is shown in ends_shown m job v n run shown (rw h.mode tt)
          (λ house. let two : tables.Member ≡ tables.House = sym h.mode ∙ house in cc)

      none_listed : new.members ≡ [] → status_in n.incarnation new.members ≡ None
      none_listed e = rw e refl

      by_live : new.epoch ≡ old.epoch → old.version < new.version → (o : Option Status)
          → status_in n.incarnation new.members ≡ o
          → AnswerShown m job.number v n (by_status o (Does (recovers_by job new n)) (Does (quiet (ended n))) Ignored)
      by_live epoch newer None e = tt
      by_live epoch newer (Some member.Live) e =
          ⊎_elim (λ sent. keeps_shown sent epoch newer) (λ none. let no = none_listed none in cc) told.had
      by_live epoch newer (Some member.Dead) e = ends
      by_live epoch newer (Some (member.Left heir)) e = ends

      by_version : new.epoch ≡ old.epoch → (b : Bool) → nat_lt old.version new.version ≡ b
          → AnswerShown m job.number v n (cond b
          (by_status (status_in n.incarnation new.members) (Does (recovers_by job new n))
          (Does (quiet (ended n))) Ignored) Ignored)
      by_version epoch false e = tt
      by_version epoch true e = by_live epoch (grind (arith, e)) (status_in n.incarnation new.members) refl

      by_epoch : (o : Ordering) → nat_cmp new.epoch old.epoch ≡ o
          → AnswerShown m job.number v n (by_order o Ignored
          (cond (nat_lt old.version new.version)
          (by_status (status_in n.incarnation new.members) (Does (recovers_by job new n))
          (Does (quiet (ended n))) Ignored) Ignored) (Does (quiet (ended n))))
      by_epoch Less e = tt
      by_epoch Equal e = by_version (grind (arith, e)) (nat_lt old.version new.version) refl
      by_epoch Greater e = ends
