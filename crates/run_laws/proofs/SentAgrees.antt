-- What was sent and what is held agrees, as a reader of packets says it.
use Rattle.std.proofs.Common.{◌≡◌, ℕ, suc, Some, slice_get, refl, ap, subst, sym, ◌∙◌, arith}
use Rattle.ids.specs.Names.{Grant}
use Rattle.ids.specs.declared.work.Task.{Task}
use Rattle.codec.specs.Table.{PacketOf}
use Rattle.codec.specs.declared.body.Body.{Body}
use Rattle.codec.specs.declared.body.Body.TheVariants as body
use Rattle.codec.specs.declared.body.Grant.{Grant as GrantBody}
use Rattle.codec.specs.declared.body.TaskResult.{TaskResult}
use Rattle.serial_meaning.specs.Job.{JobOf}
use Rattle.serial_meaning.specs.Places.{outcome_at}
use Rattle.agreement_laws.specs.Agreement.{AllSavedAgree, ContentAgrees, IsReceived}
use Rattle.checkpoint.proofs.Reading.{one_store}
use Rattle.checkpoint.specs.declared.record.CheckpointRecord.{CheckpointRecord}
use Rattle.node_steps.specs.declared.parts.Fill.{Fill}
use Rattle.table_laws.specs.Tables.{◌∈◌}
use Rattle.table_laws.specs.Content as tables
use Rattle.table_laws.specs.View.{Transfer, View}
use Rattle.table_laws.specs.Facts.{Granted, SentTo, result_to}
use Rattle.table_laws.proofs.Among.{found_among, got, placed}
use Rattle.table_laws.proofs.NamesReached.{names_reached}
use Rattle.table_laws.proofs.Paths.{grant_of_transfer}
use Rattle.table_laws.proofs.ValuesKept.{run_reached}
use Rattle.content_laws.specs.Shown.{outcome_number, task_of}
use Rattle.actor_laws.specs.node_moves.Shows.{BodyShown, GrantShown, OfferShown}
use Rattle.actor_laws.specs.node_moves.Steps.{Carries, IsSent}
use Rattle.actor_laws.specs.house_moves.Steps.{tables_meaning}
use Rattle.actor_laws.specs.actor_agreement.Values.{BodyIsRight}
use Rattle.world_steps.specs.Agrees.{BodyAgrees, StoredAgree, WasGranted}
use Rattle.world_steps.specs.Safe.{filling_of}
use Rattle.world_steps.specs.World.{Holder, WorldOf}
use Rattle.run_laws.specs.Shown.{Tied}
use Rattle.run_laws.proofs.Holding.{MemberHolds, member_holds}
use Rattle.run_laws.specs.Right.{WorldIsRight}
use Rattle.run_laws.proofs.Results.{told_outcome, told_value}

module _ (job : JobOf) (w : WorldOf) (tied : Tied job w) where
  abbrev v : View
  v = tied.view

  -- a Grant that was sent is a transfer of its task
  record IsTransferOf (g : Grant) (t : Task) : Type 0 where
    transfer : Transfer
    sent : transfer ∈ v.transfers
    grant : transfer.grant ≡ g
    task : transfer.content.task ≡ task_of t

  transfer_of : (g : Grant) (t : Task) → WasGranted job w.net g t → IsTransferOf g t
  transfer_of g t was =
      let s : GrantShown v.transfers was.to (record { seq = was.seq; grant = g; task = t; saved = was.saved }) =
      tied.shown.net (record {
        job = job.number;
        to = was.to;
        body = body.Grant (record { seq = was.seq; grant = g; task = t; saved = was.saved });
      })
      (got w.net was.at _ was.sent) in
      record { transfer = s.transfer; sent = s.sent; grant = s.grant; task = s.content.task }

  -- so a Result tells the outcome of each task that was granted under its name
  outcome_of_granted : (b : TaskResult) (to : ℕ) → result_to b.grant to (outcome_number b.outcome) ∈ v.results
      → (t : Task) → WasGranted job w.net b.grant t → b.outcome ≡ outcome_at job.program job.input t.place
  outcome_of_granted b to told t was =
      let u = transfer_of b.grant t was in
      told_outcome job v tied.run b.outcome t.place
      (told_value job v tied.run b.grant to (outcome_number b.outcome) u.transfer told u.sent u.grant
      ∙ ap (λ (x : tables.Task). (tables_meaning job).value x.place) u.task)

  -- and there is one
  made : (p : PacketOf) (b : GrantBody) (g : Grant) → p.job ≡ job.number → p.body ≡ body.Grant b → b.grant ≡ g
      → p ≡ record {
        job = job.number;
        to = p.to;
        body = body.Grant (record { seq = b.seq; grant = g; task = b.task; saved = b.saved });
      }
  made p b g own is of =
      ap (λ (j : ℕ). let x : PacketOf = record { job = j; to = p.to; body = p.body } in x) own
      ∙ ap (λ (k : Body). let x : PacketOf = record { job = job.number; to = p.to; body = k } in x) is
      ∙ ap (λ (k : Grant). let x : PacketOf =
      record {
        job = job.number;
        to = p.to;
        body = body.Grant (record { seq = b.seq; grant = k; task = b.task; saved = b.saved });
      } in x) of

  granted_by : (g : Grant) (u : Transfer) → u.grant ≡ g → u.hop ≡ 0 → (s : IsSent job.number w.net u) → (x : Body)
      → s.packet.body ≡ x → Carries u x → BodyShown v s.packet.to x → (t : Task) × WasGranted job w.net g t
  granted_by g u of first s (body.Grant b) is (same, seq, hop, task) shown =
      let p = placed w.net s.packet s.there in (
        b.task,
        record {
          at = p.at;
          to = s.packet.to;
          seq = b.seq;
          saved = b.saved;
          sent = p.is ∙ ap Some (made s.packet b g s.job_is is (same ∙ of));
        },
      )
  granted_by g u of first s (body.Offer b) is (same, hop) shown =
      let o : OfferShown v.transfers s.packet.to b = shown in
      let a : o.transfer.hop ≡ suc o.before = o.later in
      let c : o.transfer.hop ≡ b.hop = o.hop in
      absurd (omega (arith, a, c, hop, first))
  granted_by g u of first s (body.Join b) is carries shown = absurd carries
  granted_by g u of first s (body.Roster b) is carries shown = absurd carries
  granted_by g u of first s (body.Steal b) is carries shown = absurd carries
  granted_by g u of first s (body.Refuse b) is carries shown = absurd carries
  granted_by g u of first s (body.Result b) is carries shown = absurd carries
  granted_by g u of first s (body.ResultAck b) is carries shown = absurd carries
  granted_by g u of first s (body.OfferAck b) is carries shown = absurd carries
  granted_by g u of first s (body.Leave b) is carries shown = absurd carries
  granted_by g u of first s (body.Abort b) is carries shown = absurd carries
  granted_by g u of first s (body.Beat b) is carries shown = absurd carries
  granted_by g u of first s (body.Piece b) is carries shown = absurd carries
  granted_by g u of first s (body.Save b) is carries shown = absurd carries

  some_granted : (b : TaskResult) (to : ℕ) → result_to b.grant to (outcome_number b.outcome) ∈ v.results
      → (t : Task) × WasGranted job w.net b.grant t
  some_granted b to told =
      let names = names_reached (run_reached tied.run) in
      let granted : Granted v.transfers b.grant =
      names.result_granted (result_to b.grant to (outcome_number b.outcome)) told in
      by_first (grant_of_transfer v names b.grant granted)
    where
      by_first : ((i : ℕ) × SentTo v.transfers b.grant 0 i) → (t : Task) × WasGranted job w.net b.grant t
      by_first (i, f) = let s = tied.shown.sent f.transfer f.sent in granted_by b.grant f.transfer f.grant f.hop s
          s.packet.body refl s.carries (tied.shown.net s.packet s.there)

  body_agrees : (x : Body) (to : ℕ) → BodyIsRight job x → BodyShown v to x → BodyAgrees job w.net x
  body_agrees (body.Grant b) to right shown = (right.0, right.1)
  body_agrees (body.Result b) to right shown = (some_granted b to shown, outcome_of_granted b to shown)
  body_agrees (body.Offer b) to right shown = right.agrees
  body_agrees (body.Join b) to right shown = tt
  body_agrees (body.Roster b) to right shown = tt
  body_agrees (body.Steal b) to right shown = tt
  body_agrees (body.Refuse b) to right shown = tt
  body_agrees (body.ResultAck b) to right shown = tt
  body_agrees (body.OfferAck b) to right shown = tt
  body_agrees (body.Leave b) to right shown = tt
  body_agrees (body.Abort b) to right shown = tt
  body_agrees (body.Beat b) to right shown = tt
  body_agrees (body.Piece b) to right shown = absurd shown
  body_agrees (body.Save b) to right shown = right

  module _ (right : WorldIsRight job w) where
    pub held_agrees : (a : ℕ) (g : Grant) → (at : Holder w a g) → ContentAgrees job at.sub.content
    held_agrees a g at =
        let m : MemberHolds at.node g at.sub = member_holds at.node g at.sub at.live in
        ((right.nodes a at.node at.up).subs at.sub (found_among _ at.sub at.node.subs m.held)).content.agrees

    pub known_agrees : (a : ℕ) (g : Grant) → (at : Holder w a g) → AllSavedAgree job at.sub.saved
    known_agrees a g at =
        let m : MemberHolds at.node g at.sub = member_holds at.node g at.sub at.live in
        ((right.nodes a at.node at.up).subs at.sub (found_among _ at.sub at.node.subs m.held)).saved

    pub packet_agrees : (p : PacketOf) → p ∈ w.net → BodyAgrees job w.net p.body
    packet_agrees p m = body_agrees p.body p.to (right.net p m) (tied.shown.net p m)

-- and what is saved on the disk, whatever a crash leaves of it
pub stored_agrees : (job : JobOf) (w : WorldOf) → Tied job w → StoredAgree job w.disk
stored_agrees job w tied content left n r reads =
    let disk = tied.shown.disk in
    subst (λ (x : CheckpointRecord). AllSavedAgree job x.saved)
    (sym (one_store content reads.0 disk.keeps.slot n disk.sequence r disk.found reads.1
    (disk.keeps.each content left)).2) disk.saved

pub received : (job : JobOf) (w : WorldOf) → WorldIsRight job w → (i : ℕ) (f : Fill) → slice_get w.fills i ≡ Some f
    → IsReceived job (filling_of f)
received job w right i f e = right.fills f (got w.fills i f e)
