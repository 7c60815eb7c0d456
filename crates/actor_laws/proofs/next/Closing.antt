-- A Result closes the record of its grant, if one is open.
use Rattle.std.proofs.Common.{◌≡◌, ◌≢◌, ℤ, true, false, Option, None, Some, is_some, inl, inr, refl, sym, ap, ◌∙◌}
use Rattle.ids.specs.Names.{Grant}
use Rattle.ids.specs.Naming.{name_of_grant, name_of_record}
use Rattle.ids.specs.Ordered.{AreInOrder}
use Rattle.ids.specs.declared.outcome.Outcome.{Outcome}
use Rattle.ids.specs.declared.outcome.Outcome.TheVariants.{Value, TooDeep}
use Rattle.ids.specs.declared.returns.Return.{Return}
use Rattle.ids.specs.declared.returns.Return.TheVariants.{Whole, Local}
use Rattle.ids.specs.declared.work.Frame.{Frame}
use Rattle.ids.specs.declared.work.Record.{Record}
use Rattle.codec.specs.declared.body.Roster.{Roster}
use Rattle.codec.specs.declared.body.TaskResult.{TaskResult}
use Rattle.serial_meaning.specs.Job.{JobOf}
use Rattle.frames.specs.Frames.{frame_in}
use Rattle.victim_records.specs.Records.{record_in, without_record}
use Rattle.agreement_laws.proofs.Finding.{gone, put_or_there}
use Rattle.sub_rules.specs.Changes.{arrives, closed, filled_in}
use Rattle.sub_rules.specs.declared.content.Content.{Content}
use Rattle.subcomputation.specs.Subs.{SubOf, has_record, host_in, name_of_sub, sub_in, with_content}
use Rattle.subcomputation.proofs.Others.{found_by}
use Rattle.node_state.specs.Node.{NodeOf}
use Rattle.node_steps.specs.Cases.{returned}
use Rattle.node_steps.specs.Moves.{closes, closes_by}
use Rattle.node_steps.specs.Steps.{for_some}
use Rattle.table_laws.proofs.Among.{found_among}
use Rattle.content_laws.proofs.Apart.{own_grant}
use Rattle.actor_laws.proofs.node_moves.Hearing.{passes_test, unfound}
use Rattle.actor_laws.specs.standing.Standing.{HaveOneHost}
use Rattle.actor_laws.specs.next.Taking.{AnswerCloses, NoRecord}

-- what has no record
no_record : (o : Option Record) → is_some o ≡ false → o ≡ None
no_record None e = refl
no_record (Some r) e = cc

-- a value comes to a content that has none of a grant
arrives_without : (g : Grant) (x : Return) (v : ℤ) (c : Content) → record_in g c.records ≡ None
    → record_in g (arrives x v c).after.records ≡ None
arrives_without g Whole v c none = refl
arrives_without g (Local n j) v c none = by_frame (frame_in n c.frames)
  where
    by_frame : (o : Option Frame) → record_in g (filled_in j v c o).after.records ≡ None
    by_frame None = none
    by_frame (Some f) = none

-- a record that is closed is gone
closed_without : (g : Grant) (x : Record) (o : Outcome) (c : Content) → g ≡ x.grant
    → record_in g (closed x o c).after.records ≡ None
closed_without g x (Value v) c own =
    let none : record_in g (without_record x.grant c.records) ≡ None =
    rw own (gone name_of_record (name_of_grant x.grant) c.records) in
    arrives_without g x.returns v (record c { records = without_record x.grant c.records }) none
closed_without g x TooDeep c own = refl

module _ (job : JobOf) (r : Roster) (n : NodeOf) (order : AreInOrder name_of_sub n.subs) (one : HaveOneHost n.subs)
    (g : Grant) (o : Outcome) where
  closes_one : (s : SubOf) → sub_in s.grant n.subs ≡ Some s → (x : Record) → record_in g s.content.records ≡ Some x
      → NoRecord g (closes_by job r o s x n).after.subs
  closes_one s held x open_now k t there =
      elim (put_or_there name_of_sub (name_of_grant k) (with_content s (closed x o s.content).after) t n.subs there) [
        | inl both ↦ rw both.1 (closed_without g x o s.content (own_grant g x s.content.records open_now))
        | inr both ↦ by_record both.0 both.1 (record_in g t.content.records) refl
      ]
    where
      by_record : (name_of_grant k ≢ name_of_grant s.grant) → sub_in k n.subs ≡ Some t → (q : Option Record)
          → record_in g t.content.records ≡ q → q ≡ None
      by_record other was None e = refl
      by_record other was (Some y) e = absurd (other (ap name_of_grant (one k s.grant g t s y x was held e open_now)))

  closes_all : NoRecord g (closes job r g o n).after.subs
  unfolding for_some
  closes_all = by_host (host_in g n.subs) refl
    where
      by_record : (s : SubOf) → host_in g n.subs ≡ Some s → (q : Option Record) → record_in g s.content.records ≡ q
          → NoRecord g (for_some q (λ x. closes_by job r o s x) n).after.subs
      by_record s e None f =
          let has : has_record g s ≡ true = passes_test (has_record g) s n.subs e in
          let has_not : has_record g s ≡ false = ap is_some f in
          let two : true ≡ false = sym has ∙ has_not in
          cc
      by_record s e (Some x) f = closes_one s (found_by name_of_sub (has_record g) s n.subs order e) x f

      by_host : (q : Option SubOf) → host_in g n.subs ≡ q
          → NoRecord g (for_some q (λ s. for_some (record_in g s.content.records) (λ x. closes_by job r o s x))
          n).after.subs
      by_host None e = λ k t there. no_record (record_in g t.content.records)
          (unfound (has_record g) t n.subs e (found_among _ t n.subs there))
      by_host (Some s) e = by_record s e (record_in g s.content.records) refl

pub result_closes : (job : JobOf) (r : Roster) (b : TaskResult) (n : NodeOf) → AreInOrder name_of_sub n.subs
    → HaveOneHost n.subs → AnswerCloses b.grant (returned job r b n)
result_closes job r b n order one = closes_all job r n order one b.grant b.outcome
