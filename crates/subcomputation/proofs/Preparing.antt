-- What is prepared of a subcomputation tells what became ready, and keeps what is kept.
use Rattle.std.proofs.Common.{◌≡◌, ◌∙◌, ℕ, ◌<◌, Bool, true, false, cond, Option, Some, None, Result, Ok, Err, refl, sym, ap, subst}
use Rattle.ids.specs.Names.{Grant}
use Rattle.ids.specs.Naming.{name_of_frame, name_of_record}
use Rattle.ids.specs.Ordered.{AreInOrder}
use Rattle.ids.specs.declared.outcome.Outcome.{Outcome}
use Rattle.ids.specs.declared.outcome.Progress.TheVariants.{Active}
use Rattle.ids.specs.declared.work.Frame.{Frame}
use Rattle.ids.specs.declared.work.Record.{Record}
use Rattle.task_tree.specs.declared.tree.Program.{Program}
use Rattle.kind_check.specs.Total.{TurnFits}
use Rattle.body_eval.specs.Done.{DoneOf}
use Rattle.frames.specs.Frames.{frame_in}
use Rattle.victim_records.specs.Records.{record_in}
use Rattle.sub_rules.specs.declared.change.ContentChange.{ContentChange}
use Rattle.sub_rules.specs.declared.change.SubError.{SubError}
use Rattle.sub_rules.specs.declared.change.SubError.TheVariants.{Stale}
use Rattle.sub_rules.specs.declared.content.Content.{Content}
use Rattle.sub_rules.specs.declared.updates.Prepared.{Prepared}
use Rattle.sub_rules.specs.Carrying.{exec_content, executed}
use Rattle.sub_rules.specs.Resuming.{Known}
use Rattle.sub_rules.specs.Changes.{closed_in}
use Rattle.sub_rules.specs.Debts.{IsSound}
use Rattle.sub_rules.specs.Readiness.{TellsReady}
use Rattle.sub_rules.specs.Updates.{change_by, updated, IsPreparedFor, IsPreparedIn, Leads}
use Rattle.sub_rules.proofs.Departures.{frame_goes_on, record_goes_on}
use Rattle.subcomputation.specs.Fitting.{Fits}
use Rattle.subcomputation.specs.Subs.{SubOf}
use Rattle.subcomputation.specs.Told.{carried_out, changed, changed_by, changed_of, changed_of_some, HasNoOthers, MayChange}
use Rattle.subcomputation.proofs.Begun.{exec_begun, result_begun}
use Rattle.subcomputation.proofs.Fitting.{exec_fits, result_fits}
use Rattle.subcomputation.proofs.Telling.{exec_tells, result_tells, Tells}

-- what is prepared of a change
pub record Prepares (s : SubOf) (p : Prepared) (Turned : Program → Type 0) : Type 0 where
  pub may : MayChange s p
  pub ready : TellsReady s.content (changed_of s p).after.content p.ready
  pub records : HasNoOthers s.content.records (changed_of s p).after.content.records
  pub fits : (q : Program) → Fits q s.content → Turned q → Fits q (changed_of s p).after.content

-- by the change to which it leads
by_change : (s : SubOf) (p : Prepared) (change : ContentChange) (Turned : Program → Type 0)
    → s.content.progress ≡ Active → Leads s.content p change → Tells s.content change → 0 < change.after.next
    → ((q : Program) → Fits q s.content → Turned q → Fits q change.after) → Prepares s p Turned
by_change s p change Turned active leads tells begun fits = record {
  may = record {
    may = leads.may;
    begun = record {
      sound = leads.sound;
      begun = subst (λ (ch : ContentChange). 0 < ch.after.next) (sym leads.same) begun;
    };
    active = active;
  };
  ready = subst (λ (ch : ContentChange). TellsReady s.content ch.after ch.ready) (sym leads.same) tells.ready;
  records = subst (λ (ch : ContentChange). HasNoOthers s.content.records ch.after.records)
      (sym leads.same) tells.records;
  fits = λ q here turned. subst (λ (ch : ContentChange). Fits q ch.after) (sym leads.same) (fits q here turned);
}

-- ---- a frame is carried out
exec_active : (known : Known) (c : Content) (d : DoneOf) (n : ℕ) (change : ContentChange) → IsSound c
    → exec_content known d n c ≡ Ok change → c.progress ≡ Active
exec_active known c d n change sound is = by_frame (frame_in n c.frames) refl is
  where
    by_frame : (o : Option Frame) → frame_in n c.frames ≡ o → executed known d c o ≡ Ok change → c.progress ≡ Active
    by_frame None there at = cc
    by_frame (Some f) there at = (frame_goes_on c.progress n f c.frames c.records there sound.owed).0

pub exec_prepares : (known : Known) (s : SubOf) (d : DoneOf) (n : ℕ) (p : Prepared) → IsSound s.content
    → 0 < s.content.next → AreInOrder name_of_frame s.content.frames
    → IsPreparedFor s.content (exec_content known d n s.content) (Ok p) → Prepares s p (λ q. TurnFits q d.turn)
exec_prepares known s d n p sound begun order prepared =
    let change = prepared.0 in
    let is = prepared.1 in
    by_change s p change (λ q. TurnFits q d.turn) (exec_active known s.content d n change sound is) prepared.2
    (exec_tells known s.content s.content d n change refl sound order is)
    (exec_begun known s.content s.content d n change refl is begun)
    (λ q fits turn. exec_fits known q s.content s.content d n change refl is fits turn)

pub exec_answers : (known : Known) (s : SubOf) (d : DoneOf) (n : ℕ) (p : Prepared)
    → IsPreparedFor s.content (exec_content known d n s.content) (Ok p)
    → carried_out s (exec_content known d n s.content) ≡ Ok (changed_of s p)
exec_answers known s d n p prepared =
    ap (carried_out s) prepared.1 ∙ ap (λ (ch : ContentChange). Ok (changed s ch)) (sym prepared.2.same)

-- ---- an outcome comes
pub record ResultIs (s : SubOf) (g : Grant) (o : Outcome) (p : Prepared) : Type 0 where
  pub change : ContentChange
  pub is : Some change ≡ closed_in o s.content (record_in g s.content.records)
  pub leads : Leads s.content p change

pub result_is : (s : SubOf) (g : Grant) (o : Outcome) (p : Prepared)
    → IsPreparedIn s.content (closed_in o s.content (record_in g s.content.records)) (Some p) → ResultIs s g o p
result_is s g o p prepared = by_change_of (closed_in o s.content (record_in g s.content.records)) refl prepared
  where
    by_change_of : (x : Option ContentChange) → closed_in o s.content (record_in g s.content.records) ≡ x
        → IsPreparedIn s.content x (Some p) → ResultIs s g o p
    by_change_of None is prepared = absurd prepared
    by_change_of (Some change) is prepared = record { change = change; is = sym is; leads = prepared }

result_active : (c : Content) (g : Grant) (o : Outcome) (change : ContentChange) → IsSound c
    → Some change ≡ closed_in o c (record_in g c.records) → c.progress ≡ Active
result_active c g o change sound is = by_record (record_in g c.records) refl is
  where
    by_record : (x : Option Record) → record_in g c.records ≡ x → Some change ≡ closed_in o c x → c.progress ≡ Active
    by_record None there at = cc
    by_record (Some x) there at = (record_goes_on c.progress g x c.frames c.records there sound.owed).0

pub result_prepares : (s : SubOf) (g : Grant) (o : Outcome) (p : Prepared) → IsSound s.content → 0 < s.content.next
    → AreInOrder name_of_frame s.content.frames → AreInOrder name_of_record s.content.records
    → IsPreparedIn s.content (closed_in o s.content (record_in g s.content.records)) (Some p)
    → Prepares s p (λ q. Unit {0})
result_prepares s g o p sound begun frames records prepared =
    let result = result_is s g o p prepared in
    by_change s p result.change (λ q. Unit {0}) (result_active s.content g o result.change sound result.is) result.leads
    (result_tells s.content s.content g o result.change refl sound frames records result.is)
    (result_begun s.content g o result.change result.is begun)
    (λ q fits turned. result_fits q s.content s.content g o result.change refl result.is fits)

pub result_answers : (s : SubOf) (g : Grant) (o : Outcome) (x : Option Prepared)
    → IsPreparedIn s.content (closed_in o s.content (record_in g s.content.records)) x
    → changed_of_some s x ≡ changed_by s (closed_in o s.content (record_in g s.content.records))
result_answers s g o x prepared = by_both x (closed_in o s.content (record_in g s.content.records)) prepared
  where
    by_both : (x : Option Prepared) (y : Option ContentChange) → IsPreparedIn s.content y x
        → changed_of_some s x ≡ changed_by s y
    by_both None None prepared = refl
    by_both None (Some change) prepared = absurd prepared
    by_both (Some p) None prepared = absurd prepared
    by_both (Some p) (Some change) prepared = ap (λ (ch : ContentChange). Some (changed s ch)) prepared.same
