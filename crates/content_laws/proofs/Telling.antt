-- A change of tables that has its cause is a move, with what it tells and settles.
use Rattle.std.proofs.Common.{◌≡◌, ℕ, List, [], Option, Some, inl, inr, refl, sym, ap, ◌∙◌}
use Rattle.ids.specs.Names.{Grant}
use Rattle.ids.specs.declared.outcome.Progress.{Progress}
use Rattle.ids.specs.declared.outcome.Progress.TheVariants.{Active, Finished}
use Rattle.sub_rules.specs.declared.change.Filling.{Filling}
use Rattle.sub_rules.specs.declared.content.Content.{Content}
use Rattle.table_laws.specs.Tables.{◌∈◌}
use Rattle.table_laws.specs.Content.{Content as Tables, SameWork}
use Rattle.table_laws.specs.View.{Result, Sub, View}
use Rattle.table_laws.specs.Facts.{Live, RecordOf}
use Rattle.table_laws.specs.Guards.{Alters}
use Rattle.table_laws.specs.Meaning.{Meaning}
use Rattle.table_laws.specs.Causes.{Cause}
use Rattle.table_laws.specs.Acts.{alters}
use Rattle.table_laws.proofs.SounderJoins.{cause_changes, cause_records}
use Rattle.content_laws.specs.Shown.{task_of, outcome_of, Shows}
use Rattle.content_laws.specs.Moved.{told_by, told, fill_of, IsMove}

-- the Result that is told is the content's own, for its parent host, with its outcome
record IsOwn (g : Grant) (host : ℕ) (p : Progress) (x : Result) : Type 0 where
  grant : x.grant ≡ g
  host_is : x.host ≡ host
  outcome : outcome_of p ≡ Some x.outcome

-- it is that of a finished content
told_own : (g : Grant) (host : ℕ) (p : Progress) (x : Result) → x ∈ told_by g host p → IsOwn g host p x
told_own g host Active x none = absurd none
told_own g host (Finished o) x (inl same) = rw same (record { grant = refl; host_is = refl; outcome = refl })
told_own g host (Finished o) x (inr none) = absurd none

-- the grants that a change settles were of records, and are of none afterwards
pub record Settles (t d : Tables) (gone : List Grant) : Type 0 where
  pub had : (k : Grant) → k ∈ gone → RecordOf t k
  pub lost : (k : Grant) → k ∈ gone → RecordOf d k → ⊥

-- which is nothing where there are none
pub settles_none : (t d : Tables) → Settles t d []
settles_none t d = record { had = λ k none. absurd none; lost = λ k none. absurd none }

-- what a change from c to e, of the same task for the same host, promises of records and Results
pub alters_told : (g : Grant) (t d : Tables) (c e : Content) (gone : List Grant) → Shows t c → Shows d e
    → e.parent ≡ c.parent → e.task ≡ c.task
    → ((n : ℕ) (k : Grant) → d.granted n ≡ Some k → (t.granted n ≡ Some k) × SameWork t d n) → Settles t d gone
    → Alters g t d (told g e) gone
alters_told g t d c e gone before after parent task stay settles = record {
  host = after.host ∙ parent ∙ sym before.host;
  task = after.task ∙ ap task_of task ∙ sym before.task;
  fewer = λ n k at. (stay n k at).0;
  keeps = λ n k at. (stay n k at).1;
  result_own = λ x at. (told_own g e.parent e.progress x at).grant;
  result_host = λ x at. (told_own g e.parent e.progress x at).host_is ∙ parent ∙ sym before.host;
  result_outcome = λ x at. after.outcome ∙ (told_own g e.parent e.progress x at).outcome;
  had = settles.had;
  lost = settles.lost;
}

-- so it is a move, where it has a cause
pub moved : (m : Meaning) (v : View) (i : ℕ) (g : Grant) (s : Sub) (c e : Content) (fill : Option Filling)
    (gone : List Grant) (d : Tables) → Live v i g s → Shows s.content c → Shows d e → e.parent ≡ c.parent
    → e.task ≡ c.task → Cause m v i g s.content d (fill_of g fill) → Settles s.content d gone
    → IsMove m v i g s e fill gone
moved m v i g s c e fill gone d live before after parent task cause settles = record {
  content = d;
  shown = after;
  move = alters i g s d (fill_of g fill) (told g e) gone live (cause_changes m v i g s.content d (fill_of g fill) cause)
      (alters_told g s.content d c e gone before after parent task
      (λ n k at. cause_records m v i g s.content d (fill_of g fill) cause n k at) settles);
  right = cause;
}
