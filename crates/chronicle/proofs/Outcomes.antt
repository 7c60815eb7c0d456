-- The first outcome that is told.
use Rattle.std.proofs.Common.{◌≡◌, ℕ, suc, ◌+◌, ◌<◌, List, [], ◌∷◌, map, drop, get_or, length, Option, None, Some, IfSome, slice_get, refl, sym, ap, ◌∙◌, arith}
use Rattle.std.proofs.Math.Seq.{drop-cons}
use Rattle.ids.specs.declared.outcome.Outcome.{Outcome}
use Rattle.disk.specs.Device.{Device}
use Rattle.serial_meaning.specs.Job.{JobOf, meaning_of}
use Rattle.world_steps.specs.Agrees.{StoredAgree}
use Rattle.world_steps.specs.Calls.{told_of}
use Rattle.world_steps.specs.Runs.{Runs, ends, goes}
use Rattle.world_steps.specs.Runs.{Entry as RunEntry}
use Rattle.world_steps.specs.Safe.{SafeWorld}
use Rattle.world_steps.specs.World.{WorldOf, first_over}
use Rattle.chronicle.specs.declared.kept.Entry.{Entry}
use Rattle.chronicle.specs.History.{IsSafeHistory, first_outcome, or_later, outcome_told, told_entry}
use Rattle.chronicle.proofs.Tellings.{told_recorded}

-- the entries from one of them on
pub next_entry : (es : List Entry) (i : ℕ) (e : Entry) → i < length es → e ≡ get_or es i e
    → drop i es ≡ e ∷ drop (i + 1) es
next_entry es i e within is =
    let next : suc i ≡ i + 1 = omega arith in
    drop-cons es i e within ∙ (ap (λ (x : Entry). x ∷ drop (suc i) es) (sym is) ∙ ap (λ (k : ℕ). e ∷ drop k es) next)

pub told_first : (left rest : List Entry) (e : Entry) (o : Outcome) (first : Option Outcome) → left ≡ e ∷ rest
    → first_outcome left ≡ first → outcome_told e.told ≡ Some o → Some o ≡ first
told_first left rest e o first front is told =
    sym (ap (λ (t : Option Outcome). or_later t (first_outcome rest)) told) ∙ (sym (ap first_outcome front) ∙ is)

pub told_later : (left rest : List Entry) (e : Entry) (first : Option Outcome) → left ≡ e ∷ rest
    → first_outcome left ≡ first → outcome_told e.told ≡ None → first_outcome rest ≡ first
told_later left rest e first front is told =
    sym (ap (λ (t : Option Outcome). or_later t (first_outcome rest)) told) ∙ (sym (ap first_outcome front) ∙ is)

module _ (job : JobOf) where
  all_meant : (w : WorldOf) (steps : List RunEntry) (worlds : List WorldOf) → Runs job w steps worlds
      → ((i : ℕ) (v : WorldOf) → slice_get worlds i ≡ Some v → SafeWorld job v)
      → (o : Outcome) → first_outcome (map told_entry steps) ≡ Some o → o ≡ meaning_of job
  all_meant w [] [] ends safe o is = absurd cc
  all_meant w [] (v ∷ worlds) ran safe o is = elim ran [ ]
  all_meant w (e ∷ steps) [] ran safe o is = elim ran [ ]
  all_meant w (e ∷ steps) (v ∷ worlds) (goes step rest) safe o is =
      by_first (λ later. all_meant v steps worlds rest (λ i u at. safe (suc i) u at) o later)
      (outcome_told (told_of e.answer)) refl is
    where
      by_first : (first_outcome (map told_entry steps) ≡ Some o → o ≡ meaning_of job) → (t : Option Outcome)
          → outcome_told (told_of e.answer) ≡ t → or_later t (first_outcome (map told_entry steps)) ≡ Some o
          → o ≡ meaning_of job
      by_first on None told at = on at
      by_first on (Some x) told at =
          let same : Some x ≡ Some o = at in
          (safe 0 v refl).outcome o (told_recorded job e.event w (record { world = v; answer = e.answer }) step o (told
          ∙ same))

  meant : (first : Option Outcome) → ((o : Outcome) → first ≡ Some o → o ≡ meaning_of job)
      → IfSome first (λ o. o ≡ meaning_of job)
  meant None f = tt
  meant (Some o) f = f o refl

  pub first_meant : (disk : Device) (entries : List Entry) (first : Option Outcome) → first ≡ first_outcome entries
      → IsSafeHistory job disk entries → StoredAgree job disk → IfSome first (λ o. o ≡ meaning_of job)
  first_meant disk entries first is h agree =
      meant first (λ o told. all_meant (first_over disk) h.history.steps h.history.worlds h.history.runs
      (λ i v at. (h.safe agree).safe.each (suc i) v at) o (ap first_outcome h.history.told ∙ (sym is ∙ told)))
