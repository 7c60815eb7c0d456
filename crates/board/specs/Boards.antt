-- A board and its notes, as callers see them.
use Rattle.std.specs.Prelude.{◌≡◌, ℕ, IfSome, List, Option, Some}
use Rattle.ids.specs.declared.outcome.Outcome.{Outcome}
use Rattle.saved_values.specs.declared.value.SavedValue.{SavedValue}
use Rattle.serial_meaning.specs.Job.{JobOf, meaning_of}
use Rattle.agreement_laws.specs.Agreement.{AllSavedAgree}

-- a board: which it is, its job, and the saved values with which that goes on
pub record BoardOf : Type 0 where
  pub board : ℕ
  pub job : JobOf
  pub saved : List SavedValue

-- an outcome is the job's meaning, where the values agree with which it goes on; where there are
-- none it is the meaning
abbrev pub IsMeant : JobOf → List SavedValue → Outcome → Type 0
IsMeant job saved o = AllSavedAgree job saved → o ≡ meaning_of job

-- a note: the board that it is of, and the outcome that it knows, if it knows one
pub record NoteOf : Type 0 where
  pub board : ℕ
  pub known : Option Outcome

-- if both know an outcome, it is the same one
abbrev pub Agree : Option Outcome → Option Outcome → Type 0
Agree one other = IfSome one (λ o. IfSome other (λ p. o ≡ p))

-- an outcome that was known is known afterwards
abbrev pub StaysKnown : Option Outcome → Option Outcome → Type 0
StaysKnown before after = IfSome before (λ o. after ≡ Some o)
