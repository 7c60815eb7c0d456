-- The rule over the word, the slot and all seats' views, and what a step does to the view of the
-- seat that takes it.
use Rattle.std.specs.Prelude.{◌≡◌, ◌≢◌, ◌⊎◌, ℕ, ◌+◌, ◌<◌, ◌≤◌, ◌==◌, MatchBool, List, [], ◌∷◌, ◌++◌, length, slice_index, sum_by, IfSome, Option, None, Some}
use mathlib.Core.Option.{none, some}
use lib.ListN.{get_elem?}
use Rattle.atomic_table.specs.Table.{State, Me, Step}
use Rattle.turn_lock.specs.declared.law.SeatView.{SeatView}
use Rattle.turn_lock.specs.declared.law.Terms.{Terms}
use Rattle.turn_lock.specs.Histories.{own}
use Rattle.turn_lock.specs.Claims.{ClaimOf, times_below, empty_claims, times_claimed, first_of, rest_of, AreOwn, updated}

module _ {E A : Type 0} where
  abbrev pub seat_view : List (ClaimOf E) → Option (List E) → Option A → ℕ → SeatView E A
  seat_view claims taken fixed actors = record { claims = claims; taken = taken; fixed = fixed; actors = actors }

  -- all actors, each with no entries
  abbrev pub first_view : Terms A → SeatView E A
  first_view terms = seat_view (empty_claims 0 terms.actors) None (Some terms.fixed) terms.actors

  -- nobody, and nothing known
  abbrev pub no_view : SeatView E A
  no_view = seat_view [] None None 0

  -- what is left where the first actor is dealt, and what is dealt
  abbrev pub left_of : SeatView E A → SeatView E A
  left_of v = seat_view (rest_of v.claims) v.taken v.fixed v.actors

  abbrev pub dealt_of : SeatView E A → SeatView E A
  dealt_of v = seat_view (first_of v.claims) None v.fixed v.actors

  -- the actors of two views
  abbrev pub gathered : SeatView E A → SeatView E A → SeatView E A
  gathered v w = seat_view (w.claims ++ v.claims) None v.fixed v.actors

  -- nobody has the value, or nobody but this seat
  abbrev pub TakenByNone : List (SeatView E A) → Type 0
  TakenByNone views = (seat : ℕ) (v : SeatView E A) → get_elem? views seat ≡ some v → v.taken ≡ None

  abbrev pub TakenOnlyBy : ℕ → List (SeatView E A) → Type 0
  TakenOnlyBy by views = (seat : ℕ) (v : SeatView E A) → get_elem? views seat ≡ some v → seat ≢ by → v.taken ≡ None

  -- what a view knows of the lock is right
  abbrev pub Knows : Terms A → SeatView E A → Type 0
  Knows terms v = IfSome v.fixed (λ a. a ≡ terms.fixed) × (0 < v.actors → v.actors ≡ terms.actors)

  abbrev pub EachKnows : Terms A → List (SeatView E A) → Type 0
  EachKnows terms views = (seat : ℕ) (v : SeatView E A) → get_elem? views seat ≡ some v → Knows terms v

  -- what each view claims is what the history has of its actors
  abbrev pub EachOwn : (E → ℕ) → List (SeatView E A) → List E → Type 0
  EachOwn actor_of views log = (seat : ℕ) (v : SeatView E A) → get_elem? views seat ≡ some v → AreOwn actor_of v.claims log

-- the value is in the slot, and has this history
pub record IsHome {D E A : Type 0} (history : D → List E) (fixed_of : D → A) (terms : Terms A) (s : State (Option D) (SeatView E A)) (log : List E) : Type 0 where
  pub word : slice_index s.words 0 ≡ 0
  pub kept : D
  pub homes : s.homes ≡ some (Some kept) ∷ []
  pub logged : history kept ≡ log
  pub same : fixed_of kept ≡ terms.fixed
  pub untaken : TakenByNone s.views

-- the value is out with the seat of the actor that the word names, and had this history when it was
-- taken
pub record IsOut {D E A : Type 0} (s : State (Option D) (SeatView E A)) (log : List E) : Type 0 where
  pub holder : ℕ
  pub word : slice_index s.words 0 ≡ holder + 1
  pub homes : s.homes ≡ none ∷ []
  pub by : ℕ
  pub view : SeatView E A
  pub at : get_elem? s.views by ≡ some view
  pub claimed : 0 < times_claimed holder view.claims
  pub took : view.taken ≡ Some log
  pub untaken : TakenOnlyBy by s.views

module _ {D E A : Type 0} (history : D → List E) (actor_of : E → ℕ) (fixed_of : D → A) where
  -- The rule: the history in the slot, or else the one that was taken, has for each actor just what
  -- its view claims. Each of the lock's actors is claimed once, and nobody else is; nor has the
  -- history entries of anybody else
  pub record Accounted (terms : Terms A) (s : State (Option D) (SeatView E A)) : Type 0 where
    pub one_word : length s.words ≡ 1
    pub log : List E
    pub stands : IsHome history fixed_of terms s log ⊎ IsOut s log
    pub told : EachOwn actor_of s.views log
    pub known : EachKnows terms s.views
    pub each_once : (a : ℕ) → sum_by (λ v. times_claimed a v.claims) s.views ≡ times_below terms.actors a
    pub many : sum_by (λ v. length v.claims) s.views ≡ terms.actors
    pub no_others : (a : ℕ) → terms.actors ≤ a → own actor_of a log ≡ []

  -- the value left the slot for the seat, whose view has its history
  abbrev pub TakesOut : Me (Option D) (SeatView E A) → Me (Option D) (SeatView E A) → Type 0
  TakesOut before after = (kept : D) × (after ≡ (seat_view before.0.claims (Some (history kept)) before.0.fixed before.0.actors, (0, Some kept) ∷ before.1))
      × AreOwn actor_of before.0.claims (history kept) × IfSome before.0.fixed (λ a. a ≡ fixed_of kept)

-- the word found names an actor that this seat doesn't stand for, and nothing changes
abbrev pub FindsOut : {D E A : Type 0} → Me (Option D) (SeatView E A) → ℕ → Me (Option D) (SeatView E A) → Type 0
FindsOut before found after = (holder : ℕ) × (found ≡ holder + 1) × (after ≡ before) × (times_claimed holder before.0.claims ≡ 0) × (0 < before.0.actors → holder < before.0.actors)

-- a try to take the value: where the word was 0, it is taken
abbrev pub Takes : {D E A : Type 0} → (D → List E) → (E → ℕ) → (D → A) → Step (Option D) → Me (Option D) (SeatView E A) → ℕ → Me (Option D) (SeatView E A) → Type 0
Takes history actor_of fixed_of step before found after = MatchBool (found == 0) (TakesOut history actor_of fixed_of before after) (FindsOut before found after)

-- the history of the value that a seat brings back
abbrev pub brought : {D E : Type 0} → (D → List E) → List (ℕ × Option D) → List E
brought history [] = []
brought history ((k, None) ∷ rest) = []
brought history ((k, Some kept) ∷ rest) = history kept

-- the value is in the slot again, and the view claims for its actors what the history has of them
abbrev pub Puts : {D E A : Type 0} → (D → List E) → (E → ℕ) → Step (Option D) → Me (Option D) (SeatView E A) → ℕ → Me (Option D) (SeatView E A) → Type 0
Puts history actor_of step before found after = after ≡ (seat_view (updated actor_of (brought history before.1) before.0.claims) None before.0.fixed before.0.actors, [])

-- a new view, that stands for nobody
abbrev pub Comes : {D E A : Type 0} → Step (Option D) → Me (Option D) (SeatView E A) → ℕ → Me (Option D) (SeatView E A) → Type 0
Comes step before found after = after.0 ≡ no_view
