-- What each seat keeps.
use Rattle.std.specs.Prelude.{◌≡◌, ℕ, ◌<◌, ◌≤◌, IfSome, List, [], ◌∷◌, Option, None, Some}
use Rattle.atomic_table.specs.declared.shared.Seat.{Seat}
use Rattle.turn_lock.specs.declared.law.SeatView.{SeatView}
use Rattle.turn_lock.specs.Histories.{own}
use Rattle.turn_lock.specs.Claims.{claim}

-- the slots that are out with a seat: the one slot while it has the value, and by then nothing is
-- in it
abbrev pub slots_of : {D E : Type 0} → Option (List E) → List (ℕ × Option D)
slots_of None = []
slots_of (Some log) = (0, None) ∷ []

-- it stands for its actor alone, which is one of the lock's; while it has the value, the slot is
-- out with it, and the history that it took has of its actor just its entries
pub record IsSeat {D E A : Type 0} (actor_of : E → ℕ) (seat : Seat (Option D) (SeatView E A)) (actor : ℕ) (entries : List E) : Type 0 where
  pub claims : seat.me.0.claims ≡ claim actor entries ∷ []
  pub below : actor < seat.me.0.actors
  pub few : seat.me.0.actors ≤ 1024
  pub slots : seat.me.1 ≡ slots_of seat.me.0.taken
  pub own : IfSome seat.me.0.taken (λ log. own actor_of actor log ≡ entries)
