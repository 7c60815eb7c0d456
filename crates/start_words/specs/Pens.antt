-- What a pen keeps.
use Rattle.std.specs.Prelude.{◌≡◌, ℕ, ◌^◌, ◌≤◌, [], length}
use Rattle.atomic_table.specs.declared.shared.Seat.{Seat}
use Rattle.start_words.specs.declared.law.Hand.{Hand}

-- one part, no slot, and a count of the numbers drawn, at most 2^32
pub record IsPen (seat : Seat (Unit {0}) Hand) (draws : ℕ) : Type 0 where
  pub part : seat.me.0.parts ≡ 1
  pub no_slot : seat.me.1 ≡ []
  pub counted : draws ≡ length seat.me.0.drawn
  pub within : draws ≤ 2 ^ 32
