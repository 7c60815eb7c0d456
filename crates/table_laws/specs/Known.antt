-- Thieves are known: a worker lists each thief that it has answered.
use Rattle.std.specs.Prelude.{◌≡◌, ℕ, Some, None}
use Rattle.table_laws.specs.View.{Unlisted, Roster, Reply, Joining, House, Works, View}

pub record Known (v : View) : Type 0 where
  -- who joins has answered nobody
  pub joins_unkept : (i j : ℕ) → v.mode i ≡ Joining → v.kept i j ≡ None
  -- the thief of a kept reply is listed in the roster that its victim keeps
  pub thief_listed : (i j : ℕ) (reply : Reply) (r : Roster) → Works (v.mode i) → (v.mode i ≡ House → ⊥) → v.kept i j ≡ Some reply → v.roster i ≡ Some r → r.status j ≡ Unlisted → ⊥
