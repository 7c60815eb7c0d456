-- Heirs: whom a roster lists, it leads to one who is live or dead; so heirs go in no circle.
use Rattle.std.specs.Prelude.{◌≡◌, ℕ, suc, Some}
use Rattle.table_laws.specs.Tables.{◌∈◌}
use Rattle.table_laws.specs.View.{Unlisted, Live, Dead, Left, Roster, View}

-- following the heirs of a roster from i, one who is live or dead is there after at most so many
-- steps
pub data EndsIn (roster : Roster) : ℕ → ℕ → Type 0 where
  lives : (most i : ℕ) → roster.status i ≡ Live → EndsIn roster most i
  died : (most i : ℕ) → roster.status i ≡ Dead → EndsIn roster most i
  passes : (most i heir : ℕ) → roster.status i ≡ Left heir → EndsIn roster most heir → EndsIn roster (suc most) i

-- from each listed member this takes at most as many steps as members are shown left
abbrev pub AllEnd : Roster → Type 0
AllEnd roster = (i : ℕ) → (roster.status i ≡ Unlisted → ⊥) → EndsIn roster roster.left i

pub record Heirs (v : View) : Type 0 where
  -- in the rosters that houses had, and in the open house's
  pub had_end : (roster : Roster) → roster ∈ v.rosters → AllEnd roster
  pub house_ends : (house : Roster) → v.house ≡ Some house → AllEnd house
