-- Contents and fills: each empty slot has one debtor, and what was filled stays full wherever its
-- work goes.
use Rattle.std.specs.Prelude.{◌≡◌, ℕ, List, [], ◌∷◌, Some}
use Rattle.ids.specs.Names.{Grant}
use Rattle.table_laws.specs.Tables.{◌∈◌}
use Rattle.table_laws.specs.Content.{Content, Sound, Closed, Fill}
use Rattle.table_laws.specs.View.{Transfer, Sub, Works, View}
use Rattle.table_laws.specs.Facts.{Granted, Head}

-- two fills are of one slot
pub record SameSlot (x y : Fill) : Type 0 where
  pub grant : x.grant ≡ y.grant
  pub frame : x.frame ≡ y.frame
  pub slot : x.slot ≡ y.slot

-- no two of the fills are of one slot
abbrev pub Once : List Fill → Type 0
Once [] = Unit {0}
Once (x ∷ fills) = ((y : Fill) → y ∈ fills → SameSlot x y → ⊥) × Once fills

pub record Fills (v : View) : Type 0 where
  -- the contents of subs and of transfers are sound
  pub subs_sound : (i : ℕ) (g : Grant) (s : Sub) → Works (v.mode i) → v.subs i g ≡ Some s → Sound s.content
  pub sent_sound : (t : Transfer) → t ∈ v.transfers → Sound t.content
  -- a fill is of a grant that was granted, and closed in its head
  pub fill_granted : (x : Fill) → x ∈ v.fills → Granted v.transfers x.grant
  pub fill_closed : (x : Fill) (c : Content) → x ∈ v.fills → Head v x.grant c → Closed c x.frame x.slot
  -- no slot is filled twice
  pub once : Once v.fills
