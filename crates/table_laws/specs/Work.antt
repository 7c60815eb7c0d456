-- Where there is work to do.
use Rattle.std.specs.Prelude.{◌≡◌, ℕ, ℤ, ◌⊎◌, Option, Some, None}
use Rattle.ids.specs.Names.{Grant}
use Rattle.table_laws.specs.Content.{Content, Return, Empty}
use Rattle.table_laws.specs.View.{Sub, View}
use Rattle.table_laws.specs.Facts.{Live}

-- g is wanted: it is the root record's grant, or a live sub of a wanted grant has a record of it
pub data Wanted (v : View) : Grant → Type 0 where
  as_root : (k : Grant) → v.root ≡ Some k → Wanted v k
  as_record : (g k : Grant) (i : ℕ) (s : Sub) (n : ℕ) → Wanted v g → Live v i g s → s.content.granted n ≡ Some k → Wanted v k

-- a frame without an empty slot
pub record ReadyInTables (c : Content) : Type 0 where
  pub frame : ℕ
  pub returns : Return
  pub there : c.returns frame ≡ Some returns
  pub unstolen : c.granted frame ≡ None
  pub full : (j : ℕ) → c.slots frame j ≡ Empty → ⊥

-- somebody holds it live
pub record HasHolder (v : View) (g : Grant) : Type 0 where
  pub name : ℕ
  pub sub : Sub
  pub live : Live v name g sub

-- a wanted grant whose holder has a ready frame, or has finished
pub record Working (v : View) : Type 0 where
  pub grant : Grant
  pub wanted : Wanted v grant
  pub holder : HasHolder v grant
  pub work : ((o : Option ℤ) × (holder.sub.content.outcome ≡ Some o)) ⊎ ReadyInTables holder.sub.content
