-- Values: what contents hold, Results tell and houses record is what the serial meaning says.
use Rattle.std.specs.Prelude.{◌≡◌, ℕ, ℤ, [], Option, Some}
use Rattle.ids.specs.Names.{Grant}
use Rattle.table_laws.specs.Tables.{◌∈◌}
use Rattle.table_laws.specs.Content.{Return, Whole, Local, given, Content, Fill}
use Rattle.table_laws.specs.View.{Result, View}
use Rattle.table_laws.specs.Facts.{Cont}
use Rattle.table_laws.specs.Meaning.{Meaning, FitsMeaning}

pub record TablesAgree (m : Meaning) (c : Content) : Type 0 where
  -- the root task is the one that the meaning has at its place
  pub root : FitsMeaning m c.task.place c.task.thread (λ j. given c.task.numbers j)
  -- and so is each frame and record
  pub fits : (n : ℕ) (r : Return) → c.returns n ≡ Some r → FitsMeaning m (c.place n) (c.thread n) (c.slots n)
  -- its value is what its slot gets, or that of the root task
  pub owes : (n f j : ℕ) → c.returns n ≡ Some (Local f j) → m.slot (c.place f) j ≡ Some (m.value (c.place n))
  pub whole : (n : ℕ) → c.returns n ≡ Some Whole → m.value (c.place n) ≡ m.value c.task.place
  -- the outcome is the value of the root task
  pub over : (o : Option ℤ) → c.outcome ≡ Some o → o ≡ m.value c.task.place

-- a fill is of the value that its slot gets
abbrev pub FillAgrees : Meaning → Fill → Type 0
FillAgrees m x = m.slot x.place x.slot ≡ Some (Some x.value)

pub record Values (m : Meaning) (v : View) : Type 0 where
  -- the contents of subs and of transfers agree
  pub agree : (g : Grant) (c : Content) → Cont v g c → TablesAgree m c
  -- a Result tells the value of its grant's task
  pub results_agree : (x : Result) (c : Content) → x ∈ v.results → Cont v x.grant c → x.outcome ≡ m.value c.task.place
  -- so do fills and the recorded outcome
  pub fills_agree : (x : Fill) → x ∈ v.fills → FillAgrees m x
  pub stored_agrees : (o : Option ℤ) → v.stored ≡ Some o → o ≡ m.value []
