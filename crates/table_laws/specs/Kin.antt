-- Records and parent hosts: where the outcome of a record's grant goes to, the record is.
use Rattle.std.specs.Prelude.{◌≡◌, ℕ, Some}
use Rattle.ids.specs.Names.{Grant}
use Rattle.table_laws.specs.Tables.{◌∈◌}
use Rattle.table_laws.specs.Content.{Content}
use Rattle.table_laws.specs.View.{Left, Roster, View}
use Rattle.table_laws.specs.Facts.{Head, Cont, Host, Path}

pub record Kin (v : View) : Type 0 where
  -- contents of one grant only have a record of k
  pub one_record : (g h k : Grant) (c d : Content) (n m : ℕ) → Cont v g c → Cont v h d → c.granted n ≡ Some k → d.granted m ≡ Some k → g ≡ h
  -- where a head of g has a record of k, each parent host of k is on the path of g
  pub on_path : (g k : Grant) (c : Content) (n i : ℕ) → Head v g c → c.granted n ≡ Some k → Host v k i → Path v g i
  -- no head has a record of what is settled
  pub unsettled : (g k : Grant) (c : Content) (n : ℕ) → k ∈ v.settled → Head v g c → c.granted n ≡ Some k → ⊥
  -- where one on the path of g is shown left, and g has a head, who has its work is on the path too
  pub left_path : (roster : Roster) (i h : ℕ) (g : Grant) (c : Content) → roster ∈ v.rosters → roster.status i ≡ Left h → Path v g i → Head v g c → Path v g h
