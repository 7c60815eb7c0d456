-- Homes: the root's outcome goes to the house that minted it, every other one to a worker.
use Rattle.std.specs.Prelude.{◌≡◌, ℕ, true, false, ◌⊎◌, Some}
use Rattle.ids.specs.Names.{Grant}
use Rattle.table_laws.specs.Tables.{◌∈◌}
use Rattle.table_laws.specs.Content.{Content}
use Rattle.table_laws.specs.View.{Leave, Left, Roster, House, Leaving, Works, View}
use Rattle.table_laws.specs.Facts.{of_worker, Cont, Host}

pub record Homes (v : View) : Type 0 where
  -- who is up as the clearinghouse has a house's name, all others have workers' names; so have
  -- heirs and who left
  pub house_name : (i : ℕ) → v.mode i ≡ House → of_worker i ≡ false
  pub worker_name : (i : ℕ) → Works (v.mode i) → (v.mode i ≡ House → ⊥) → of_worker i ≡ true
  pub heir_name : (i heir : ℕ) → v.mode i ≡ Leaving heir → of_worker heir ≡ true
  pub leave_names : (l : Leave) → l ∈ v.leaves → (of_worker l.from ≡ true) × (of_worker l.heir ≡ true)
  pub left_names : (roster : Roster) (i h : ℕ) → roster ∈ v.rosters → roster.status i ≡ Left h → (of_worker i ≡ true) × (of_worker h ≡ true)
  -- a house is parent host of what it minted, and of nothing else
  pub home : (g : Grant) (i : ℕ) → Host v g i → (of_worker i ≡ false) ⊎ (of_worker g.minter ≡ false) → i ≡ g.minter
  -- a record's grant was minted by a worker
  pub record_minter : (g k : Grant) (c : Content) (n : ℕ) → Cont v g c → c.granted n ≡ Some k → of_worker k.minter ≡ true
