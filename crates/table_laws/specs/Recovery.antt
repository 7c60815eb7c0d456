-- What nothing lost means: from where the work of an open record can still come.
use Rattle.std.specs.Prelude.{◌≡◌, ℕ, ◌<◌, ◌⊎◌, Some}
use Rattle.ids.specs.Names.{Grant}
use Rattle.table_laws.specs.Tables.{◌∈◌}
use Rattle.table_laws.specs.View.{Transfer, Dead, Left, Roster, Sub, Leaving, Works, View}
use Rattle.table_laws.specs.Facts.{Came, Live, ack_of, offer_of, request_of}

-- i is cut off from the house: dead in its roster; or not shown left there, and ended, down, or of
-- an earlier epoch
pub data CutOff (v : View) (house : Roster) (i : ℕ) : Type 0 where
  dead : house.status i ≡ Dead → CutOff v house i
  gone : ((heir : ℕ) → house.status i ≡ Left heir → ⊥) → (Works (v.mode i) → ⊥) → CutOff v house i
  behind : ((heir : ℕ) → house.status i ≡ Left heir → ⊥) → (roster : Roster) → v.roster i ≡ Some roster → roster.epoch < house.epoch → CutOff v house i

-- the record of k in a sub of g: somebody holds k live; or its thief waits for the Grant; or one
-- that departs holds it frozen, and its Offer isn't acknowledged; or it was sent to somebody, or g
-- was, who is cut off
pub data Comes (v : View) (house : Roster) (g k : Grant) : Type 0 where
  from_holder : (i : ℕ) (s : Sub) → Live v i k s → Comes v house g k
  from_thief : (t : Transfer) → t ∈ v.transfers → t.grant ≡ k → t.hop ≡ 0 → Works (v.mode t.to) → v.pending t.to ≡ Some (request_of t) → Comes v house g k
  from_leaver : (i heir : ℕ) (s : Sub) → v.mode i ≡ Leaving heir → v.subs i k ≡ Some s → (ack_of (offer_of i heir k s) ∈ v.acks → ⊥) → Comes v house g k
  from_redo : (i : ℕ) → CutOff v house i → (Came v.transfers k i) ⊎ (Came v.transfers g i) → Comes v house g k
