-- Nothing is lost, by the open house's roster.
use Rattle.std.proofs.Common.{◌≡◌, ℕ, Some, refl, arith}
use Rattle.ids.specs.Names.{Grant}
use Rattle.table_laws.specs.View.{Roster, Sub, View}
use Rattle.table_laws.specs.Facts.{SaidTo, is_dead, is_gone, is_behind, Lost, Live, live_at}
use Rattle.table_laws.specs.Acts.{ReachedInTables}
use Rattle.table_laws.specs.Cases.{alive, awaited, frozen, cut_off, Case}
use Rattle.table_laws.specs.Rosters.{Rosters}
use Rattle.table_laws.specs.Recovery.{CutOff, dead, gone, behind, Comes, from_holder, from_thief, from_leaver, from_redo}
use Rattle.table_laws.proofs.RostersReached.{rosters_reached}
use Rattle.table_laws.proofs.CasesReached.{cases_reached}

-- who is lost to the open house is cut off from it
lost_cut : (v : View) → Rosters v → (house : Roster) (i : ℕ) → v.house ≡ Some house → Lost v house i → CutOff v house i
lost_cut v k house i open_now (is_dead e) = dead e
lost_cut v k house i open_now (is_gone e f) = gone (λ heir x. f (k.house_left house i heir open_now x)) e
lost_cut v k house i open_now (is_behind r e f) =
    behind (λ heir x. said heir (k.house_left house i heir open_now x)) r e f
  where
    said : (heir : ℕ) → SaidTo v.leaves i house.epoch → ⊥
    said heir a =
        let own : a.leave.epoch ≡ r.epoch = k.leave_epoch a.leave r a.sent (rw a.from e) in
        let is = a.epoch_is in
        omega (arith, own, is, f)

comes : (v : View) → Rosters v → (house : Roster) (g k : Grant) → v.house ≡ Some house → Case v g k → Comes v house g k
comes v r house g k open_now (alive i s here) = from_holder i s here
comes v r house g k open_now (awaited t m e f w p) = from_thief t m e f w p
comes v r house g k open_now (frozen i heir s e f x) = from_leaver i heir s e f x
comes v r house g k open_now (cut_off i m x) =
    from_redo i (lost_cut v r house i open_now (r.lost_true house i open_now m)) x

pub record_comes : (v : View) (house : Roster) (i : ℕ) (g k : Grant) (s : Sub) (n : ℕ) → ReachedInTables v
    → v.house ≡ Some house → Live v i g s → s.content.granted n ≡ Some k → Comes v house g k
record_comes v house i g k s n reached open_now here e =
    comes v (rosters_reached reached) house g k open_now
    ((cases_reached reached).record_case g k s.content n (live_at i s here refl) e)

pub root_comes : (v : View) (house : Roster) (k : Grant) → ReachedInTables v → v.house ≡ Some house → v.root ≡ Some k
    → Comes v house k k
root_comes v house k reached open_now e =
    comes v (rosters_reached reached) house k k open_now ((cases_reached reached).root_case k e)
