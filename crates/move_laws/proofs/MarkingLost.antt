-- Whom a verdict is about, or who believes it, turns out to be lost.
use Rattle.std.proofs.Common.{◌≡◌, ℕ, inl, inr, ⊎_elim, Option, None, Some, refl}
use Rattle.table_laws.specs.Tables.{◌∈◌}
use Rattle.table_laws.specs.View.{Dead, Roster, House, Works, View}
use Rattle.table_laws.specs.Facts.{Lost}
use Rattle.table_laws.specs.Acts.{ReachedInTables, marks_lost}
use Rattle.table_laws.proofs.NamesReached.{names_reached}
use Rattle.table_laws.proofs.HomesKept.{homes_reached}
use Rattle.table_laws.proofs.RostersKept.{verdict}
use Rattle.table_laws.proofs.RostersReached.{rosters_reached}
use Rattle.move_laws.specs.Listed.{MarkedLost}

pub marked_lost : (v : View) (i dead : ℕ) (r : Roster) → ReachedInTables v → Works (v.mode i) → (v.mode i ≡ House → ⊥)
    → v.roster i ≡ Some r → r.status dead ≡ Dead → MarkedLost v i dead
marked_lost v i dead r reached works worker keeps is = by_house v.house refl
  where
    listed : (dead ∈ v.used) × (v.mode dead ≡ House → ⊥)
    listed =
        let k = (rosters_reached reached).members r dead ((rosters_reached reached).kept_had i r keeps) (λ u. cc) in
        (k.0, λ house. (let name = (homes_reached reached).house_name dead house in let other = k.1 in cc))

    lost_dead : ((house : Roster) → v.house ≡ Some house → Lost v house dead) → MarkedLost v i dead
    lost_dead why = record {
      who = dead;
      act = marks_lost dead listed.0 listed.1 why;
      right = λ m. tt;
      told = inl (inl refl);
    }

    lost_self : ((house : Roster) → v.house ≡ Some house → Lost v house i) → MarkedLost v i dead
    lost_self why = record {
      who = i;
      act = marks_lost i ((names_reached reached).up_used i works) worker why;
      right = λ m. tt;
      told = inr (inl refl);
    }

    by_house : (o : Option Roster) → v.house ≡ o → MarkedLost v i dead
    by_house None none = lost_dead (λ house here. cc)
    by_house (Some house) here = ⊎_elim
        (λ (l : Lost v house dead). lost_dead (λ h e. let same : house ≡ h = cc in rw same at l))
        (λ (l : Lost v house i). lost_self (λ h e. let same : house ≡ h = cc in rw same at l))
        (verdict v (rosters_reached reached) house r i dead here keeps is)
