-- Whoever has a worker's work isn't gone.
use Rattle.std.proofs.Common.{◌≡◌, ℕ, zero, suc, false, List, length, Option, Some, None, refl}
use Rattle.ids.specs.Members.{bearer, follow, resolve, status_in}
use Rattle.ids.specs.declared.member.Member.{Member}
use Rattle.ids.specs.declared.member.Status.{Status}
use Rattle.ids.specs.declared.member.Status.TheVariants.{Live, Dead, Left}
use Rattle.actor_laws.specs.standing.Standing.{is_gone, Stands}

follows : (k : ℕ) (members : List Member) (i j : ℕ) → follow k members i ≡ Some j
    → is_gone (status_in j members) ≡ false
unfolding follow
follows zero members i j is = cc
follows (suc k) members i j is = by_status (λ heir. follows k members heir j) (status_in i members) refl is
  where
    here : (o : Option Status) → status_in i members ≡ o → is_gone o ≡ false → i ≡ j
        → is_gone (status_in j members) ≡ false
    here o there not_gone same = let at : status_in j members ≡ o = rw (← same) there in rw at not_gone

    by_status : ((heir : ℕ) → follow k members heir ≡ Some j → is_gone (status_in j members) ≡ false)
        → (o : Option Status) → status_in i members ≡ o → bearer (follow k members) i o ≡ Some j
        → is_gone (status_in j members) ≡ false
    by_status rest None there at = here None there refl (cc)
    by_status rest (Some Live) there at = here (Some Live) there refl (cc)
    by_status rest (Some Dead) there at = cc
    by_status rest (Some (Left heir)) there at = rest heir at

pub resolved_stands : (members : List Member) (i j : ℕ) → resolve members i ≡ Some j → Stands members j
resolved_stands members i j is worker = follows (suc (length members)) members i j is
