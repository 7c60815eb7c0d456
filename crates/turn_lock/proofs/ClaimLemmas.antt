-- Claims, and what a history has of them.
use Rattle.std.proofs.Common.{◌≡◌, ◌≢◌, ℕ, zero, suc, ◌+◌, ◌<◌, ◌==◌, if◌then◌else◌, List, [], ◌∷◌, ◌++◌, length, refl, ap, ◌∙◌, append-nil, arith}
use Rattle.std.proofs.lemmas.Bool.Decides.{nat_tests}
use Rattle.turn_lock.specs.Histories.{own, AreOf}
use Rattle.turn_lock.specs.Claims.{ClaimOf, claim, times_below, empty_claims, times_claimed, AreOwn, updated}
use Rattle.turn_lock.proofs.HistoryLemmas.{own-append, own_others}

module _ {E : Type 0} where
  pub times_claimed-append : (a : ℕ) (cs ds : List (ClaimOf E))
      → times_claimed a (cs ++ ds) ≡ times_claimed a cs + times_claimed a ds
  times_claimed-append a [] ds = omega arith
  times_claimed-append a (c ∷ cs) ds = let rest = times_claimed-append a cs ds in omega arith

  pub none_claimed : (a : ℕ) (cs : List (ClaimOf E)) → length cs ≡ 0 → times_claimed a cs ≡ 0
  none_claimed a [] none = refl
  none_claimed a (c ∷ cs) none = absurd (omega arith)

  -- an actor that is claimed alone
  pub claimed_here : (a : ℕ) (mine : List E) → 0 < times_claimed a (claim a mine ∷ [])
  claimed_here a mine = grind (arith, nat_tests)

-- the actors from b on stand once each
pub times_claimed-empty_claims : (E : Type 0) (a b n : ℕ)
    → times_claimed {E = E} a (empty_claims b n) + times_below b a ≡ times_below (b + n) a
times_claimed-empty_claims E a b zero = grind (arith, nat_tests)
times_claimed-empty_claims E a b (suc n) = let rest =
    times_claimed-empty_claims E a (suc b) n in grind (arith, nat_tests)

pub length-empty_claims : (E : Type 0) (b n : ℕ) → length (empty_claims {E = E} b n) ≡ n
length-empty_claims E b zero = refl
length-empty_claims E b (suc n) = ap suc (length-empty_claims E (suc b) n)

module _ {E : Type 0} (actor_of : E → ℕ) where
  pub own_empty : (b n : ℕ) → AreOwn actor_of (empty_claims b n) []
  own_empty b zero = tt
  own_empty b (suc n) = (refl, own_empty (suc b) n)

  pub own_both : (cs ds : List (ClaimOf E)) (log : List E) → AreOwn actor_of cs log → AreOwn actor_of ds log
      → AreOwn actor_of (cs ++ ds) log
  own_both [] ds log h g = g
  own_both (c ∷ cs) ds log h g = (h.0, own_both cs ds log h.1 g)

  -- more entries of an actor change nothing of claims in which it isn't
  pub own_kept : (cs : List (ClaimOf E)) (a : ℕ) (log es : List E) → AreOf actor_of a es → times_claimed a cs ≡ 0
      → AreOwn actor_of cs log → AreOwn actor_of cs (log ++ es)
  own_kept [] a log es of none h = tt
  own_kept (c ∷ cs) a log es of none h =
      let apart : c.actor ≢ a = λ same. apart_if c.actor same none in
      let here : own actor_of c.actor (log ++ es) ≡ c.entries =
      own-append actor_of c.actor log es
      ∙ (ap (λ l. own actor_of c.actor log ++ l) (own_others actor_of a c.actor es of apart)
      ∙ (append-nil (own actor_of c.actor log) ∙ h.0)) in
      (here, own_kept cs a log es of (omega arith) h.1)
    where
      apart_if : (b : ℕ) → b ≡ a → (if b == a then 1 else 0) + times_claimed a cs ≡ 0 → ⊥
      apart_if b same none = grind (arith, nat_tests)

  pub own_updated : (cs : List (ClaimOf E)) (log : List E) → AreOwn actor_of (updated actor_of log cs) log
  own_updated [] log = tt
  own_updated (c ∷ cs) log = (refl, own_updated cs log)
