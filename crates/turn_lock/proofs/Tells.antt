-- What all claims have of a history is all of it.
use Rattle.std.proofs.Common.{◌≡◌, ℕ, ◌≤◌, ◌==◌, nat_lt, if◌then◌else◌, Bool, true, false, List, [], ◌∷◌, ◌++◌, append-nil, sym, refl, ap, ◌∙◌, subst, arith}
use Rattle.std.proofs.lemmas.Bool.Decides.{nat_tests}
use Rattle.turn_lock.specs.Histories.{own}
use Rattle.turn_lock.specs.Claims.{ClaimOf, times_below, times_claimed, entries_in, AreOwn}
use Rattle.turn_lock.specs.Seats.{Tells}

module _ {E : Type 0} where
  pub none_in : (cs : List (ClaimOf E)) (a : ℕ) → times_claimed a cs ≡ 0 → entries_in cs a ≡ []
  none_in [] a none_there = refl
  none_in (c ∷ cs) a none_there =
      let other : (c.actor == a) ≡ false = grind (arith, nat_tests) in
      let rest = none_in cs a (omega arith) in
      ap (λ b. (if b then c.entries else []) ++ entries_in cs a) other ∙ rest

  one_in : (actor_of : E → ℕ) (cs : List (ClaimOf E)) (a : ℕ) (log : List E) → AreOwn actor_of cs log
      → times_claimed a cs ≡ 1 → own actor_of a log ≡ entries_in cs a
  one_in actor_of [] a log h one = absurd (omega arith)
  one_in actor_of (c ∷ cs) a log h one = here (c.actor == a) refl (λ next. one_in actor_of cs a log h.1 next)
    where
      here : (b : Bool) → (c.actor == a) ≡ b → (times_claimed a cs ≡ 1 → own actor_of a log ≡ entries_in cs a)
          → own actor_of a log ≡ entries_in (c ∷ cs) a
      here true is next =
          let same : c.actor ≡ a = grind (arith, nat_tests) in
          let rest = none_in cs a (grind (arith, nat_tests)) in
          subst (λ x. own actor_of x log ≡ c.entries) same h.0
          ∙ (sym (append-nil c.entries) ∙ (ap (λ l. c.entries ++ l) (sym rest)
          ∙ ap (λ b. (if b then c.entries else []) ++ entries_in cs a) (sym is)))
      here false is next = next (grind (arith, nat_tests))
          ∙ ap (λ b. (if b then c.entries else []) ++ entries_in cs a) (sym is)

  pub tells : (actor_of : E → ℕ) (actors : ℕ) (cs : List (ClaimOf E)) (log : List E) → AreOwn actor_of cs log
      → ((a : ℕ) → times_claimed a cs ≡ times_below actors a) → ((a : ℕ) → actors ≤ a → own actor_of a log ≡ [])
      → Tells actor_of cs log
  tells actor_of actors cs log own_all once no_others a = by (nat_lt a actors) refl
    where
      by : (b : Bool) → nat_lt a actors ≡ b → own actor_of a log ≡ entries_in cs a
      by true is = one_in actor_of cs a log own_all (once a ∙ ap (λ b. if b then 1 else 0) is)
      by false is = no_others a (grind (arith, nat_tests))
          ∙ sym (none_in cs a (once a ∙ ap (λ b. if b then 1 else 0) is))
