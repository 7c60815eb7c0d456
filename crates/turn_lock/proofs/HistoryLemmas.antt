-- An actor's own entries of a history. Callers whose values grow cite these too.
use Rattle.std.proofs.Common.{◌≡◌, ◌≢◌, ℕ, List, [], ◌∷◌, ◌++◌, refl, arith}
use Rattle.std.proofs.lemmas.Bool.Decides.{nat_tests}
use Rattle.std.proofs.lemmas.List.Elements.{filter-append, All-head, All-tail}
use Rattle.turn_lock.specs.Histories.{is_of, own, AreOf}

module _ {E : Type 0} (actor_of : E → ℕ) where
  pub own-append : (a : ℕ) (xs ys : List E) → own actor_of a (xs ++ ys) ≡ own actor_of a xs ++ own actor_of a ys
  own-append a xs ys = filter-append (is_of actor_of a) xs ys

  -- entries of one actor are its own
  pub own_mine : (a : ℕ) (es : List E) → AreOf actor_of a es → own actor_of a es ≡ es
  own_mine a [] h = refl
  own_mine a (e ∷ es) h =
      let here = All-head (λ x. actor_of x ≡ a) e es h in
      let rest = own_mine a es (All-tail (λ x. actor_of x ≡ a) e es h) in
      grind (arith, nat_tests)

  -- and nobody else's
  pub own_others : (a b : ℕ) (es : List E) → AreOf actor_of a es → b ≢ a → own actor_of b es ≡ []
  own_others a b [] h apart = refl
  own_others a b (e ∷ es) h apart =
      let here = All-head (λ x. actor_of x ≡ a) e es h in
      let rest = own_others a b es (All-tail (λ x. actor_of x ≡ a) e es h) apart in
      grind (arith, nat_tests)
