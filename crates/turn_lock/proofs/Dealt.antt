-- Seats that are dealt one after another.
use Rattle.std.specs.List.{range_with_len}
use Rattle.std.proofs.Common.{◌≡◌, ℕ, zero, suc, ◌+◌, ◌<◌, List, [], ◌∷◌, ◌++◌, map, refl, ap, ◌∙◌, sym, arith}
use Rattle.turn_lock.specs.Claims.{ClaimOf, empty_claims}
use Rattle.turn_lock.specs.Seats.{SeatOf}

-- while not all actors are dealt, there is a next one
pub one_more : {E : Type 0} (n actors left : ℕ) (cs : List (ClaimOf E)) → left + n ≡ actors → n < actors
    → cs ≡ empty_claims n left
    → (less : ℕ) × (cs ≡ empty_claims n (suc less)) × (less + (n + 1) ≡ actors)
one_more n actors zero cs all more is = absurd (omega arith)
one_more n actors (suc less) cs all more is = (less, is, omega arith)

range_snoc : (a n : ℕ) → range_with_len a (suc n) ≡ range_with_len a n ++ (a + n) ∷ []
range_snoc a zero = let is : a ≡ a + 0 = omega arith in ap (λ k. k ∷ []) is
range_snoc a (suc n) = let is : a + 1 + n ≡ a + suc n =
    omega arith in ap (λ l. a ∷ l) (range_snoc (a + 1) n ∙ ap (λ k. range_with_len (a + 1) n ++ k ∷ []) is)

-- the actors of one seat more
pub actors_more : {E A : Type 0} (seats more : List (SeatOf E A)) (s : SeatOf E A) (n : ℕ)
    → map (λ (t : SeatOf E A). t.actor) seats ≡ range_with_len 0 n → more ≡ seats ++ s ∷ [] → s.actor ≡ n
    → map (λ (t : SeatOf E A). t.actor) more ≡ range_with_len 0 (n + 1)
actors_more {E} {A} seats more s n was is next =
    let here : s.actor ≡ 0 + n = next ∙ omega arith in
    let long : suc n ≡ n + 1 = omega arith in
    let rest : map (λ (t : SeatOf E A). t.actor) (seats ++ s ∷ [])
    ≡ map (λ (t : SeatOf E A). t.actor) seats ++ s.actor ∷ [] = snoc seats in
    ap (map (λ (t : SeatOf E A). t.actor)) is
    ∙ (rest ∙ (ap (λ l. l ++ s.actor ∷ []) was ∙ (ap (λ k. range_with_len 0 n ++ k ∷ []) here
    ∙ (sym (range_snoc 0 n) ∙ ap (range_with_len 0) long))))
  where
    snoc : (xs : List (SeatOf E A)) → map (λ (t : SeatOf E A). t.actor) (xs ++ s ∷ [])
        ≡ map (λ (t : SeatOf E A). t.actor) xs ++ s.actor ∷ []
    snoc [] = refl
    snoc (x ∷ xs) = ap (λ l. x.actor ∷ l) (snoc xs)
