-- A relation of two lists that a loop keeps up to an index.
use Rattle.std.proofs.Common.{ℕ, ◌≤◌, List, [], ◌++◌, length, drop}
use Rattle.std.proofs.Math.ListN.{drop_of_length-le}
use Rattle.std.proofs.lemmas.List.{append-nil}

-- where nothing is left, the codes so far are those of all
pub done : {A B : Type 0} (R : List A → List B → Type 0) (P : List B → Type 0) (xs : List A) (i : ℕ) (codes : List B)
    → length xs ≤ i → R [] [] → ((rest : List B) → R (drop i xs) rest → P (codes ++ rest)) → P codes
done R P xs i codes le none kept =
    let at_end : R (drop i xs) [] = rw (drop_of_length-le xs le) none in
    let all : P (codes ++ []) = kept [] at_end in
    rw append-nil at all
