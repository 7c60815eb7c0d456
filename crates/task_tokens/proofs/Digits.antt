-- What digits write.
use Rattle.std.proofs.Common.{◌≡◌, ℕ, ◌+◌, ◌*◌, ◌-◌, ◌<◌, ◌≤◌, ◌^◌, List, [], ◌∷◌, length, drop, get_or, arith, sym, ◌∙◌}
use Rattle.std.proofs.lemmas.Bool.{le-ltb}
use Rattle.std.proofs.lemmas.List.{at_drop_more}
use Rattle.task_tokens.specs.Tokens.{decimal, numbered}
use Rattle.task_tokens.specs.declared.kinds.TokenKind.TheVariants.{LargeNumeral}

-- further digits make no number less
decimal-le : (n : ℕ) (digits : List ℕ) → n ≤ decimal n digits
decimal-le n [] = omega arith
decimal-le n (d ∷ ds) = let e = decimal-le (10 * n + (d - 48)) ds in omega arith

-- a digit that makes the number too large
pub numbered_large : (n i d : ℕ) (digits : List ℕ) → decimal n (drop i digits) ≡ decimal 0 digits → i < length digits
    → d ≡ get_or digits i 0 - 48 → 2 ^ 63 ≤ 10 * n + d → LargeNumeral ≡ numbered digits
numbered_large n i d digits same inside digit large =
    let more = sym (at_drop_more (decimal n) digits i 0 inside) ∙ same in
    let least = decimal-le (10 * n + (get_or digits i 0 - 48)) (drop (i + 1) digits) in
    let h : 2 ^ 63 ≤ decimal 0 digits = omega arith in
    rw (le-ltb (decimal 0 digits) (2 ^ 63) h)
