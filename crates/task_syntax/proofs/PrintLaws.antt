-- What is written in turn.
use Rattle.std.proofs.Common.{◌≡◌, ℕ, ◌+◌, ◌<◌, List, [], ◌∷◌, ◌++◌, length, get_or, take, Ok, Err, refl, sym, ◌∙◌, ap, append_assoc, arith, length-append, map}
use Rattle.std.specs.List.{flat_map, join_with_byte}
use Rattle.std.proofs.lemmas.List.{append-nil, take_more}
use Rattle.std.proofs.lemmas.Grind.{flat_map-append}
use Rattle.task_tokens.specs.declared.kinds.TokenKind.{TokenKind}
use Rattle.task_syntax.specs.declared.error.PrintError.TheVariants.{TooLong, Memory}
use Rattle.task_syntax.specs.Printed.{spelled}
use Rattle.task_syntax.specs.PrintSteps.{Text, Adds, spaced, Prints}

-- nothing was written
pub adds_none : (a : Text) → Adds a a []
adds_none (Ok text) = sym (append-nil text)
adds_none (Err TooLong) = refl
adds_none (Err Memory) = refl

-- one text behind another
pub adds_more : (a b c : Text) (xs ys : List ℕ) → Adds a b xs → Adds b c ys → Adds a c (xs ++ ys)
adds_more (Ok t) (Ok u) (Ok v) xs ys p q = rw (q, p, append_assoc) refl
adds_more (Ok t) (Ok u) (Err TooLong) xs ys p q = let at_mid = rw p at q in rw append_assoc at at_mid
adds_more (Ok t) (Ok u) (Err Memory) xs ys p q = tt
adds_more (Ok t) (Err e) (Ok v) xs ys p q = absurd q
adds_more (Ok t) (Err TooLong) (Err TooLong) xs ys p q = omega (arith, length-append {A = ℕ}, p)
adds_more (Ok t) (Err TooLong) (Err Memory) xs ys p q = tt
adds_more (Ok t) (Err Memory) (Err TooLong) xs ys p q = cc
adds_more (Ok t) (Err Memory) (Err Memory) xs ys p q = tt
adds_more (Err e) (Ok u) c xs ys p q = absurd p
adds_more (Err e) (Err f) (Ok v) xs ys p q = absurd q
adds_more (Err e) (Err f) (Err g) xs ys p q = p ∙ q

-- some tokens behind others
pub prints_more : {a b c : Text} {ks ls : List TokenKind} → Prints a b ks → Prints b c ls → Prints a c (ks ++ ls)
prints_more {a = a} {b = b} {c = c} {ks = ks} {ls = ls} p q =
    record {
      adds = rw (flat_map-append (λ k. 32 ∷ spelled k) ks ls)
          (adds_more a b c (spaced ks) (spaced ls) p.adds q.adds);
    }

-- no token was written
pub prints_none : {a : Text} → Prints a a []
prints_none {a = a} = record { adds = adds_none a }

-- the front of a list with one more item
flat_map_take : {X A : Type 0} (f : X → List A) (xs : List X) (i : ℕ) (x : X) → i < length xs → x ≡ get_or xs i x
    → flat_map f (take (i + 1) xs) ≡ flat_map f (take i xs) ++ f x
flat_map_take f xs i x inside is = rw (take_more xs i x inside, ← is, flat_map-append, append-nil) refl

-- one more item of a list was written
pub prints_turn : {X : Type 0} (f : X → List TokenKind) (xs : List X) (i : ℕ) (x : X) {a b c : Text} → i < length xs
    → x ≡ get_or xs i x → Prints a b (flat_map f (take i xs)) → Prints b c (f x)
    → Prints a c (flat_map f (take (i + 1) xs))
prints_turn f xs i x inside is p q = rw (flat_map_take f xs i x inside is) (prints_more p q)

-- the first token of a line, and then each behind a blank
pub joined_line : (k : TokenKind) (ks : List TokenKind)
    → join_with_byte 32 (map spelled (k ∷ ks)) ≡ spelled k ++ spaced ks
joined_line k [] = sym (append-nil (spelled k))
joined_line k (l ∷ ls) = ap (λ x. spelled k ++ (32 ∷ x)) (joined_line l ls)

-- a line was written: its first token, the others and LF
pub line_written : (a b c d : Text) (k : TokenKind) (ks : List TokenKind) → Adds a b (spelled k) → Prints b c ks
    → Adds c d (10 ∷ []) → Adds a d (join_with_byte 32 (map spelled (k ∷ ks)) ++ 10 ∷ [])
line_written a b c d k ks first others end =
    rw (joined_line k ks) (adds_more a c d (spelled k ++ spaced ks) (10 ∷ [])
    (adds_more a b c (spelled k) (spaced ks) first others.adds) end)

-- what one more item of a list stands for was written
pub adds_turn : {X : Type 0} (f : X → List ℕ) (xs : List X) (i : ℕ) (x : X) (a b c : Text) → i < length xs
    → x ≡ get_or xs i x → Adds a b (flat_map f (take i xs)) → Adds b c (f x) → Adds a c (flat_map f (take (i + 1) xs))
adds_turn f xs i x a b c inside is p q =
    rw (flat_map_take f xs i x inside is) (adds_more a b c (flat_map f (take i xs)) (f x) p q)
