-- The tokens of printed lines.
use Rattle.std.proofs.Common.{◌≡◌, ℕ, ◌+◌, ◌<◌, suc, true, List, [], ◌∷◌, ◌++◌, length, map, refl, ◌∙◌, ap, append_assoc, arith}
use Rattle.std.specs.List.{flat_map, join_with_byte, list_all}
use Rattle.std.proofs.lemmas.Bool.{and_from}
use Rattle.std.proofs.lemmas.List.Folds.{list_all-append}
use Rattle.task_tokens.specs.Tokens.{tokens}
use Rattle.task_tokens.specs.declared.kinds.TokenKind.{TokenKind}
use Rattle.task_tokens.specs.declared.kinds.TokenKind.TheVariants as kind
use Rattle.task_tokens.specs.declared.kinds.Token.{Token}
use Rattle.task_tree.specs.declared.tree.Thread.{Thread}
use Rattle.task_syntax.specs.Grammar.{Begins}
use Rattle.task_syntax.specs.Printed.{spelled, thread_kinds, thread_line}
use Rattle.task_syntax.specs.PrintSteps.{spaced}
use Rattle.task_syntax.proofs.PrintLaws.{joined_line}
use Rattle.task_syntax.proofs.PrintTokens.{Gap, blank, line, is_ascii, Spellable, token_first}
use Rattle.task_syntax.proofs.PrintTrees.{Spells}

-- each kind is read as it is spelled
abbrev pub EachSpellable : List TokenKind → Type 0
EachSpellable [] = Unit {0}
EachSpellable (k ∷ ks) = Spellable k × EachSpellable ks

pub each_append : (xs ys : List TokenKind) → EachSpellable xs → EachSpellable ys → EachSpellable (xs ++ ys)
each_append [] ys s r = r
each_append (x ∷ xs) ys s r = (s.0, each_append xs ys s.1 r)

each_split : (xs ys : List TokenKind) → EachSpellable (xs ++ ys) → EachSpellable xs × EachSpellable ys
each_split [] ys s = (tt, s)
each_split (x ∷ xs) ys s = let r = each_split xs ys s.1 in ((s.0, r.0), r.1)

joins : (xs ys : List TokenKind) (from m to : List Token) → Spells xs from m → Spells ys m to
    → Spells (xs ++ ys) from to
joins [] ys from m to s r = rw s r
joins (x ∷ xs) ys from m to s r = (s.0, s.1, joins xs ys s.0 m to s.2 r)

gap_first : (ks : List TokenKind) (rest : List ℕ) → Gap (spaced ks ++ (10 ∷ rest))
gap_first [] rest = line
gap_first (k ∷ ks) rest = blank

-- the tokens behind the first of a line
behind_first : (ks : List TokenKind) (at : ℕ) (rest : List ℕ) → EachSpellable ks
    → (end : ℕ) × Spells ks (tokens at 0 (spaced ks ++ (10 ∷ rest))) (tokens end 0 rest)
behind_first [] at rest s = (suc at, refl)
behind_first (k ∷ ks) at rest s =
    let first = token_first k (spelled k) (spaced ks ++ (10 ∷ rest)) (suc at) s.0 (gap_first ks rest) in
    let others = behind_first ks (suc at + length (spelled k)) rest s.1 in
    let text = append_assoc (spelled k) (spaced ks) (10 ∷ rest) in
    let begins : Begins k (tokens (suc at) 0 ((spelled k ++ spaced ks) ++ (10 ∷ rest)))
    (tokens (suc at + length (spelled k)) 0 (spaced ks ++ (10 ∷ rest))) =
    record { at = suc at; front = ap (tokens (suc at) 0) text ∙ first } in
    (others.0, (tokens (suc at + length (spelled k)) 0 (spaced ks ++ (10 ∷ rest)), begins, others.1))

line_text : (k : TokenKind) (ks : List TokenKind) (rest : List ℕ)
    → (join_with_byte 32 (map spelled (k ∷ ks)) ++ 10 ∷ []) ++ rest ≡ spelled k ++ (spaced ks ++ (10 ∷ rest))
line_text k ks rest =
    ap (λ x. (x ++ 10 ∷ []) ++ rest) (joined_line k ks)
    ∙ (append_assoc (spelled k ++ spaced ks) (10 ∷ []) rest ∙ append_assoc (spelled k) (spaced ks) (10 ∷ rest))

-- the tokens of a line
line_tokens : (ks : List TokenKind) (at : ℕ) (rest : List ℕ) → 0 < length ks → EachSpellable ks
    → (end : ℕ) × Spells ks (tokens at 0 ((join_with_byte 32 (map spelled ks) ++ 10 ∷ []) ++ rest)) (tokens end 0 rest)
line_tokens [] at rest some s = absurd (omega arith)
line_tokens (k ∷ ks) at rest some s =
    let first = token_first k (spelled k) (spaced ks ++ (10 ∷ rest)) at s.0 (gap_first ks rest) in
    let others = behind_first ks (at + length (spelled k)) rest s.1 in
    let begins : Begins k (tokens at 0 ((join_with_byte 32 (map spelled (k ∷ ks)) ++ 10 ∷ []) ++ rest))
    (tokens (at + length (spelled k)) 0 (spaced ks ++ (10 ∷ rest))) =
    record { at = at; front = ap (tokens at 0) (line_text k ks rest) ∙ first } in
    (others.0, (tokens (at + length (spelled k)) 0 (spaced ks ++ (10 ∷ rest)), begins, others.1))

-- the tokens of all lines
pub lines_tokens : (ts : List Thread) (at : ℕ) → EachSpellable (flat_map thread_kinds ts)
    → (end : ℕ) × Spells (flat_map thread_kinds ts) (tokens at 0 (flat_map thread_line ts))
    (record { kind = kind.End; offset = end } ∷ [])
lines_tokens [] at s = (at, refl)
lines_tokens (t ∷ ts) at s =
    let parts = each_split (thread_kinds t) (flat_map thread_kinds ts) s in
    let first = line_tokens (thread_kinds t) at (flat_map thread_line ts) (omega arith) parts.0 in
    let others = lines_tokens ts first.0 parts.1 in (
      others.0,
      joins (thread_kinds t) (flat_map thread_kinds ts)
          (tokens at 0 (thread_line t ++ flat_map thread_line ts)) (tokens first.0 0 (flat_map thread_line ts))
          (record { kind = kind.End; offset = others.0 } ∷ []) first.1 others.1,
    )

both_ascii : (xs ys : List ℕ) → list_all is_ascii xs ≡ true → list_all is_ascii ys ≡ true
    → list_all is_ascii (xs ++ ys) ≡ true
both_ascii xs ys p q = rw (list_all-append is_ascii xs ys) (and_from (list_all is_ascii xs) (list_all is_ascii ys) p q)

spaced_ascii : (ks : List TokenKind) → EachSpellable ks → list_all is_ascii (spaced ks) ≡ true
spaced_ascii [] s = refl
spaced_ascii (k ∷ ks) s = both_ascii (spelled k) (spaced ks) s.0.ascii (spaced_ascii ks s.1)

line_ascii : (ks : List TokenKind) → EachSpellable ks → list_all is_ascii (join_with_byte 32 (map spelled ks)) ≡ true
line_ascii [] s = refl
line_ascii (k ∷ ks) s = rw (joined_line k ks) (both_ascii (spelled k) (spaced ks) s.0.ascii (spaced_ascii ks s.1))

-- printed lines are ASCII
pub lines_ascii : (ts : List Thread) → EachSpellable (flat_map thread_kinds ts)
    → list_all is_ascii (flat_map thread_line ts) ≡ true
lines_ascii [] s = refl
lines_ascii (t ∷ ts) s =
    let parts = each_split (thread_kinds t) (flat_map thread_kinds ts) s in
    let first = both_ascii (join_with_byte 32 (map spelled (thread_kinds t))) (10 ∷ [])
    (line_ascii (thread_kinds t) parts.0) refl in
    both_ascii (thread_line t) (flat_map thread_line ts) first (lines_ascii ts parts.1)
