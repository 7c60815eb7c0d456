-- A text is read, or meets one refusal.
use Rattle.std.proofs.Common.{◌≡◌, ℕ, ◌<◌, ◌≤◌, List, length, take, get_or, All, ap, arith, inl, inr, length-take}
use Rattle.std.proofs.lemmas.Bool.{cases_lt}
use Rattle.std.proofs.lemmas.List.{get_or-take}
use Rattle.std.proofs.lemmas.List.Elements.{All-get_or}
use Rattle.task_tree.specs.declared.tree.Program.{Program}
use Rattle.task_syntax.specs.declared.error.ParseError.{ParseError}
use Rattle.task_syntax.specs.declared.error.ParseError.TheVariants.{NotAscii}
use Rattle.task_syntax.specs.Grammar.{ReadsAsProgram}
use Rattle.task_syntax.specs.Meeting.{MeetsText, too_long, not_ascii, in_program}
use Rattle.task_syntax.proofs.Exactness.{program_exact}
use Rattle.task_syntax.proofs.Readings.{program_reads}

-- a byte of ASCII bytes
below_128 : (bs : List ℕ) (i : ℕ) → i < length bs → All (λ b. b < 128) bs → 128 ≤ get_or bs i 0 → ⊥
below_128 bs i h all high = let low : get_or bs i 0 < 128 = All-get_or (λ (b : ℕ). b < 128) bs i 0 h all in omega arith

-- the first byte over 127 isn't behind another one
not_before : (bs : List ℕ) (i j : ℕ) → i < j → j < length bs → All (λ b. b < 128) (take j bs) → 128 ≤ get_or bs i 0 → ⊥
not_before bs i j h k all high =
    let same = get_or-take j bs i 0 h in
    let inside : i < length (take j bs) = omega (arith, length-take j bs) in
    let low : get_or (take j bs) i 0 < 128 = All-get_or (λ (b : ℕ). b < 128) (take j bs) i 0 inside all in
    omega (arith, same)

same_place : (bs : List ℕ) (i j : ℕ) → i < length bs → j < length bs → All (λ b. b < 128) (take i bs)
    → All (λ b. b < 128) (take j bs) → 128 ≤ get_or bs i 0 → 128 ≤ get_or bs j 0 → i ≡ j
same_place bs i j hi hj ai aj bi bj =
    elim (cases_lt i j) [
      | inl h ↦ absurd (not_before bs i j h hj aj bi)
      | inr h ↦ elim (cases_lt j i) [ inl k ↦ absurd (not_before bs j i k hi ai bj) | inr k ↦ omega arith ]
    ]

pub one_refusal : (text : List ℕ) (e f : ParseError) → MeetsText text e → MeetsText text f → e ≡ f
one_refusal text e f (too_long h) (too_long k) = cc
one_refusal text e f (too_long h) (not_ascii s l a b) = absurd (omega (arith, h, s))
one_refusal text e f (too_long h) (in_program s a m) = absurd (omega (arith, h, s))
one_refusal text e f (not_ascii s l a b) (too_long h) = absurd (omega (arith, h, s))
one_refusal text e f (not_ascii s l a b) (not_ascii t k c d) = ap NotAscii (same_place text _ _ l k a c b d)
one_refusal text e f (not_ascii s l a b) (in_program t c m) = absurd (below_128 text _ l c b)
one_refusal text e f (in_program s a m) (too_long h) = absurd (omega (arith, h, s))
one_refusal text e f (in_program s a m) (not_ascii t k c d) = absurd (below_128 text _ k a d)
one_refusal text e f (in_program s a m) (in_program t c n) = program_exact.one_error _ _ _ m n

pub not_both : (text : List ℕ) (p : Program) (e : ParseError) → ReadsAsProgram text p → MeetsText text e → ⊥
not_both text p e r (too_long h) = omega (arith, r.short, h)
not_both text p e r (not_ascii s l a b) = below_128 text _ l r.ascii b
not_both text p e r (in_program s a m) = program_exact.not_both _ _ _ (program_reads r.program) m
