-- Refusals of a first token.
use Rattle.std.proofs.Common.{◌≡◌, ℕ, ◌+◌, ◌<◌, ◌≤◌, List, ◌∷◌, Option, Some, refl, ap, ◌∙◌, sym, arith, inl, inr}
use Rattle.std.proofs.lemmas.Bool.{cases_lt}
use Rattle.task_tokens.specs.declared.kinds.Operator.{Operator}
use Rattle.task_tokens.specs.declared.kinds.Operator.TheVariants as operator
use Rattle.task_tokens.specs.declared.kinds.TokenKind.{TokenKind}
use Rattle.task_tokens.specs.declared.kinds.TokenKind.TheVariants as kind
use Rattle.task_tokens.specs.declared.kinds.Token.{Token}
use Rattle.task_syntax.specs.declared.error.ParseError.{ParseError}
use Rattle.task_syntax.specs.declared.error.ParseError.TheVariants.{Unexpected}
use Rattle.task_syntax.specs.Grammar.{level_of}
use Rattle.task_syntax.specs.Refusals.{first_refusal, name_refusal, leaf_refusal, LacksInfix, Stops}

-- a first token of a kind that is refused
pub refused_kind : (refusal : TokenKind → ℕ
    → Option ParseError) (from rest : List Token) (t : Token) (k : TokenKind) (e : ParseError) → from ≡ t ∷ rest
    → t.kind ≡ k → refusal k t.offset ≡ Some e → first_refusal refusal from ≡ Some e
refused_kind refusal from rest t k e front is h =
    ap (first_refusal refusal) front ∙ (ap (λ (x : TokenKind). refusal x t.offset) is ∙ h)

-- what is neither a name nor too long a name
pub name_refusal-else : (k : TokenKind) (at : ℕ) → ((text : List ℕ) → k ≡ kind.Ident text → ⊥)
    → (k ≡ kind.LongIdent → ⊥) → name_refusal k at ≡ Some (Unexpected at)
name_refusal-else (kind.Ident text) at n l = absurd (n text refl)
name_refusal-else kind.LongIdent at n l = absurd (l refl)
name_refusal-else (kind.Keyword w) at n l = refl
name_refusal-else (kind.Numeral z) at n l = refl
name_refusal-else kind.LargeNumeral at n l = refl
name_refusal-else (kind.Infix op) at n l = refl
name_refusal-else (kind.Mark s) at n l = refl
name_refusal-else kind.Unknown at n l = refl
name_refusal-else kind.End at n l = refl

-- what is no number is refused as where a name is wanted
pub leaf_refusal-else : (k : TokenKind) (at : ℕ) → ((n : _) → k ≡ kind.Numeral n → ⊥) → (k ≡ kind.LargeNumeral → ⊥)
    → leaf_refusal k at ≡ name_refusal k at
leaf_refusal-else (kind.Numeral z) at n l = absurd (n z refl)
leaf_refusal-else kind.LargeNumeral at n l = absurd (l refl)
leaf_refusal-else (kind.Ident text) at n l = refl
leaf_refusal-else kind.LongIdent at n l = refl
leaf_refusal-else (kind.Keyword w) at n l = refl
leaf_refusal-else (kind.Infix op) at n l = refl
leaf_refusal-else (kind.Mark s) at n l = refl
leaf_refusal-else kind.Unknown at n l = refl
leaf_refusal-else kind.End at n l = refl

-- there are eight levels
pub level_of-lt : (op : Operator) → level_of op < 8
level_of-lt operator.Or = omega arith
level_of-lt operator.Xor = omega arith
level_of-lt operator.And = omega arith
level_of-lt operator.Equal = omega arith
level_of-lt operator.NotEqual = omega arith
level_of-lt operator.Less = omega arith
level_of-lt operator.AtMost = omega arith
level_of-lt operator.ShiftLeft = omega arith
level_of-lt operator.ShiftRight = omega arith
level_of-lt operator.Add = omega arith
level_of-lt operator.Subtract = omega arith
level_of-lt operator.Multiply = omega arith
level_of-lt operator.Divide = omega arith
level_of-lt operator.Remainder = omega arith

-- no operator is above all levels
pub stops_above : (level : ℕ) (from : List Token) → 8 ≤ level → Stops level from
stops_above level from h = record { stops = λ op to b. omega (arith, level_of-lt op) }

-- where the operators up to a level stop, and none of that level or below stands
pub stops_below : (loosest tightest : ℕ) (from : List Token) → Stops (tightest + 1) from
    → LacksInfix loosest tightest from → Stops loosest from
stops_below loosest tightest from s l = record {
  stops = λ op to b. elim (cases_lt (level_of op) loosest) [
    | inl h ↦ h
    | inr h ↦ absurd (l.lacks op to b h (omega (arith, s.stops op to b)))
  ];
}

-- what begins with no number is refused as where a name is wanted
pub leaf_first : (from rest : List Token) (t : Token) (e : ParseError) → from ≡ t ∷ rest
    → ((n : _) → t.kind ≡ kind.Numeral n → ⊥) → (t.kind ≡ kind.LargeNumeral → ⊥)
    → first_refusal name_refusal from ≡ Some e → first_refusal leaf_refusal from ≡ Some e
leaf_first from rest t e front n l h =
    ap (first_refusal leaf_refusal) front
    ∙ (leaf_refusal-else t.kind t.offset n l ∙ (sym (ap (first_refusal name_refusal) front) ∙ h))
