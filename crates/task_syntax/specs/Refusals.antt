-- What the first of some tokens lacks, and the refusal at it.
use Rattle.std.specs.Prelude.{◌≡◌, ℕ, ◌<◌, ◌≤◌, List, [], ◌∷◌, Option, Some, None}
use Rattle.task_tokens.specs.declared.kinds.Operator.{Operator}
use Rattle.task_tokens.specs.declared.kinds.TokenKind.{TokenKind}
use Rattle.task_tokens.specs.declared.kinds.TokenKind.TheVariants as kind
use Rattle.task_tokens.specs.declared.kinds.Token.{Token}
use Rattle.task_syntax.specs.declared.error.ParseError.{ParseError}
use Rattle.task_syntax.specs.declared.error.ParseError.TheVariants.{Unexpected, TooLong, NumberRange}
use Rattle.task_syntax.specs.Grammar.{Begins, BeginsAt, level_of}

-- the place of the first token
abbrev pub offset_of : List Token → ℕ
offset_of [] = 0
offset_of (t ∷ ts) = t.offset

-- no such token stands first
pub record Lacks (k : TokenKind) (from : List Token) : Type 0 where
  pub lacks : (to : List Token) → Begins k from to → ⊥

-- such a token stands first
pub data Stands (k : TokenKind) (from : List Token) : Type 0 where
  stands : {to : List Token} → Begins k from to → Stands k from

-- another token stands where this one is wanted
pub record Misses (k : TokenKind) (from : List Token) (e : ParseError) : Type 0 where
  pub lacks : Lacks k from
  pub is : e ≡ Unexpected (offset_of from)

-- an operator stands first, of a level from `level` to `tightest`
pub record IsInfix (level tightest : ℕ) (op : Operator) (at : ℕ) (from to : List Token) : Type 0 where
  pub begins : BeginsAt (kind.Infix op) at from to
  pub tight : level ≤ level_of op
  pub loose : level_of op ≤ tightest

-- no operator of such a level stands first
pub record LacksInfix (level tightest : ℕ) (from : List Token) : Type 0 where
  pub lacks : (op : Operator) (to : List Token) → Begins (kind.Infix op) from to → level ≤ level_of op → level_of op ≤ tightest → ⊥

-- no operator of this level or a tighter one stands first
pub record Stops (level : ℕ) (from : List Token) : Type 0 where
  pub stops : (op : Operator) (to : List Token) → Begins (kind.Infix op) from to → level_of op < level

-- the refusal of a token where a name is wanted; none at a name
abbrev pub name_refusal : TokenKind → ℕ → Option ParseError
name_refusal (kind.Ident text) at = None
name_refusal kind.LongIdent at = Some (TooLong at)
name_refusal _ at = Some (Unexpected at)

-- the refusal of a token where a number or a name is wanted; none at these
abbrev pub leaf_refusal : TokenKind → ℕ → Option ParseError
leaf_refusal (kind.Ident text) at = None
leaf_refusal kind.LongIdent at = Some (TooLong at)
leaf_refusal (kind.Numeral n) at = None
leaf_refusal kind.LargeNumeral at = Some (NumberRange at)
leaf_refusal _ at = Some (Unexpected at)

-- the refusal of the first token, by its kind and place
abbrev pub first_refusal : (TokenKind → ℕ → Option ParseError) → List Token → Option ParseError
first_refusal refusal [] = Some (Unexpected 0)
first_refusal refusal (t ∷ ts) = refusal t.kind t.offset
