-- The first refusal that a reader of tokens meets from left to right.
use Rattle.std.specs.Prelude.{◌≡◌, ℕ, ◌+◌, ◌<◌, ◌≤◌, max, List, [], length, All, take, slice_index, Some, zero, suc}
use Rattle.task_tokens.specs.Tokens.{tokens}
use Rattle.task_tokens.specs.declared.kinds.Word.{Word}
use Rattle.task_tokens.specs.declared.kinds.Word.TheVariants as word
use Rattle.task_tokens.specs.declared.kinds.Sign.{Sign}
use Rattle.task_tokens.specs.declared.kinds.Sign.TheVariants as sign
use Rattle.task_tokens.specs.declared.kinds.Operator.{Operator}
use Rattle.task_tokens.specs.declared.kinds.TokenKind.{TokenKind}
use Rattle.task_tokens.specs.declared.kinds.TokenKind.TheVariants as kind
use Rattle.task_tokens.specs.declared.kinds.Token.{Token}
use Rattle.task_syntax.specs.declared.error.ParseError.{ParseError}
use Rattle.task_syntax.specs.declared.error.ParseError.TheVariants.{Unexpected, TooLong, TooDeepNest, NotAscii}
use Rattle.task_tree.specs.declared.tree.Name.{Name}
use Rattle.task_tree.specs.declared.tree.Expr.{Expr}
use Rattle.task_syntax.specs.Grammar.{Begins, BeginsAt, IsMark, IsName, IsExpr, ReadsExpr, height_of, level_of}
use Rattle.task_syntax.specs.Refusals.{Lacks, Misses, Stands, Stops, offset_of, first_refusal, name_refusal, leaf_refusal}

-- Reading an expression from here on meets this refusal first.
pub data MeetsExpr : (parens level : ℕ) → (from : List Token) → ParseError → Type 0 where
  -- no number, no name and no parenthesis
  no_operand : {parens level : ℕ} {from : List Token} {e : ParseError} → Lacks (kind.Mark sign.Open) from → first_refusal leaf_refusal from ≡ Some e → MeetsExpr parens level from e
  -- a parenthesis more than may be
  too_deep : {parens level at : ℕ} {from to : List Token} → parens ≡ 0 → BeginsAt (kind.Mark sign.Open) at from to → MeetsExpr parens level from (TooDeepNest at)
  in_parentheses : {parens inside level : ℕ} {from a : List Token} {e : ParseError} → parens ≡ inside + 1 → IsMark sign.Open from a → MeetsExpr inside 0 a e → MeetsExpr parens level from e
  unclosed : {parens inside level : ℕ} {from a b : List Token} {x : Expr} {e : ParseError} → parens ≡ inside + 1 → IsMark sign.Open from a → ReadsExpr inside 0 a b x → Stops 0 b → Misses (kind.Mark sign.Close) b e → MeetsExpr parens level from e
  -- behind an operator
  right : {parens level : ℕ} {from m n : List Token} {op : Operator} {a : Expr} {e : ParseError} → level ≤ level_of op → ReadsExpr parens (level_of op) from m a → Begins (kind.Infix op) m n → MeetsExpr parens (level_of op + 1) n e → MeetsExpr parens level from e
  -- an operator whose tree is too high, once its right side was read
  too_high : {parens level at : ℕ} {from m n to : List Token} {op : Operator} {a b : Expr} → level ≤ level_of op → ReadsExpr parens (level_of op) from m a → BeginsAt (kind.Infix op) at m n → ReadsExpr parens (level_of op + 1) n to b → Stops (level_of op + 1) to → 64 < 1 + max (height_of a) (height_of b) → MeetsExpr parens level from (TooDeepNest at)

-- A part of the grammar: what tokens it is, and what refusal is met first where it is wanted and
-- isn't there.
pub record Part : Type 1 where
  pub reads : (from to : List Token) → Type 0
  pub meets : (from : List Token) → ParseError → Type 0

-- one kind of token
abbrev pub token : TokenKind → Part
token k = record { reads = Begins k; meets = Misses k }

abbrev pub a_mark : Sign → Part
a_mark s = token (kind.Mark s)

abbrev pub a_word : Word → Part
a_word w = token (kind.Keyword w)

pub data ReadsName (from to : List Token) : Type 0 where
  named : {x : Name} → IsName from to x → ReadsName from to

abbrev pub a_name : Part
a_name = record { reads = ReadsName; meets = λ from e. first_refusal name_refusal from ≡ Some e }

-- a whole expression: no operator goes on behind it
pub data ReadsValue (from to : List Token) : Type 0 where
  valued : {x : Expr} → IsExpr from to x → Stops 0 to → ReadsValue from to

abbrev pub a_value : Part
a_value = record { reads = ReadsValue; meets = MeetsExpr 64 0 }

-- one part, and behind it another
pub data ReadsBoth (R S : List Token → List Token → Type 0) : (from to : List Token) → Type 0 where
  both : {from m to : List Token} → R from m → S m to → ReadsBoth R S from to

pub data MeetsBoth (M : List Token → ParseError → Type 0) (R : List Token → List Token → Type 0) (N : List Token → ParseError → Type 0) : (from : List Token) → ParseError → Type 0 where
  here : {from : List Token} {e : ParseError} → M from e → MeetsBoth M R N from e
  behind : {from m : List Token} {e : ParseError} → R from m → N m e → MeetsBoth M R N from e

infixr 20 ◌▸◌
abbrev pub ◌▸◌ : Part → Part → Part
p ▸ q = record { reads = ReadsBoth p.reads q.reads; meets = MeetsBoth p.meets p.reads q.meets }

-- where F holds the one part, else the other
pub data ReadsEither (F : List Token → Type 0) (R S : List Token → List Token → Type 0) : (from to : List Token) → Type 0 where
  one : {from to : List Token} → F from → R from to → ReadsEither F R S from to
  other : {from to : List Token} → (F from → ⊥) → S from to → ReadsEither F R S from to

pub data MeetsEither (F : List Token → Type 0) (M N : List Token → ParseError → Type 0) : (from : List Token) → ParseError → Type 0 where
  in_one : {from : List Token} {e : ParseError} → F from → M from e → MeetsEither F M N from e
  in_other : {from : List Token} {e : ParseError} → (F from → ⊥) → N from e → MeetsEither F M N from e

abbrev pub either : (List Token → Type 0) → Part → Part → Part
either F p q = record { reads = ReadsEither F p.reads q.reads; meets = MeetsEither F p.meets q.meets }

-- a part as often as F holds
pub data ReadsEach (F : List Token → Type 0) (R : List Token → List Token → Type 0) : (from to : List Token) → Type 0 where
  done : {to : List Token} → (F to → ⊥) → ReadsEach F R to to
  again : {from m to : List Token} → F from → R from m → ReadsEach F R m to → ReadsEach F R from to

pub data MeetsEach (F : List Token → Type 0) (M : List Token → ParseError → Type 0) (R : List Token → List Token → Type 0) : (from : List Token) → ParseError → Type 0 where
  now : {from : List Token} {e : ParseError} → F from → M from e → MeetsEach F M R from e
  later : {from m : List Token} {e : ParseError} → F from → R from m → MeetsEach F M R m e → MeetsEach F M R from e

abbrev pub each : (List Token → Type 0) → Part → Part
each F p = record { reads = ReadsEach F p.reads; meets = MeetsEach F p.meets p.reads }

-- `, p` as often as a comma stands first
abbrev pub further : Part → Part
further p = each (Stands (kind.Mark sign.Comma)) (a_mark sign.Comma ▸ p)

abbrev pub let_part : Part
let_part = a_word word.Let ▸ a_name ▸ a_mark sign.Assign ▸ a_value ▸ a_mark sign.Semicolon

abbrev pub lets_part : Part
lets_part = each (Stands (kind.Keyword word.Let)) let_part

abbrev pub argument_part : Part
argument_part = either (Stands (kind.Mark sign.Question)) (a_mark sign.Question ▸ a_name) a_value

abbrev pub send_part : Part
send_part = a_word word.SendArgument ▸ a_mark sign.Open ▸ a_name ▸ a_mark sign.Comma ▸ a_value ▸ a_mark sign.Close ▸ a_mark sign.Semicolon

abbrev pub spawn_part : Part
spawn_part = a_word word.Spawn ▸ a_name ▸ a_mark sign.Open ▸ a_name ▸ further a_value ▸ a_mark sign.Close ▸ a_mark sign.Semicolon

abbrev pub use_part : Part
use_part = either (Stands (kind.Keyword word.Spawn)) spawn_part send_part

-- a use of a hole begins here
pub data UseStands (from : List Token) : Type 0 where
  send_stands : Stands (kind.Keyword word.SendArgument) from → UseStands from
  spawn_stands : Stands (kind.Keyword word.Spawn) from → UseStands from

abbrev pub uses_part : Part
uses_part = each UseStands use_part

abbrev pub next_part : Part
next_part = a_word word.SpawnNext ▸ a_name ▸ a_mark sign.Open ▸ a_name ▸ further argument_part ▸ a_mark sign.Close ▸ a_mark sign.Semicolon

-- the two blocks of an `if`, given the part for a block
abbrev pub branches_part : Part → Part
branches_part inside = a_word word.If ▸ a_value ▸ inside ▸ a_word word.Else ▸ inside

-- the end of a block, given the part for the blocks inside
abbrev pub end_part : Part → Part
end_part inside =
    either (Stands (kind.Keyword word.If)) (branches_part inside)
    (either (Stands (kind.Keyword word.SendArgument)) send_part (next_part ▸ uses_part))

-- a block where none may stand any more
pub data MeetsTooDeep : (from : List Token) → ParseError → Type 0 where
  no_brace : {from : List Token} {e : ParseError} → Misses (kind.Mark sign.OpenBrace) from e → MeetsTooDeep from e
  brace : {at : ℕ} {from to : List Token} → BeginsAt (kind.Mark sign.OpenBrace) at from to → MeetsTooDeep from (TooDeepNest at)

-- a block, given the part for the blocks inside
abbrev pub braced_part : Part → Part
braced_part inside = a_mark sign.OpenBrace ▸ lets_part ▸ end_part inside ▸ a_mark sign.CloseBrace

-- a block, with at most so many inside each other, this one among them
unfoldable pub block_part : ℕ → Part
block_part zero = record { reads = λ from to. ⊥; meets = MeetsTooDeep }
block_part (suc inside) = braced_part (block_part inside)

abbrev pub thread_part : Part
thread_part = a_word word.Thread ▸ a_name ▸ a_mark sign.Open ▸ a_name ▸ further a_name ▸ a_mark sign.Close ▸ block_part 64

-- the end is all that stands here
pub record MissesEnd (from : List Token) (e : ParseError) : Type 0 where
  pub lacks : (at : ℕ) → BeginsAt kind.End at from [] → ⊥
  pub is : e ≡ Unexpected (offset_of from)

pub data ReadsEnd (from to : List Token) : Type 0 where
  ended : {at : ℕ} → BeginsAt kind.End at from [] → to ≡ [] → ReadsEnd from to

abbrev pub last_part : Part
last_part = record { reads = ReadsEnd; meets = MissesEnd }

abbrev pub threads_part : Part
threads_part = each (Stands (kind.Keyword word.Thread)) thread_part

abbrev pub program_part : Part
program_part = threads_part ▸ last_part

-- Reading a text meets this refusal first: a text too long before a byte over 7F, and this before
-- all else.
pub data MeetsText (text : List ℕ) : ParseError → Type 0 where
  too_long : 65536 < length text → MeetsText text (TooLong 65536)
  not_ascii : {at : ℕ} → length text ≤ 65536 → at < length text → All (λ b. b < 128) (take at text) → 128 ≤ slice_index text at → MeetsText text (NotAscii at)
  in_program : {e : ParseError} → length text ≤ 65536 → All (λ b. b < 128) text → program_part.meets (tokens 0 0 text) e → MeetsText text e
