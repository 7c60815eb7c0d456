-- Steps of the reader in the relations of what is met.
use Rattle.std.proofs.Common.{◌≡◌, ℕ, ◌+◌, ◌≢◌, ◌<◌, max, zero, suc, arith, ap, Option, Some, None, Bool, true, false, Result, Ok, Err, IfErr, MatchBool, IfSome, IfNone, sym, subst, is_some}
use Rattle.std.specs.Result.{IsErrAnd}
use Rattle.task_tokens.specs.declared.kinds.TokenKind.{TokenKind}
use Rattle.task_tokens.specs.declared.kinds.Token.{Token}
use Rattle.std.proofs.Common.{List, Bor}
use Rattle.task_tokens.specs.declared.kinds.Sign.TheVariants as sign
use Rattle.task_tokens.specs.declared.kinds.TokenKind.TheVariants as kind
use Rattle.task_syntax.specs.declared.error.ParseError.{ParseError}
use Rattle.task_syntax.specs.declared.error.ParseError.TheVariants.{TooDeepNest, Memory}
use Rattle.task_tokens.specs.declared.kinds.Word.TheVariants as word
use Rattle.task_tokens.specs.declared.kinds.Operator.{Operator}
use Rattle.task_tree.specs.declared.tree.Expr.{Expr}
use Rattle.task_syntax.proofs.Reading.{looser}
use Rattle.task_syntax.specs.Grammar.{Begins, BeginsAt, IsMark, ReadsExpr, height_of, level_of}
use Rattle.task_syntax.specs.Refusals.{Lacks, Misses, Stands, stands, Stops, IsInfix, offset_of}
use Rattle.task_syntax.specs.Meeting.{block_part, braced_part, no_brace, brace, here, MeetsExpr, too_deep, too_high, UseStands, send_stands, spawn_stands}

-- the exit of a `?` hands on what was met
pub failed : {T E : Type 0} (M : E → Type 0) (r : Result T E) (y : E) → IsErrAnd r (λ x. x ≡ y) → M y → IfErr r M
failed M (Ok x) y h m = absurd h
failed M (Err e) y h m = subst M (sym h) m

-- what is lacking doesn't stand there
pub lacks_stands : {k : TokenKind} {from : List Token} → Lacks k from → Stands k from → ⊥
lacks_stands l (stands b) = l.lacks _ b

-- a token is there or not
pub stands_or_lacks : (k : TokenKind) (from : List Token) (o : Option (Bor (List Token)))
    → IfSome o (λ x. Begins k from x.now) → IfNone o (Lacks k from)
    → MatchBool (is_some o) (Stands k from) (Lacks k from)
stands_or_lacks k from (Some x) s n = stands s
stands_or_lacks k from None s n = n

-- the place of a first token
pub begins_offset : {k : TokenKind} {from to : List Token} → Begins k from to → BeginsAt k (offset_of from) from to
begins_offset b = record { front = rw (ap offset_of b.front) b.front }

-- a block is its braces and what is between, if blocks may go so deep
pub block_meets : (deep inside : ℕ) {from : List Token} {e : ParseError} → deep ≡ inside + 1
    → (braced_part (block_part inside)).meets from e → (block_part deep).meets from e
unfolding block_part
block_meets zero inside d m = absurd (omega (arith, d))
block_meets (suc n) inside d m = let same : n ≡ inside = omega (arith, d) in rw same m

pub block_reads_parts : (deep inside : ℕ) {from to : List Token} → deep ≡ inside + 1
    → (braced_part (block_part inside)).reads from to → (block_part deep).reads from to
unfolding block_part
block_reads_parts zero inside d r = absurd (omega (arith, d))
block_reads_parts (suc n) inside d r = let same : n ≡ inside = omega (arith, d) in rw same r

-- a block begins with its brace
pub block_no_brace : (deep : ℕ) {from : List Token} {e : ParseError} → Misses (kind.Mark sign.OpenBrace) from e
    → (block_part deep).meets from e
unfolding block_part
block_no_brace zero m = no_brace m
block_no_brace (suc n) m = here m

-- a block where none may stand any more
pub block_too_deep : (deep : ℕ) {at : ℕ} {from to : List Token} → deep ≡ 0
    → BeginsAt (kind.Mark sign.OpenBrace) at from to → (block_part deep).meets from (TooDeepNest at)
unfolding block_part
block_too_deep zero d b = brace b
block_too_deep (suc n) d b = absurd (omega (arith, d))

-- a call's refusal, met as part of more
pub met_more : {T : Type 0} (M N : ParseError → Type 0) → ((e : ParseError) → M e → N e) → (r : Result T ParseError)
    → IfErr r (λ e. e ≢ Memory → M e) → IfErr r (λ e. e ≢ Memory → N e)
met_more M N f (Ok x) h = h
met_more M N f (Err e) h = λ m. f e (h m)

-- a parenthesis more than may be
pub meets_deep : {parens level o : ℕ} {from to : List Token} → parens ≡ 0 → o ≡ offset_of from
    → IsMark sign.Open from to → MeetsExpr parens level from (TooDeepNest o)
meets_deep p o b = rw o (too_deep p (begins_offset b))

-- an operator whose tree is too high, behind what was read
pub meets_high : {parens loosest tightest at l : ℕ} {from m n to : List Token} {op : Operator} {a b : Expr}
    {e : ParseError} → e ≡ TooDeepNest at → l ≡ level_of op → ReadsExpr parens tightest from m a
    → IsInfix loosest tightest op at m n → ReadsExpr parens (l + 1) n to b → Stops (l + 1) to
    → 64 < 1 + max (height_of a) (height_of b) → MeetsExpr parens loosest from e
meets_high is same left op read stops high =
    let r = rw same at read in
    let s = rw same at stops in
    rw is (too_high op.tight (looser op.loose left) op.begins r s high)

-- a use of a hole begins or not
pub use_stands_or : (from : List Token) (b : Bool) → Lacks (kind.Keyword word.SendArgument) from
    → MatchBool b (Stands (kind.Keyword word.Spawn) from) (Lacks (kind.Keyword word.Spawn) from)
    → MatchBool b (UseStands from) (UseStands from → ⊥)
use_stands_or from true l h = spawn_stands h
use_stands_or from false l h = λ u. elim u [ send_stands s ↦ lacks_stands l s | spawn_stands s ↦ lacks_stands h s ]
