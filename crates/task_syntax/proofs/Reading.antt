-- Steps of the reader in the grammar's relations.
use Rattle.std.proofs.Common.{◌≡◌, ℕ, ◌+◌, ◌≤◌, List, [], ◌∷◌, ◌++◌, arith}
use Rattle.task_tokens.specs.declared.kinds.Sign.TheVariants as sign
use Rattle.task_tokens.specs.declared.kinds.Operator.{Operator}
use Rattle.task_tokens.specs.declared.kinds.TokenKind.{TokenKind}
use Rattle.task_tokens.specs.declared.kinds.TokenKind.TheVariants as kind
use Rattle.task_tokens.specs.declared.kinds.Token.{Token}
use Rattle.task_tree.specs.declared.tree.Expr.{Expr}
use Rattle.task_tree.specs.declared.tree.Let.{Let}
use Rattle.task_tree.specs.declared.tree.End.{End}
use Rattle.task_syntax.specs.Grammar.{Begins, BeginsAt, IsMark, level_of, ReadsExpr, number, variable, grouped, infixed, Many, none, more, IsLet, IsBlock, ends_in_if, ends_in_send, ends_in_next}
use Rattle.task_syntax.specs.Parts.{Joins, joins, IsEnd, branches, sends, continues}
use Rattle.task_syntax.specs.Refusals.{IsInfix}

-- one more item behind others
pub many_end : {A : Type 0} {R : List Token → List Token → A → Type 0} {from m to : List Token} {xs : List A} {x : A}
    → Many R from m xs → R m to x → Many R from to (xs ++ x ∷ [])
many_end none r = more r none
many_end (more q qs) r = more q (many_end qs r)

-- where a kind of token stands at a place, that kind stands
pub begins_at : {k : _} {at : ℕ} {from to : List Token} → BeginsAt k at from to → Begins k from to
begins_at b = record { at = _; front = b.front }

-- what is read where tighter operators are wanted is read where looser ones may be, too
pub looser : {parens low high : ℕ} {from to : List Token} {e : Expr} → low ≤ high → ReadsExpr parens high from to e
    → ReadsExpr parens low from to e
looser h (number b) = number b
looser h (variable x) = variable x
looser h (grouped p o r c) = grouped p o r c
looser h (infixed l a op b low) = infixed (omega (arith, h, l)) a op b low

-- an operator between what was read and a tighter operand
pub infix_reads : {parens loosest tightest at : ℕ} {from m n to : List Token} {op : Operator} {a b e : Expr}
    → ReadsExpr parens tightest from m a → IsInfix loosest tightest op at m n
    → ReadsExpr parens (level_of op + 1) n to b → Joins op a b e → ReadsExpr parens (level_of op) from to e
infix_reads left op right (joins low) = infixed (omega arith) (looser op.loose left) (begins_at op.begins) right low

-- a block is its braces, its `let`s and its end
pub block_reads : {deep inside close : ℕ} {from a b c to : List Token} {ls : List Let} {end : End} → deep ≡ inside + 1
    → IsMark sign.OpenBrace from a → Many IsLet a b ls → IsEnd inside b c end
    → BeginsAt (kind.Mark sign.CloseBrace) close c to
    → IsBlock deep from to (record { lets = ls; end = end; close = close })
block_reads d o lets (branches i v b e f) shut = ends_in_if d o lets i v b e f shut
block_reads d o lets (sends s) shut = ends_in_send (omega (arith, d)) o lets s shut
block_reads d o lets (continues n us) shut = ends_in_next (omega (arith, d)) o lets n us shut

-- a first token of a kind
pub begins_from : {k : TokenKind} {t : Token} {from to : List Token} → from ≡ t ∷ to → t.kind ≡ k → Begins k from to
begins_from {t = t} front is = record { at = t.offset; front = rw (← is) front }
