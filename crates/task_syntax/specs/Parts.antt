-- Parts of the grammar's rules that functions of the reader read by themselves.
use Rattle.std.specs.Prelude.{ℕ, ◌≤◌, List}
use Rattle.task_tokens.specs.declared.kinds.Word.TheVariants as word
use Rattle.task_tokens.specs.declared.kinds.Operator.{Operator}
use Rattle.task_tokens.specs.declared.kinds.Token.{Token}
use Rattle.task_tree.specs.declared.tree.Name.{Name}
use Rattle.task_tree.specs.declared.tree.Expr.{Expr}
use Rattle.task_tree.specs.declared.tree.Expr.TheVariants.{Binary'}
use Rattle.task_tree.specs.declared.tree.Let.{Let}
use Rattle.task_tree.specs.declared.tree.Argument.{Argument}
use Rattle.task_tree.specs.declared.tree.Use.{Use}
use Rattle.task_tree.specs.declared.tree.End.{End}
use Rattle.task_tree.specs.declared.tree.End.TheVariants.{If', Send, Next}
use Rattle.task_syntax.specs.Grammar.{height_of, IsExpr, IsWord, Many, IsSend, IsNext, IsUse, IsBlock}

-- e is `a op b`, of at most 64 levels
pub data Joins : Operator → (a b e : Expr) → Type 0 where
  joins : {op : Operator} {p q : _} {a b : Expr} → height_of (Binary' op p a q b) ≤ 64 → Joins op a b (Binary' op p a q b)

-- the end of a block whose own blocks are at most `inside` deep
pub data IsEnd : (inside : ℕ) → (from to : List Token) → End → Type 0 where
  branches : {inside : ℕ} {from c d e f to : List Token} {lets1 lets2 : List Let} {e1 : Expr} {end1 end2 : End} {close1 close2 : ℕ} {p q : _} → IsWord word.If from c → IsExpr c d e1 → IsBlock inside d e (record { lets = lets1; end = end1; close = close1 }) → IsWord word.Else e f → IsBlock inside f to (record { lets = lets2; end = end2; close = close2 }) → IsEnd inside from to (If' e1 p lets1 end1 close1 q lets2 end2 close2)
  sends : {inside : ℕ} {from to : List Token} {k : Name} {e : Expr} → IsSend from to k e → IsEnd inside from to (Send k e)
  continues : {inside : ℕ} {from m to : List Token} {t k : Name} {args : List Argument} {uses : List Use} → IsNext from m t k args → Many IsUse m to uses → IsEnd inside from to (Next t k args uses)
