-- The grammar of task programs, as relations "from these tokens up to those tokens, this is read".
use Rattle.std.specs.Prelude.{◌≡◌, ℕ, ℤ, ◌+◌, ◌<◌, ◌≤◌, max, List, [], ◌∷◌, length, All}
use Rattle.task_tokens.specs.Tokens.{tokens}
use Rattle.task_tokens.specs.declared.kinds.Word.{Word}
use Rattle.task_tokens.specs.declared.kinds.Word.TheVariants as word
use Rattle.task_tokens.specs.declared.kinds.Sign.{Sign}
use Rattle.task_tokens.specs.declared.kinds.Sign.TheVariants as sign
use Rattle.task_tokens.specs.declared.kinds.Operator.{Operator}
use Rattle.task_tokens.specs.declared.kinds.Operator.TheVariants as operator
use Rattle.task_tokens.specs.declared.kinds.TokenKind.{TokenKind}
use Rattle.task_tokens.specs.declared.kinds.TokenKind.TheVariants as kind
use Rattle.task_tokens.specs.declared.kinds.Token.{Token}
use Rattle.task_tree.specs.declared.tree.Name.{Name}
use Rattle.task_tree.specs.declared.tree.Expr.{Expr}
use Rattle.task_tree.specs.declared.tree.Expr.TheVariants.{Number, Variable, Binary'}
use Rattle.task_tree.specs.declared.tree.Let.{Let}
use Rattle.task_tree.specs.declared.tree.Argument.{Argument}
use Rattle.task_tree.specs.declared.tree.Argument.TheVariants as argument
use Rattle.task_tree.specs.declared.tree.Given.TheVariants.{Sent, Spawned}
use Rattle.task_tree.specs.declared.tree.Use.{Use}
use Rattle.task_tree.specs.declared.tree.Block.{Block}
use Rattle.task_tree.specs.declared.tree.End.{End}
use Rattle.task_tree.specs.declared.tree.End.TheVariants.{If', Send, Next}
use Rattle.task_tree.specs.declared.tree.Thread.{Thread}
use Rattle.task_tree.specs.declared.tree.Program.{Program}

-- the tokens `from` are one of this kind, and then `to`
pub record Begins (k : TokenKind) (from to : List Token) : Type 0 where
  pub at : ℕ
  pub front : from ≡ record { kind = k; offset = at } ∷ to

-- the same, with the place of the token
pub record BeginsAt (k : TokenKind) (at : ℕ) (from to : List Token) : Type 0 where
  pub front : from ≡ record { kind = k; offset = at } ∷ to

abbrev pub IsMark : Sign → (from to : List Token) → Type 0
IsMark s from to = Begins (kind.Mark s) from to

abbrev pub IsWord : Word → (from to : List Token) → Type 0
IsWord w from to = Begins (kind.Keyword w) from to

abbrev pub IsName : (from to : List Token) → Name → Type 0
IsName from to name = BeginsAt (kind.Ident name.text) name.offset from to

-- the levels of the operators, the loosest first
abbrev pub level_of : Operator → ℕ
level_of operator.Or = 0
level_of operator.Xor = 1
level_of operator.And = 2
level_of operator.Equal = 3
level_of operator.NotEqual = 3
level_of operator.Less = 4
level_of operator.AtMost = 4
level_of operator.ShiftLeft = 5
level_of operator.ShiftRight = 5
level_of operator.Add = 6
level_of operator.Subtract = 6
level_of operator.Multiply = 7
level_of operator.Divide = 7
level_of operator.Remainder = 7

-- the levels of a tree: a leaf is 1
abbrev pub height_of : Expr → ℕ
height_of (Number n) = 1
height_of (Variable x) = 1
height_of (Binary' op p a q b) = 1 + max (height_of a) (height_of b)

-- An expression with no operator looser than `level` outside parentheses, and at most `parens`
-- parentheses inside each other.
pub data ReadsExpr : (parens level : ℕ) → (from to : List Token) → Expr → Type 0 where
  number : {parens level : ℕ} {from to : List Token} {n : ℤ} → Begins (kind.Numeral n) from to → ReadsExpr parens level from to (Number n)
  variable : {parens level : ℕ} {from to : List Token} {x : Name} → IsName from to x → ReadsExpr parens level from to (Variable x)
  -- `( expr )`
  grouped : {parens inside level : ℕ} {from a b to : List Token} {e : Expr} → parens ≡ inside + 1 → IsMark sign.Open from a → ReadsExpr inside 0 a b e → IsMark sign.Close b to → ReadsExpr parens level from to e
  -- `a op b`, where a may hold operators of the same level, and b only tighter ones
  infixed : {parens level : ℕ} {from m n to : List Token} {op : Operator} {p q : _} {a b : Expr} → level ≤ level_of op → ReadsExpr parens (level_of op) from m a → Begins (kind.Infix op) m n → ReadsExpr parens (level_of op + 1) n to b → height_of (Binary' op p a q b) ≤ 64 → ReadsExpr parens level from to (Binary' op p a q b)

-- a whole expression, with at most 64 parentheses inside each other
abbrev pub IsExpr : (from to : List Token) → Expr → Type 0
IsExpr from to e = ReadsExpr 64 0 from to e

-- what R reads, any number of times
pub data Many {A : Type 0} (R : List Token → List Token → A → Type 0) : (from to : List Token) → List A → Type 0 where
  none : {to : List Token} → Many R to to []
  more : {from m to : List Token} {x : A} {xs : List A} → R from m x → Many R m to xs → Many R from to (x ∷ xs)

-- `, R`
pub data Further {A : Type 0} (R : List Token → List Token → A → Type 0) : (from to : List Token) → A → Type 0 where
  further : {from m to : List Token} {x : A} → IsMark sign.Comma from m → R m to x → Further R from to x

-- `let name = expr ;`
pub data IsLet : (from to : List Token) → Let → Type 0 where
  bound : {from a b c d to : List Token} {x : Name} {e : Expr} → IsWord word.Let from a → IsName a b x → IsMark sign.Assign b c → IsExpr c d e → IsMark sign.Semicolon d to → IsLet from to (record { name = x; value = e })

-- `? name`, or an expression
pub data IsArgument : (from to : List Token) → Argument → Type 0 where
  hole : {from a to : List Token} {x : Name} → IsMark sign.Question from a → IsName a to x → IsArgument from to (argument.Hole x)
  value : {from to : List Token} {e : Expr} → IsExpr from to e → IsArgument from to (argument.Value e)

-- `send_argument ( name , expr ) ;`
pub data IsSend : (from to : List Token) → Name → Expr → Type 0 where
  send : {from a b c d e f to : List Token} {k : Name} {x : Expr} → IsWord word.SendArgument from a → IsMark sign.Open a b → IsName b c k → IsMark sign.Comma c d → IsExpr d e x → IsMark sign.Close e f → IsMark sign.Semicolon f to → IsSend from to k x

-- `spawn thread ( hole {, expr } ) ;`
pub data IsSpawn : (from to : List Token) → Name → Name → List Expr → Type 0 where
  spawn : {from a b c d e f to : List Token} {t k : Name} {es : List Expr} → IsWord word.Spawn from a → IsName a b t → IsMark sign.Open b c → IsName c d k → Many (Further IsExpr) d e es → IsMark sign.Close e f → IsMark sign.Semicolon f to → IsSpawn from to t k es

-- what is done with a hole
pub data IsUse : (from to : List Token) → Use → Type 0 where
  sent : {from to : List Token} {k : Name} {e : Expr} → IsSend from to k e → IsUse from to (record { hole = k; given = Sent e })
  spawned : {from to : List Token} {t k : Name} {es : List Expr} → IsSpawn from to t k es → IsUse from to (record { hole = k; given = Spawned t es })

-- `spawn_next thread ( name {, argument } ) ;`
pub data IsNext : (from to : List Token) → Name → Name → List Argument → Type 0 where
  next : {from a b c d e f to : List Token} {t k : Name} {args : List Argument} → IsWord word.SpawnNext from a → IsName a b t → IsMark sign.Open b c → IsName c d k → Many (Further IsArgument) d e args → IsMark sign.Close e f → IsMark sign.Semicolon f to → IsNext from to t k args

-- a block, with at most `deep` blocks inside each other, this one among them
pub data IsBlock : (deep : ℕ) → (from to : List Token) → Block → Type 0 where
  ends_in_if : {deep inside close : ℕ} {from a b c d e f g to : List Token} {ls lets1 lets2 : List Let} {e1 : Expr} {end1 end2 : End} {close1 close2 : ℕ} {p q : _} → deep ≡ inside + 1 → IsMark sign.OpenBrace from a → Many IsLet a b ls → IsWord word.If b c → IsExpr c d e1 → IsBlock inside d e (record { lets = lets1; end = end1; close = close1 }) → IsWord word.Else e f → IsBlock inside f g (record { lets = lets2; end = end2; close = close2 }) → BeginsAt (kind.Mark sign.CloseBrace) close g to → IsBlock deep from to (record { lets = ls; end = If' e1 p lets1 end1 close1 q lets2 end2 close2; close = close })
  ends_in_send : {deep close : ℕ} {from a b c to : List Token} {ls : List Let} {k : Name} {e : Expr} → 0 < deep → IsMark sign.OpenBrace from a → Many IsLet a b ls → IsSend b c k e → BeginsAt (kind.Mark sign.CloseBrace) close c to → IsBlock deep from to (record { lets = ls; end = Send k e; close = close })
  ends_in_next : {deep close : ℕ} {from a b c d to : List Token} {ls : List Let} {t k : Name} {args : List Argument} {uses : List Use} → 0 < deep → IsMark sign.OpenBrace from a → Many IsLet a b ls → IsNext b c t k args → Many IsUse c d uses → BeginsAt (kind.Mark sign.CloseBrace) close d to → IsBlock deep from to (record { lets = ls; end = Next t k args uses; close = close })

-- `thread name ( name {, name } ) block`, with at most 64 blocks inside each other
pub data IsThread : (from to : List Token) → Thread → Type 0 where
  thread : {from a b c d e f to : List Token} {x k : Name} {ns : List Name} {body : Block} → IsWord word.Thread from a → IsName a b x → IsMark sign.Open b c → IsName c d k → Many (Further IsName) d e ns → IsMark sign.Close e f → IsBlock 64 f to body → IsThread from to (record { name = x; continuation = k; numbers = ns; body = body })

-- all tokens are the program
pub record IsProgram (from : List Token) (p : Program) : Type 0 where
  pub ends : List Token
  pub threads : Many IsThread from ends p.threads
  pub end : BeginsAt kind.End p.length ends []

-- the text is the program: at most 65,536 bytes of ASCII, whose tokens are a sentence of the
-- grammar
pub record ReadsAsProgram (text : List ℕ) (p : Program) : Type 0 where
  pub short : length text ≤ 65536
  pub ascii : All (λ b. b < 128) text
  pub program : IsProgram (tokens 0 0 text) p
