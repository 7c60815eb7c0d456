-- The printed text of a program: each thread on a line, its tokens joined by one blank.
use Rattle.std.specs.Prelude.{ℕ, List, [], ◌∷◌, ◌++◌, map, codes}
use Rattle.std.specs.List.{flat_map, join_with_byte}
use Rattle.std.specs.Fmt.{signed_decimal}
use Rattle.task_tokens.specs.declared.kinds.Word.{Word}
use Rattle.task_tokens.specs.declared.kinds.Word.TheVariants as word
use Rattle.task_tokens.specs.declared.kinds.Sign.{Sign}
use Rattle.task_tokens.specs.declared.kinds.Sign.TheVariants as sign
use Rattle.task_tokens.specs.declared.kinds.Operator.{Operator}
use Rattle.task_tokens.specs.declared.kinds.Operator.TheVariants as operator
use Rattle.task_tokens.specs.declared.kinds.TokenKind.{TokenKind}
use Rattle.task_tokens.specs.declared.kinds.TokenKind.TheVariants.{Ident, LongIdent, Keyword, Numeral, LargeNumeral, Infix, Mark, Unknown, End}
use Rattle.task_tree.specs.declared.tree.Name.{Name}
use Rattle.task_tree.specs.declared.tree.Expr.{Expr}
use Rattle.task_tree.specs.declared.tree.Expr.TheVariants.{Number, Variable, Binary'}
use Rattle.task_tree.specs.declared.tree.Let.{Let}
use Rattle.task_tree.specs.declared.tree.Argument.{Argument}
use Rattle.task_tree.specs.declared.tree.Argument.TheVariants as argument
use Rattle.task_tree.specs.declared.tree.Given.{Given}
use Rattle.task_tree.specs.declared.tree.Given.TheVariants.{Sent, Spawned}
use Rattle.task_tree.specs.declared.tree.Use.{Use}
use Rattle.task_tree.specs.declared.tree.Block.{Block}
use Rattle.task_tree.specs.declared.tree.End as end_type
use Rattle.task_tree.specs.declared.tree.End.TheVariants as end
use Rattle.task_tree.specs.declared.tree.Thread.{Thread}
use Rattle.task_tree.specs.declared.tree.Program.{Program}

-- how a kept word is spelled
abbrev pub word_text : Word → List ℕ
word_text word.Thread = codes "thread"
word_text word.Let = codes "let"
word_text word.If = codes "if"
word_text word.Else = codes "else"
word_text word.Spawn = codes "spawn"
word_text word.SpawnNext = codes "spawn_next"
word_text word.SendArgument = codes "send_argument"

-- how a mark is spelled
abbrev pub sign_text : Sign → List ℕ
sign_text sign.Open = codes "("
sign_text sign.Close = codes ")"
sign_text sign.OpenBrace = codes "{"
sign_text sign.CloseBrace = codes "}"
sign_text sign.Comma = codes ","
sign_text sign.Semicolon = codes ";"
sign_text sign.Question = codes "?"
sign_text sign.Assign = codes "="

-- how an operator is spelled
abbrev pub operator_text : Operator → List ℕ
operator_text operator.Or = codes "|"
operator_text operator.Xor = codes "^"
operator_text operator.And = codes "&"
operator_text operator.Equal = codes "=="
operator_text operator.NotEqual = codes "!="
operator_text operator.Less = codes "<"
operator_text operator.AtMost = codes "<="
operator_text operator.ShiftLeft = codes "<<"
operator_text operator.ShiftRight = codes ">>"
operator_text operator.Add = codes "+"
operator_text operator.Subtract = codes "-"
operator_text operator.Multiply = codes "*"
operator_text operator.Divide = codes "/"
operator_text operator.Remainder = codes "%"

-- how a token is spelled; those that no program has are spelled by nothing
abbrev pub spelled : TokenKind → List ℕ
spelled (Ident name) = name
spelled LongIdent = []
spelled (Keyword w) = word_text w
spelled (Numeral n) = signed_decimal n
spelled LargeNumeral = []
spelled (Infix op) = operator_text op
spelled (Mark s) = sign_text s
spelled Unknown = []
spelled End = []

-- an operand: in parentheses, if it is itself an operation
abbrev pub operand_kinds : Expr → List TokenKind
operand_kinds (Number n) = Numeral n ∷ []
operand_kinds (Variable x) = Ident x.text ∷ []
operand_kinds (Binary' op p a q b) = Mark sign.Open ∷ (operand_kinds a ++ (Infix op ∷ (operand_kinds b ++ (Mark sign.Close ∷ []))))

-- an expression as a whole stands in no parentheses
abbrev pub expr_kinds : Expr → List TokenKind
expr_kinds (Number n) = operand_kinds (Number n)
expr_kinds (Variable x) = operand_kinds (Variable x)
expr_kinds (Binary' op p a q b) = operand_kinds a ++ (Infix op ∷ operand_kinds b)

-- `let name = value ;`
abbrev pub let_kinds : Let → List TokenKind
let_kinds l = Keyword word.Let ∷ (Ident l.name.text ∷ (Mark sign.Assign ∷ (expr_kinds l.value ++ (Mark sign.Semicolon ∷ []))))

-- `, value` for each of some expressions
abbrev pub further_kinds : Expr → List TokenKind
further_kinds e = Mark sign.Comma ∷ expr_kinds e

-- `, ? name` or `, value`
abbrev pub argument_kinds : Argument → List TokenKind
argument_kinds (argument.Value e) = Mark sign.Comma ∷ expr_kinds e
argument_kinds (argument.Hole x) = Mark sign.Comma ∷ (Mark sign.Question ∷ (Ident x.text ∷ []))

-- `, name`
abbrev pub parameter_kinds : Name → List TokenKind
parameter_kinds x = Mark sign.Comma ∷ (Ident x.text ∷ [])

-- `) ;`
abbrev pub call_end : List TokenKind
call_end = Mark sign.Close ∷ (Mark sign.Semicolon ∷ [])

-- `send_argument ( name , value ) ;`
abbrev pub send_kinds : Name → Expr → List TokenKind
send_kinds k e = Keyword word.SendArgument ∷ (Mark sign.Open ∷ (Ident k.text ∷ (Mark sign.Comma ∷ (expr_kinds e ++ call_end))))

-- `send_argument ( hole , value ) ;` or `spawn thread ( hole {, value } ) ;`
abbrev pub given_kinds : Name → Given → List TokenKind
given_kinds k (Sent e) = send_kinds k e
given_kinds k (Spawned t es) = Keyword word.Spawn ∷ (Ident t.text ∷ (Mark sign.Open ∷ (Ident k.text ∷ (flat_map further_kinds es ++ call_end))))

abbrev pub use_kinds : Use → List TokenKind
use_kinds u = given_kinds u.hole u.given

-- `spawn_next thread ( continuation {, argument } ) ;`
abbrev pub next_kinds : Name → Name → List Argument → List TokenKind
next_kinds t k args = Keyword word.SpawnNext ∷ (Ident t.text ∷ (Mark sign.Open ∷ (Ident k.text ∷ (flat_map argument_kinds args ++ call_end))))

-- a block of these lets around how it ends
abbrev pub braced : List Let → List TokenKind → List TokenKind
braced lets end = Mark sign.OpenBrace ∷ (flat_map let_kinds lets ++ (end ++ (Mark sign.CloseBrace ∷ [])))

abbrev pub end_kinds : end_type.End → List TokenKind
end_kinds (end.If' c p lets1 end1 close1 q lets2 end2 close2) = Keyword word.If ∷ (expr_kinds c ++ (braced lets1 (end_kinds end1) ++ (Keyword word.Else ∷ braced lets2 (end_kinds end2))))
end_kinds (end.Send k e) = send_kinds k e
end_kinds (end.Next t k args uses) = next_kinds t k args ++ flat_map use_kinds uses

abbrev pub block_kinds : Block → List TokenKind
block_kinds b = braced b.lets (end_kinds b.end)

-- `thread name ( continuation {, name } ) block`
abbrev pub thread_kinds : Thread → List TokenKind
thread_kinds t = Keyword word.Thread ∷ (Ident t.name.text ∷ (Mark sign.Open ∷ (Ident t.continuation.text ∷ (flat_map parameter_kinds t.numbers ++ (Mark sign.Close ∷ block_kinds t.body)))))

-- a thread's tokens, one blank between any two, and LF
abbrev pub thread_line : Thread → List ℕ
thread_line t = join_with_byte 32 (map spelled (thread_kinds t)) ++ 10 ∷ []

abbrev pub printed : Program → List ℕ
printed p = flat_map thread_line p.threads
