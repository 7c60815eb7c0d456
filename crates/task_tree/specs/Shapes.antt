-- Programs that are the same but for offsets.
use Rattle.std.specs.Prelude.{◌≡◌, List, [], ◌∷◌}
use Rattle.task_tree.specs.declared.tree.Name.{Name}
use Rattle.task_tree.specs.declared.tree.Expr.{Expr}
use Rattle.task_tree.specs.declared.tree.Expr.TheVariants.{Number, Variable, Binary'}
use Rattle.task_tree.specs.declared.tree.Let.{Let}
use Rattle.task_tree.specs.declared.tree.Argument.{Argument}
use Rattle.task_tree.specs.declared.tree.Argument.TheVariants as argument
use Rattle.task_tree.specs.declared.tree.Given.{Given}
use Rattle.task_tree.specs.declared.tree.Given.TheVariants.{Sent, Spawned}
use Rattle.task_tree.specs.declared.tree.Use.{Use}
use Rattle.task_tree.specs.declared.tree.Block.{Block}
use Rattle.task_tree.specs.declared.tree.End.{End}
use Rattle.task_tree.specs.declared.tree.End.TheVariants.{If', Send, Next}
use Rattle.task_tree.specs.declared.tree.Thread.{Thread}
use Rattle.task_tree.specs.declared.tree.Program.{Program}

-- as many items, each the same as its partner
abbrev pub EachSame : {A : Type 0} → (A → A → Type 0) → List A → List A → Type 0
EachSame same [] [] = Unit {0}
EachSame same [] (y ∷ ys) = ⊥
EachSame same (x ∷ xs) [] = ⊥
EachSame same (x ∷ xs) (y ∷ ys) = same x y × EachSame same xs ys

abbrev pub SameName : Name → Name → Type 0
SameName x y = x.text ≡ y.text

abbrev pub SameExpr : Expr → Expr → Type 0
SameExpr (Number m) (Number n) = m ≡ n
SameExpr (Variable x) (Variable y) = SameName x y
SameExpr (Binary' op p a q b) (Binary' op2 p2 a2 q2 b2) = (op ≡ op2) × SameExpr a a2 × SameExpr b b2
SameExpr (Number m) (Variable y) = ⊥
SameExpr (Number m) (Binary' op2 p2 a2 q2 b2) = ⊥
SameExpr (Variable x) (Number n) = ⊥
SameExpr (Variable x) (Binary' op2 p2 a2 q2 b2) = ⊥
SameExpr (Binary' op p a q b) (Number n) = ⊥
SameExpr (Binary' op p a q b) (Variable y) = ⊥

abbrev pub SameLet : Let → Let → Type 0
SameLet l m = SameName l.name m.name × SameExpr l.value m.value

abbrev pub SameArgument : Argument → Argument → Type 0
SameArgument (argument.Value a) (argument.Value b) = SameExpr a b
SameArgument (argument.Hole x) (argument.Hole y) = SameName x y
SameArgument (argument.Value a) (argument.Hole y) = ⊥
SameArgument (argument.Hole x) (argument.Value b) = ⊥

abbrev pub SameGiven : Given → Given → Type 0
SameGiven (Sent a) (Sent b) = SameExpr a b
SameGiven (Spawned s ds) (Spawned t es) = SameName s t × EachSame SameExpr ds es
SameGiven (Sent a) (Spawned t es) = ⊥
SameGiven (Spawned s ds) (Sent b) = ⊥

abbrev pub SameUse : Use → Use → Type 0
SameUse u v = SameName u.hole v.hole × SameGiven u.given v.given

abbrev pub SameEnd : End → End → Type 0
SameEnd (If' c p lets1 end1 close1 q lets2 end2 close2) (If' d r lets3 end3 close3 s lets4 end4 close4) = SameExpr c d × EachSame SameLet lets1 lets3 × SameEnd end1 end3 × EachSame SameLet lets2 lets4 × SameEnd end2 end4
SameEnd (Send k a) (Send l b) = SameName k l × SameExpr a b
SameEnd (Next t k args uses) (Next u l brgs vses) = SameName t u × SameName k l × EachSame SameArgument args brgs × EachSame SameUse uses vses
SameEnd (If' c p lets1 end1 close1 q lets2 end2 close2) (Send l b) = ⊥
SameEnd (If' c p lets1 end1 close1 q lets2 end2 close2) (Next u l brgs vses) = ⊥
SameEnd (Send k a) (If' d r lets3 end3 close3 s lets4 end4 close4) = ⊥
SameEnd (Send k a) (Next u l brgs vses) = ⊥
SameEnd (Next t k args uses) (If' d r lets3 end3 close3 s lets4 end4 close4) = ⊥
SameEnd (Next t k args uses) (Send l b) = ⊥

abbrev pub SameBlock : Block → Block → Type 0
SameBlock a b = EachSame SameLet a.lets b.lets × SameEnd a.end b.end

abbrev pub SameThread : Thread → Thread → Type 0
SameThread s t = SameName s.name t.name × SameName s.continuation t.continuation × EachSame SameName s.numbers t.numbers × SameBlock s.body t.body

-- the same threads, but for offsets
abbrev pub SameProgram : Program → Program → Type 0
SameProgram p q = EachSame SameThread p.threads q.threads
