-- Programs that are the same but for where their parts lie in memory.
use Rattle.std.specs.Prelude.{◌≡◌}
use Rattle.task_tree.specs.declared.tree.Expr.{Expr}
use Rattle.task_tree.specs.declared.tree.Expr.TheVariants.{Number, Variable, Binary'}
use Rattle.task_tree.specs.declared.tree.Let.{Let}
use Rattle.task_tree.specs.declared.tree.Argument.{Argument}
use Rattle.task_tree.specs.declared.tree.Argument.TheVariants as argument
use Rattle.task_tree.specs.declared.tree.Given.{Given}
use Rattle.task_tree.specs.declared.tree.Given.TheVariants.{Sent, Spawned}
use Rattle.task_tree.specs.declared.tree.Use.{Use}
use Rattle.task_tree.specs.declared.tree.Block.{Block}
use Rattle.task_tree.specs.declared.tree.End.{End}
use Rattle.task_tree.specs.declared.tree.End.TheVariants.{If', Send, Next}
use Rattle.task_tree.specs.declared.tree.Thread.{Thread}
use Rattle.task_tree.specs.declared.tree.Program.{Program}
use Rattle.task_tree.specs.Shapes.{EachSame}

-- equal but for where the operands of operators lie (p, q)
abbrev pub EqualExpr : Expr → Expr → Type 0
EqualExpr (Number m) (Number n) = m ≡ n
EqualExpr (Variable x) (Variable y) = x ≡ y
EqualExpr (Binary' op p a q b) (Binary' op2 p2 a2 q2 b2) = (op ≡ op2) × EqualExpr a a2 × EqualExpr b b2
EqualExpr (Number m) (Variable y) = ⊥
EqualExpr (Number m) (Binary' op2 p2 a2 q2 b2) = ⊥
EqualExpr (Variable x) (Number n) = ⊥
EqualExpr (Variable x) (Binary' op2 p2 a2 q2 b2) = ⊥
EqualExpr (Binary' op p a q b) (Number n) = ⊥
EqualExpr (Binary' op p a q b) (Variable y) = ⊥

abbrev pub EqualLet : Let → Let → Type 0
EqualLet l m = (l.name ≡ m.name) × EqualExpr l.value m.value

abbrev pub EqualArgument : Argument → Argument → Type 0
EqualArgument (argument.Value a) (argument.Value b) = EqualExpr a b
EqualArgument (argument.Hole x) (argument.Hole y) = x ≡ y
EqualArgument (argument.Value a) (argument.Hole y) = ⊥
EqualArgument (argument.Hole x) (argument.Value b) = ⊥

abbrev pub EqualGiven : Given → Given → Type 0
EqualGiven (Sent a) (Sent b) = EqualExpr a b
EqualGiven (Spawned s ds) (Spawned t es) = (s ≡ t) × EachSame EqualExpr ds es
EqualGiven (Sent a) (Spawned t es) = ⊥
EqualGiven (Spawned s ds) (Sent b) = ⊥

abbrev pub EqualUse : Use → Use → Type 0
EqualUse u v = (u.hole ≡ v.hole) × EqualGiven u.given v.given

-- equal but for where the blocks of an `if` lie (p, q and r, s)
abbrev pub EqualEnd : End → End → Type 0
EqualEnd (If' c p lets1 end1 close1 q lets2 end2 close2) (If' d r lets3 end3 close3 s lets4 end4 close4) =
    EqualExpr c d
    × (EachSame EqualLet lets1 lets3 × EqualEnd end1 end3 × (close1 ≡ close3))
    × (EachSame EqualLet lets2 lets4 × EqualEnd end2 end4 × (close2 ≡ close4))
EqualEnd (Send k a) (Send l b) = (k ≡ l) × EqualExpr a b
EqualEnd (Next t k args uses) (Next u l brgs vses) = (t ≡ u) × (k ≡ l) × EachSame EqualArgument args brgs × EachSame EqualUse uses vses
EqualEnd (If' c p lets1 end1 close1 q lets2 end2 close2) (Send l b) = ⊥
EqualEnd (If' c p lets1 end1 close1 q lets2 end2 close2) (Next u l brgs vses) = ⊥
EqualEnd (Send k a) (If' d r lets3 end3 close3 s lets4 end4 close4) = ⊥
EqualEnd (Send k a) (Next u l brgs vses) = ⊥
EqualEnd (Next t k args uses) (If' d r lets3 end3 close3 s lets4 end4 close4) = ⊥
EqualEnd (Next t k args uses) (Send l b) = ⊥

abbrev pub EqualBlock : Block → Block → Type 0
EqualBlock a b = EachSame EqualLet a.lets b.lets × EqualEnd a.end b.end × (a.close ≡ b.close)

abbrev pub EqualThread : Thread → Thread → Type 0
EqualThread s t = (s.name ≡ t.name) × (s.continuation ≡ t.continuation) × (s.numbers ≡ t.numbers) × EqualBlock s.body t.body

-- the same threads in texts of the same length, but for where the parts lie in memory
abbrev pub EqualProgram : Program → Program → Type 0
EqualProgram p q = EachSame EqualThread p.threads q.threads × (p.length ≡ q.length)
