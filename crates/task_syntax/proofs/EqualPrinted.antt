-- Programs that are the same but for where their parts lie in memory are printed alike.
use Rattle.std.proofs.Common.{◌≡◌, ◌++◌, List, [], ◌∷◌, map, refl, ap}
use Rattle.std.specs.List.{flat_map, join_with_byte}
use Rattle.task_tree.specs.declared.tree.Name.{Name}
use Rattle.task_tree.specs.declared.tree.Expr.{Expr}
use Rattle.task_tree.specs.declared.tree.Expr.TheVariants.{Number, Variable, Binary'}
use Rattle.task_tree.specs.declared.tree.Let.{Let}
use Rattle.task_tree.specs.declared.tree.Argument.{Argument}
use Rattle.task_tree.specs.declared.tree.Argument.TheVariants as argument
use Rattle.task_tree.specs.declared.tree.Given.{Given}
use Rattle.task_tree.specs.declared.tree.Given.TheVariants.{Sent, Spawned}
use Rattle.task_tree.specs.declared.tree.Use.{Use}
use Rattle.task_tree.specs.declared.tree.Block.{Block}
use Rattle.task_tree.specs.declared.tree.End.{End}
use Rattle.task_tree.specs.declared.tree.End.TheVariants.{If', Send, Next}
use Rattle.task_tree.specs.declared.tree.Thread.{Thread}
use Rattle.task_tree.specs.declared.tree.Program.{Program}
use Rattle.task_tree.specs.Shapes.{EachSame}
use Rattle.task_tree.specs.Equal.{EqualExpr, EqualLet, EqualArgument, EqualGiven, EqualUse, EqualEnd, EqualBlock, EqualThread, EqualProgram}
use Rattle.task_syntax.specs.Printed.{spelled, operand_kinds, expr_kinds, let_kinds, further_kinds, argument_kinds, given_kinds, use_kinds, end_kinds, block_kinds, thread_kinds, thread_line, printed}

-- lists whose items give the same give the same
each_alike : {A B : Type 0} (same : A → A → Type 0) (f : A → List B) → ((x y : A) → same x y → f x ≡ f y)
    → (xs ys : List A) → EachSame same xs ys → flat_map f xs ≡ flat_map f ys
each_alike same f one [] [] e = refl
each_alike same f one (x ∷ xs) (y ∷ ys) e = rw (one x y e.0, each_alike same f one xs ys e.1) refl
each_alike same f one xs ys e = absurd e

operand_alike : (a b : Expr) → EqualExpr a b → operand_kinds a ≡ operand_kinds b
operand_alike (Number m) (Number n) e = rw e refl
operand_alike (Variable x) (Variable y) e = rw e refl
operand_alike (Binary' op p a q b) (Binary' op2 p2 a2 q2 b2) e =
    rw (e.0, operand_alike a a2 e.1, operand_alike b b2 e.2) refl
operand_alike a b e = absurd e

expr_alike : (a b : Expr) → EqualExpr a b → expr_kinds a ≡ expr_kinds b
expr_alike (Number m) (Number n) e = rw e refl
expr_alike (Variable x) (Variable y) e = rw e refl
expr_alike (Binary' op p a q b) (Binary' op2 p2 a2 q2 b2) e =
    rw (e.0, operand_alike a a2 e.1, operand_alike b b2 e.2) refl
expr_alike a b e = absurd e

let_alike : (l m : Let) → EqualLet l m → let_kinds l ≡ let_kinds m
let_alike l m e = rw (e.0, expr_alike l.value m.value e.1) refl

further_alike : (a b : Expr) → EqualExpr a b → further_kinds a ≡ further_kinds b
further_alike a b e = rw (expr_alike a b e) refl

argument_alike : (a b : Argument) → EqualArgument a b → argument_kinds a ≡ argument_kinds b
argument_alike (argument.Value a) (argument.Value b) e = rw (expr_alike a b e) refl
argument_alike (argument.Hole x) (argument.Hole y) e = rw e refl
argument_alike a b e = absurd e

given_alike : (k : Name) (a b : Given) → EqualGiven a b → given_kinds k a ≡ given_kinds k b
given_alike k (Sent a) (Sent b) e = rw (expr_alike a b e) refl
given_alike k (Spawned s ds) (Spawned t es) e =
    rw (e.0, each_alike EqualExpr further_kinds further_alike ds es e.1) refl
given_alike k a b e = absurd e

use_alike : (u v : Use) → EqualUse u v → use_kinds u ≡ use_kinds v
use_alike u v e = rw (e.0, given_alike v.hole u.given v.given e.1) refl

end_alike : (a b : End) → EqualEnd a b → end_kinds a ≡ end_kinds b
end_alike (If' c p lets1 end1 close1 q lets2 end2 close2) (If' d r lets3 end3 close3 s lets4 end4 close4) e =
    rw (
      expr_alike c d e.0,
      each_alike EqualLet let_kinds let_alike lets1 lets3 e.1.0,
      end_alike end1 end3 e.1.1,
      each_alike EqualLet let_kinds let_alike lets2 lets4 e.2.0,
      end_alike end2 end4 e.2.1,
    ) refl
end_alike (Send k a) (Send l b) e = rw (e.0, expr_alike a b e.1) refl
end_alike (Next t k args uses) (Next u l brgs vses) e =
    rw (
      e.0,
      e.1,
      each_alike EqualArgument argument_kinds argument_alike args brgs e.2,
      each_alike EqualUse use_kinds use_alike uses vses e.3,
    ) refl
end_alike a b e = absurd e

block_alike : (a b : Block) → EqualBlock a b → block_kinds a ≡ block_kinds b
block_alike a b e = rw (each_alike EqualLet let_kinds let_alike a.lets b.lets e.0, end_alike a.end b.end e.1) refl

thread_alike : (s t : Thread) → EqualThread s t → thread_kinds s ≡ thread_kinds t
thread_alike s t e = rw (e.0, e.1, e.2, block_alike s.body t.body e.3) refl

line_alike : (s t : Thread) → EqualThread s t → thread_line s ≡ thread_line t
line_alike s t e = ap (λ kinds. join_with_byte 32 (map spelled kinds) ++ 10 ∷ []) (thread_alike s t e)

pub printed_alike : (p q : Program) → EqualProgram p q → printed p ≡ printed q
printed_alike p q e = each_alike EqualThread thread_line line_alike p.threads q.threads e.0
