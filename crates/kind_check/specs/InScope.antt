-- Bodies whose names are all there: each variable is one of the names of numbers in scope, each
-- thread that is spawned is there, and each hole is used.
use Rattle.std.specs.Prelude.{ℕ, ◌≤◌, List, [], ◌∷◌, ◌++◌, length, All, IsSome, IsSomeAnd}
use Rattle.task_tree.specs.declared.tree.Expr.{Expr}
use Rattle.task_tree.specs.declared.tree.Expr.TheVariants as expr
use Rattle.task_tree.specs.declared.tree.Let.{Let}
use Rattle.task_tree.specs.declared.tree.Argument.{Argument}
use Rattle.task_tree.specs.declared.tree.Argument.TheVariants.{Value, Hole}
use Rattle.task_tree.specs.declared.tree.Given.{Given}
use Rattle.task_tree.specs.declared.tree.Given.TheVariants.{Sent, Spawned}
use Rattle.task_tree.specs.declared.tree.Use.{Use}
use Rattle.task_tree.specs.declared.tree.Block.{Block}
use Rattle.task_tree.specs.declared.tree.End.{End}
use Rattle.task_tree.specs.declared.tree.End.TheVariants.{If', Send, Next}
use Rattle.task_tree.specs.declared.tree.Thread.{Thread}
use Rattle.kind_check.specs.Turns.{thread_of, use_of}
use Rattle.kind_check.specs.Places.{place_of}
use Rattle.kind_check.specs.Resolves.{after, names_of}

-- an expression, where these are the names of numbers in scope
abbrev pub ExprInScope : List (List ℕ) → Expr → Type 0
ExprInScope names (expr.Number n) = Unit {0}
ExprInScope names (expr.Variable x) = IsSome (place_of names x.text)
ExprInScope names (expr.Binary' op p a q b) = ExprInScope names a × ExprInScope names b

-- lets, each in the scope of those before
abbrev pub LetsInScope : List (List ℕ) → List Let → Type 0
LetsInScope names [] = Unit {0}
LetsInScope names (l ∷ ls) = ExprInScope names l.value × LetsInScope (names ++ l.name.text ∷ []) ls

-- what is given to a hole
abbrev pub GivenInScope : List Thread → List (List ℕ) → Given → Type 0
GivenInScope ts names (Sent e) = ExprInScope names e
GivenInScope ts names (Spawned name es) = IsSome (thread_of ts name.text) × All (ExprInScope names) es

-- an argument; a hole is used
abbrev pub ArgumentInScope : List Thread → List (List ℕ) → List Use → Argument → Type 0
ArgumentInScope ts names uses (Value e) = ExprInScope names e
ArgumentInScope ts names uses (Hole x) = IsSomeAnd (use_of uses x.text) (GivenInScope ts names)

-- a successor of that name, with at most 8 arguments
pub record NextInScope (ts : List Thread) (names : List (List ℕ)) (name : List ℕ) (args : List Argument) (uses : List Use) : Type 0 where
  pub thread : IsSome (thread_of ts name)
  pub few : length args ≤ 8
  pub arguments : All (ArgumentInScope ts names uses) args

-- the end of a block
abbrev pub EndInScope : List Thread → List (List ℕ) → End → Type 0
EndInScope ts names (If' e p lets1 end1 close1 q lets2 end2 close2) =
    ExprInScope names e × (LetsInScope names lets1 × EndInScope ts (after names lets1) end1) × (LetsInScope names lets2 × EndInScope ts (after names lets2) end2)
EndInScope ts names (Send k e) = ExprInScope names e
EndInScope ts names (Next name k args uses) = NextInScope ts names name.text args uses

abbrev pub BlockInScope : List Thread → List (List ℕ) → Block → Type 0
BlockInScope ts names b = LetsInScope names b.lets × EndInScope ts (after names b.lets) b.end

abbrev pub ThreadInScope : List Thread → Thread → Type 0
ThreadInScope ts t = BlockInScope ts (names_of t.numbers) t.body
