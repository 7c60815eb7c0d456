-- A body by places resolves a body by names: each name is found by its first place among the names
-- in scope.
use Rattle.std.specs.Prelude.{◌≡◌, ℕ, ◌+◌, ◌≤◌, List, [], ◌∷◌, ◌++◌, map, IsSomeAnd, Some}
use Rattle.task_tree.specs.declared.tree.Name.{Name}
use Rattle.task_tree.specs.declared.tree.Expr.{Expr}
use Rattle.task_tree.specs.declared.tree.Expr.TheVariants as expr
use Rattle.task_tree.specs.declared.tree.Let.{Let}
use Rattle.task_tree.specs.declared.tree.Argument.{Argument}
use Rattle.task_tree.specs.declared.tree.Argument.TheVariants.{Value, Hole}
use Rattle.task_tree.specs.declared.tree.Given.{Given}
use Rattle.task_tree.specs.declared.tree.Given.TheVariants.{Sent, Spawned}
use Rattle.task_tree.specs.declared.tree.Use.{Use}
use Rattle.task_tree.specs.declared.tree.Block.{Block}
use Rattle.task_tree.specs.declared.tree.End.{End}
use Rattle.task_tree.specs.declared.tree.End.TheVariants.{If', Send, Next}
use Rattle.task_tree.specs.declared.tree.Thread.{Thread}
use Rattle.kind_check.specs.declared.code.Code.{Code}
use Rattle.kind_check.specs.declared.code.Code.TheVariants.{Number, Local, Binary'}
use Rattle.kind_check.specs.declared.code.SlotCode.{SlotCode}
use Rattle.kind_check.specs.declared.code.SlotCode.TheVariants as slot
use Rattle.kind_check.specs.declared.code.Leaf.{Leaf}
use Rattle.kind_check.specs.declared.code.Leaf.TheVariants as leaf
use Rattle.kind_check.specs.declared.code.BlockCode.{BlockCode}
use Rattle.kind_check.specs.declared.code.EndCode.{EndCode}
use Rattle.kind_check.specs.declared.code.EndCode.TheVariants as end
use Rattle.kind_check.specs.Turns.{thread_of, use_of}
use Rattle.kind_check.specs.Places.{place_of}

-- the names of parameters
abbrev pub names_of : List Name → List (List ℕ)
names_of ns = map (λ n. n.text) ns

-- the names in scope behind lets
abbrev pub after : List (List ℕ) → List Let → List (List ℕ)
after names ls = names ++ map (λ l. l.name.text) ls

-- an expression
abbrev pub ResolvesExpr : List (List ℕ) → Expr → Code → Type 0
ResolvesExpr names (expr.Number n) (Number m) = n ≡ m
ResolvesExpr names (expr.Variable x) (Local i) = place_of names x.text ≡ Some i
ResolvesExpr names (expr.Binary' op p a q b) (Binary' op' p' x q' y) = (op ≡ op') × ResolvesExpr names a x × ResolvesExpr names b y
ResolvesExpr names e c = ⊥

-- expressions, one for one
abbrev pub ResolvesExprs : List (List ℕ) → List Expr → List Code → Type 0
ResolvesExprs names [] [] = Unit {0}
ResolvesExprs names (e ∷ es) (c ∷ cs) = ResolvesExpr names e c × ResolvesExprs names es cs
ResolvesExprs names es cs = ⊥

-- lets, each in the scope of those before
abbrev pub ResolvesLets : List (List ℕ) → List Let → List Code → Type 0
ResolvesLets names [] [] = Unit {0}
ResolvesLets names (l ∷ ls) (c ∷ cs) = ResolvesExpr names l.value c × ResolvesLets (names ++ l.name.text ∷ []) ls cs
ResolvesLets names ls cs = ⊥

-- what is given to hole i
abbrev pub ResolvesGiven : List Thread → List (List ℕ) → ℕ → Given → SlotCode → Type 0
ResolvesGiven ts names i (Sent e) (slot.Given c) = ResolvesExpr names e c
ResolvesGiven ts names i (Spawned name es) (slot.Spawns h t cs) = (h ≡ i) × (thread_of ts name.text ≡ Some t) × ResolvesExprs names es cs
ResolvesGiven ts names i given s = ⊥

-- the slot of an argument; a hole is one of 8, and used
abbrev pub ResolvesSlot : List Thread → List (List ℕ) → List Use → ℕ → Argument → SlotCode → Type 0
ResolvesSlot ts names uses i (Value e) s = ResolvesGiven ts names i (Sent e) s
ResolvesSlot ts names uses i (Hole x) s = (i ≤ 8) × IsSomeAnd (use_of uses x.text) (λ given. ResolvesGiven ts names i given s)

-- the number of the next hole
abbrev pub next_hole : ℕ → Argument → ℕ
next_hole i (Value e) = i
next_hole i (Hole x) = i + 1

-- the slots of a successor, the next hole being hole i
abbrev pub ResolvesSlots : List Thread → List (List ℕ) → List Use → ℕ → List Argument → List SlotCode → Type 0
ResolvesSlots ts names uses i [] [] = Unit {0}
ResolvesSlots ts names uses i (a ∷ args) (c ∷ cs) = ResolvesSlot ts names uses i a c × ResolvesSlots ts names uses (next_hole i a) args cs
ResolvesSlots ts names uses i args cs = ⊥

-- a successor of that name, with these arguments and uses
abbrev pub ResolvesNext : List Thread → List (List ℕ) → List ℕ → List Argument → List Use → Leaf → Type 0
ResolvesNext ts names name args uses (leaf.Joins t cs) = (thread_of ts name ≡ Some t) × ResolvesSlots ts names uses 1 args cs
ResolvesNext ts names name args uses l = ⊥

-- the end of a block
abbrev pub ResolvesEnd : List Thread → List (List ℕ) → End → EndCode → Type 0
ResolvesEnd ts names (If' e p lets1 end1 close1 q lets2 end2 close2) (end.If' c p' codes1 to1 q' codes2 to2) =
    ResolvesExpr names e c × (ResolvesLets names lets1 codes1 × ResolvesEnd ts (after names lets1) end1 to1) × (ResolvesLets names lets2 codes2 × ResolvesEnd ts (after names lets2) end2 to2)
ResolvesEnd ts names (Send k e) (end.Leaf (leaf.Sends c)) = ResolvesExpr names e c
ResolvesEnd ts names (Next name k args uses) (end.Leaf l) = ResolvesNext ts names name.text args uses l
ResolvesEnd ts names e c = ⊥

abbrev pub ResolvesBlock : List Thread → List (List ℕ) → Block → BlockCode → Type 0
ResolvesBlock ts names b c = ResolvesLets names b.lets c.lets × ResolvesEnd ts (after names b.lets) b.end c.end

abbrev pub ResolvesThread : List Thread → Thread → BlockCode → Type 0
ResolvesThread ts t c = ResolvesBlock ts (names_of t.numbers) t.body c

-- threads, one for one
abbrev pub ResolvesThreads : List Thread → List Thread → List BlockCode → Type 0
ResolvesThreads ts [] [] = Unit {0}
ResolvesThreads ts (t ∷ rest) (c ∷ cs) = ResolvesThread ts t c × ResolvesThreads ts rest cs
ResolvesThreads ts rest cs = ⊥
