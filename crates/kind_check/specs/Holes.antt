-- Each hole has exactly one use on each path of a body.
use Rattle.std.specs.Prelude.{◌≡◌, ℕ, Bool, true, false, ◌||◌, List, [], ◌∷◌, count_by}
use Rattle.std.specs.Str.{bytes_eq}
use Rattle.task_tree.specs.declared.tree.Argument.{Argument}
use Rattle.task_tree.specs.declared.tree.Argument.TheVariants as argument
use Rattle.task_tree.specs.declared.tree.Use.{Use}
use Rattle.task_tree.specs.declared.tree.End.{End}
use Rattle.task_tree.specs.declared.tree.End.TheVariants.{If', Send, Next}
use Rattle.task_tree.specs.declared.tree.Thread.{Thread}
use Rattle.task_tree.specs.declared.tree.Program.{Program}

-- how many uses a hole has
abbrev pub uses_count : List Use → List ℕ → ℕ
uses_count uses hole = count_by (λ u. bytes_eq u.hole.text hole) uses

-- each `?` among the arguments has one use
abbrev pub UsedOnce : List Use → List Argument → Type 0
UsedOnce uses [] = Unit {0}
UsedOnce uses (argument.Value e ∷ args) = UsedOnce uses args
UsedOnce uses (argument.Hole x ∷ args) = (uses_count uses x.text ≡ 1) × UsedOnce uses args

-- whether a name is that of a `?` among the arguments
abbrev pub has_hole : List Argument → List ℕ → Bool
has_hole [] name = false
has_hole (argument.Value e ∷ args) name = has_hole args name
has_hole (argument.Hole x ∷ args) name = bytes_eq x.text name || has_hole args name

-- each use is of a `?` among the arguments
abbrev pub AreHoles : List Argument → List Use → Type 0
AreHoles args [] = Unit {0}
AreHoles args (u ∷ us) = (has_hole args u.hole.text ≡ true) × AreHoles args us

-- so on each path to an end
abbrev pub EndUsesOnce : End → Type 0
EndUsesOnce (If' c p lets1 end1 close1 q lets2 end2 close2) = EndUsesOnce end1 × EndUsesOnce end2
EndUsesOnce (Send k e) = Unit {0}
EndUsesOnce (Next t k args uses) = UsedOnce uses args × AreHoles args uses

abbrev pub ThreadsUseOnce : List Thread → Type 0
ThreadsUseOnce [] = Unit {0}
ThreadsUseOnce (t ∷ ts) = EndUsesOnce t.body.end × ThreadsUseOnce ts

-- in each thread of a program
abbrev pub HolesUsedOnce : Program → Type 0
HolesUsedOnce p = ThreadsUseOnce p.threads
