-- All kind faults of a program, as pairs of an offset and what is wrong there. Their order means
-- nothing.
use Rattle.std.specs.Prelude.{◌≡◌, ℕ, ◌+◌, ◌<◌, ◌≤◌, ◌==◌, ◌⊎◌, nat_lt, if◌then◌else◌, List, [], ◌∷◌, ◌++◌, length, Option, Some, None, codes, All, Contains}
use Rattle.std.specs.Str.{bytes_eq}
use Rattle.ids.specs.declared.error_numbers.TheConstants.{NO_MAIN, NAME_TWICE, UNKNOWN_THREAD, UNKNOWN_NAME, ARITY, KIND_MISMATCH, CONT_UNUSED, CONT_TWICE, LIMIT}
use Rattle.task_tree.specs.declared.tree.Name.{Name}
use Rattle.task_tree.specs.declared.tree.Expr.{Expr}
use Rattle.task_tree.specs.declared.tree.Expr.TheVariants.{Number, Variable, Binary'}
use Rattle.task_tree.specs.declared.tree.Let.{Let}
use Rattle.task_tree.specs.declared.tree.Argument.{Argument}
use Rattle.task_tree.specs.declared.tree.Argument.TheVariants as argument
use Rattle.task_tree.specs.declared.tree.Given.{Given}
use Rattle.task_tree.specs.declared.tree.Given.TheVariants.{Sent, Spawned}
use Rattle.task_tree.specs.declared.tree.Use.{Use}
use Rattle.task_tree.specs.declared.tree.Block.{Block}
use Rattle.task_tree.specs.declared.tree.End.{End}
use Rattle.task_tree.specs.declared.tree.End.TheVariants.{If', Send, Next}
use Rattle.task_tree.specs.declared.tree.Thread.{Thread}
use Rattle.task_tree.specs.declared.tree.Program.{Program}
use Rattle.kind_check.specs.declared.names.Kind.{Kind}
use Rattle.kind_check.specs.declared.names.Kind.TheVariants.{Own, Value, Waits}
use Rattle.kind_check.specs.declared.checked.KindFault.{KindFault}
use Rattle.kind_check.specs.declared.checked.KindFault.TheVariants.{NoMain, NameTwice, UnknownThread, UnknownName, Arity, KindMismatch, ContUnused, ContTwice, Limit}
use Rattle.kind_check.specs.Turns.{use_of}

-- an offset, and what is wrong there
abbrev pub Fault : Type 0
Fault = ℕ × KindFault

-- the names in scope with their kinds, the outermost first
abbrev pub Scope : Type 0
Scope = List (List ℕ × Kind)

-- what a name stands for
abbrev pub kind_of : Scope → List ℕ → Option Kind
kind_of [] name = None
kind_of (b ∷ s) name = if bytes_eq b.0 name then Some b.1 else kind_of s name

-- a name that has to be new
abbrev pub new_faults : ℕ → Option Kind → List Fault
new_faults at None = []
new_faults at (Some kind) = (at, NameTwice) ∷ []

-- a name where a number stands
abbrev pub number_faults : ℕ → Option Kind → List Fault
number_faults at None = (at, UnknownName) ∷ []
number_faults at (Some Value) = []
number_faults at (Some Own) = (at, KindMismatch) ∷ []
number_faults at (Some Waits) = (at, KindMismatch) ∷ []

-- a name where the own continuation stands
abbrev pub own_faults : ℕ → Option Kind → List Fault
own_faults at None = (at, UnknownName) ∷ []
own_faults at (Some Own) = []
own_faults at (Some Value) = (at, KindMismatch) ∷ []
own_faults at (Some Waits) = (at, KindMismatch) ∷ []

-- a name where a hole is used, and what was given to it before; the own continuation was taken
-- before
abbrev pub hole_faults : ℕ → Option Kind → Option Given → List Fault
hole_faults at None before = (at, UnknownName) ∷ []
hole_faults at (Some Waits) None = []
hole_faults at (Some Waits) (Some given) = (at, ContTwice) ∷ []
hole_faults at (Some Value) before = (at, KindMismatch) ∷ []
hole_faults at (Some Own) before = (at, ContTwice) ∷ []

abbrev pub expr_faults : Scope → Expr → List Fault
expr_faults s (Number n) = []
expr_faults s (Variable x) = number_faults x.offset (kind_of s x.text)
expr_faults s (Binary' op p a q b) = expr_faults s a ++ expr_faults s b

abbrev pub exprs_faults : Scope → List Expr → List Fault
exprs_faults s [] = []
exprs_faults s (e ∷ es) = expr_faults s e ++ exprs_faults s es

-- a name and its kind behind those in scope
abbrev pub with_name : Scope → List ℕ → Kind → Scope
with_name s name kind = s ++ (name, kind) ∷ []

-- the names in scope after lets
abbrev pub after_names : Scope → List Let → Scope
after_names s [] = s
after_names s (l ∷ ls) = after_names (with_name s l.name.text Value) ls

-- a let's name is new, and isn't in scope in its own expression
abbrev pub lets_faults : Scope → List Let → List Fault
lets_faults s [] = []
lets_faults s (l ∷ ls) = new_faults l.name.offset (kind_of s l.name.text) ++ (expr_faults s l.value ++ lets_faults (with_name s l.name.text Value) ls)

-- what is wrong where `count` arguments are given to a thread, if it is there
abbrev pub arity_faults : ℕ → ℕ → Option Thread → List Fault
arity_faults at count None = (at, UnknownThread) ∷ []
arity_faults at count (Some t) = if length t.numbers == count then [] else (at, Arity) ∷ []

-- the first thread of a name
abbrev pub thread_named : List Thread → List ℕ → Option Thread
thread_named [] name = None
thread_named (t ∷ ts) name = if bytes_eq t.name.text name then Some t else thread_named ts name

abbrev pub call_faults : List Thread → Name → ℕ → List Fault
call_faults ts name count = arity_faults name.offset count (thread_named ts name.text)

-- a `?` brings its hole into scope from there on
abbrev pub arguments_faults : Scope → List Argument → List Fault
arguments_faults s [] = []
arguments_faults s (argument.Value e ∷ args) = expr_faults s e ++ arguments_faults s args
arguments_faults s (argument.Hole x ∷ args) = new_faults x.offset (kind_of s x.text) ++ arguments_faults (with_name s x.text Waits) args

-- the names in scope behind the arguments of a `spawn_next`
abbrev pub after_arguments : Scope → List Argument → Scope
after_arguments s [] = s
after_arguments s (argument.Value e ∷ args) = after_arguments s args
after_arguments s (argument.Hole x ∷ args) = after_arguments (with_name s x.text Waits) args

-- what is given to a hole
abbrev pub given_faults : List Thread → Scope → Given → List Fault
given_faults ts s (Sent e) = expr_faults s e
given_faults ts s (Spawned name es) = call_faults ts name (length es) ++ exprs_faults s es

-- uses of holes, after those before
abbrev pub uses_faults : List Thread → Scope → List Use → List Use → List Fault
uses_faults ts s before [] = []
uses_faults ts s before (u ∷ us) = hole_faults u.hole.offset (kind_of s u.hole.text) (use_of before u.hole.text) ++ (given_faults ts s u.given ++ uses_faults ts s (before ++ u ∷ []) us)

-- at the closing brace, a hole that wasn't used
abbrev pub used_faults : ℕ → Option Given → List Fault
used_faults close None = (close, ContUnused) ∷ []
used_faults close (Some given) = []

abbrev pub unused_faults : ℕ → List Use → List Argument → List Fault
unused_faults close uses [] = []
unused_faults close uses (argument.Value e ∷ args) = unused_faults close uses args
unused_faults close uses (argument.Hole x ∷ args) = used_faults close (use_of uses x.text) ++ unused_faults close uses args

-- the end of a block whose closing brace stands at `close`
abbrev pub end_faults : List Thread → Scope → ℕ → End → List Fault
end_faults ts s close (If' c p lets1 end1 close1 q lets2 end2 close2) =
    expr_faults s c ++ ((lets_faults s lets1 ++ end_faults ts (after_names s lets1) close1 end1) ++ (lets_faults s lets2 ++ end_faults ts (after_names s lets2) close2 end2))
end_faults ts s close (Send k e) = own_faults k.offset (kind_of s k.text) ++ expr_faults s e
end_faults ts s close (Next name k args uses) =
    call_faults ts name (length args) ++ (own_faults k.offset (kind_of s k.text) ++ (arguments_faults s args ++ (uses_faults ts (after_arguments s args) [] uses ++ unused_faults close uses args)))

abbrev pub block_faults : List Thread → Scope → Block → List Fault
block_faults ts s b = lets_faults s b.lets ++ end_faults ts (after_names s b.lets) b.close b.end

-- more than `most` of something, of which this is number i, counted from 0
abbrev pub limit_faults : ℕ → ℕ → ℕ → List Fault
limit_faults at i most = if nat_lt i most then [] else (at, Limit) ∷ []

-- number parameters, the first of them number i: each name is new, and there are at most 8
abbrev pub parameters_faults : Scope → ℕ → List Name → List Fault
parameters_faults s i [] = []
parameters_faults s i (n ∷ ns) = new_faults n.offset (kind_of s n.text) ++ (limit_faults n.offset i 8 ++ parameters_faults (with_name s n.text Value) (i + 1) ns)

-- the names in scope behind number parameters
abbrev pub after_parameters : Scope → List Name → Scope
after_parameters s [] = s
after_parameters s (n ∷ ns) = after_parameters (with_name s n.text Value) ns

-- the name of the own continuation
abbrev pub own_scope : Thread → Scope
own_scope t = (t.continuation.text, Own) ∷ []

abbrev pub thread_faults : List Thread → Thread → List Fault
thread_faults ts t = parameters_faults (own_scope t) 0 t.numbers ++ block_faults ts (after_parameters (own_scope t) t.numbers) t.body

-- a thread's name that was there before
abbrev pub again_named : ℕ → Option Thread → List Fault
again_named at None = []
again_named at (Some t) = (at, NameTwice) ∷ []

-- threads behind those before: each name is new, and there are at most 64
abbrev pub threads_faults : List Thread → (before : List Thread) → List Thread → List Fault
threads_faults ts before [] = []
threads_faults ts before (t ∷ rest) = again_named t.name.offset (thread_named before t.name.text) ++ (limit_faults t.name.offset (length before) 64 ++ (thread_faults ts t ++ threads_faults ts (before ++ t ∷ []) rest))

-- no thread `main`
abbrev pub main_faults : ℕ → Option Thread → List Fault
main_faults at None = (at, NoMain) ∷ []
main_faults at (Some t) = []

-- all kind faults of a program
abbrev pub faults : Program → List Fault
faults p = threads_faults p.threads [] p.threads ++ main_faults p.length (thread_named p.threads (codes "main"))

-- the numbers of the faults, which decide at one offset
abbrev pub number_of_fault : KindFault → ℕ
number_of_fault NoMain = NO_MAIN
number_of_fault NameTwice = NAME_TWICE
number_of_fault UnknownThread = UNKNOWN_THREAD
number_of_fault UnknownName = UNKNOWN_NAME
number_of_fault Arity = ARITY
number_of_fault KindMismatch = KIND_MISMATCH
number_of_fault ContUnused = CONT_UNUSED
number_of_fault ContTwice = CONT_TWICE
number_of_fault Limit = LIMIT

-- f stands no later than g: at a smaller offset, or at the same with a number that isn't greater
abbrev pub IsNoLater : Fault → Fault → Type 0
IsNoLater f g = (f.0 < g.0) ⊎ ((f.0 ≡ g.0) × (number_of_fault f.1 ≤ number_of_fault g.1))

-- the least of the faults, by offset and then by number
pub record IsLeast (fs : List Fault) (f : Fault) : Type 0 where
  pub member : Contains fs f
  pub least : All (IsNoLater f) fs
