-- Programs that are the same but for where their parts lie in memory have the same faults, and
-- their threads the same turns.
use Rattle.std.proofs.Common.{◌≡◌, ℕ, ℤ, ◌+◌, zero, suc, Bool, true, false, nat_lt, if◌then◌else◌, List, [], ◌∷◌, ◌++◌, length, codes, Option, Some, None, refl, sym, ◌∙◌, ap}
use Rattle.std.specs.List.{slice_get}
use Rattle.std.specs.Str.{bytes_eq}
use Rattle.task_tree.specs.declared.tree.Name.{Name}
use Rattle.task_tree.specs.declared.tree.Expr.{Expr}
use Rattle.task_tree.specs.declared.tree.Expr.TheVariants.{Number, Variable, Binary'}
use Rattle.task_tree.specs.declared.tree.Let.{Let}
use Rattle.task_tree.specs.declared.tree.Argument.{Argument}
use Rattle.task_tree.specs.declared.tree.Argument.TheVariants as argument
use Rattle.task_tree.specs.declared.tree.Given.{Given}
use Rattle.task_tree.specs.declared.tree.Given.TheVariants.{Sent, Spawned}
use Rattle.task_tree.specs.declared.tree.Use.{Use}
use Rattle.task_tree.specs.declared.tree.Block.{Block}
use Rattle.task_tree.specs.declared.tree.End.{End}
use Rattle.task_tree.specs.declared.tree.End.TheVariants.{If', Send, Next}
use Rattle.task_tree.specs.declared.tree.Thread.{Thread}
use Rattle.task_tree.specs.declared.tree.Program.{Program}
use Rattle.task_tree.specs.Shapes.{EachSame}
use Rattle.task_tree.specs.Equal.{EqualExpr, EqualLet, EqualArgument, EqualGiven, EqualUse, EqualEnd, EqualBlock, EqualThread, EqualProgram}
use Rattle.kind_check.specs.declared.names.Kind.{Kind}
use Rattle.kind_check.specs.declared.names.Kind.TheVariants.{Value, Own, Waits}
use Rattle.kind_check.specs.declared.turn.Slot.{Slot}
use Rattle.kind_check.specs.Value.{Env, value_of}
use Rattle.kind_check.specs.Turns.{◌>>=◌, values_of, after_lets, thread_from, use_of, slot_for, slots_of, end_turn, block_turn, bind, thread_turn, turn_of}
use Rattle.kind_check.specs.Total.{Takes, arity_of}
use Rattle.kind_check.specs.Faults.{Scope, expr_faults, exprs_faults, with_name, after_names, lets_faults, arity_faults, thread_named, call_faults, arguments_faults, after_arguments, hole_faults, kind_of, given_faults, uses_faults, used_faults, unused_faults, end_faults, block_faults, own_scope, after_parameters, thread_faults, again_named, threads_faults, main_faults, faults}

-- the same is made of the same choice
chosen_alike : {A X : Type 0} (f g : Option A → X) (b c : Bool) (x y : A) (o r : Option A) → b ≡ c
    → f (Some x) ≡ g (Some y) → f o ≡ g r → f (if b then Some x else o) ≡ g (if c then Some y else r)
chosen_alike f g b c x y o r same some other = rw same (at_one c)
  where
    at_one : (c : Bool) → f (if c then Some x else o) ≡ g (if c then Some y else r)
    at_one true = some
    at_one false = other

-- the same second steps give the same
then_alike : {A B : Type 0} (o : Option A) (f g : A → Option B) → ((a : A) → f a ≡ g a) → (o >>= f) ≡ (o >>= g)
then_alike None f g same = refl
then_alike (Some a) f g same = same a

length_alike : {A : Type 0} (same : A → A → Type 0) (xs ys : List A) → EachSame same xs ys → length xs ≡ length ys
length_alike same [] [] e = refl
length_alike same (x ∷ xs) (y ∷ ys) e = rw (length_alike same xs ys e.1) refl
length_alike same xs ys e = absurd e

-- one more item behind each
more_alike : {A : Type 0} (same : A → A → Type 0) (xs ys : List A) (x y : A) → EachSame same xs ys → same x y
    → EachSame same (xs ++ x ∷ []) (ys ++ y ∷ [])
more_alike same [] [] x y e one = (one, tt)
more_alike same (a ∷ xs) (b ∷ ys) x y e one = (e.0, more_alike same xs ys x y e.1 one)
more_alike same xs ys x y e one = absurd e

-- what is made of the use of a hole
use_alike : {X : Type 0} (f g : Option Given → X) → f None ≡ g None
    → ((a b : Given) → EqualGiven a b → f (Some a) ≡ g (Some b)) → (hole : List ℕ) (us vs : List Use)
    → EachSame EqualUse us vs → f (use_of us hole) ≡ g (use_of vs hole)
use_alike f g none some hole [] [] e = none
use_alike f g none some hole (u ∷ us) (v ∷ vs) e =
    chosen_alike f g (bytes_eq u.hole.text hole) (bytes_eq v.hole.text hole) u.given v.given (use_of us hole)
    (use_of vs hole) (ap (λ (x : Name). bytes_eq x.text hole) e.0.0) (some u.given v.given e.0.1)
    (use_alike f g none some hole us vs e.1)
use_alike f g none some hole us vs e = absurd e

-- what is made of the thread of a name
named_alike : {X : Type 0} (f g : Option Thread → X) → f None ≡ g None
    → ((s t : Thread) → EqualThread s t → f (Some s) ≡ g (Some t)) → (name : List ℕ) (ts us : List Thread)
    → EachSame EqualThread ts us → f (thread_named ts name) ≡ g (thread_named us name)
named_alike f g none some name [] [] e = none
named_alike f g none some name (t ∷ ts) (u ∷ us) e =
    chosen_alike f g (bytes_eq t.name.text name) (bytes_eq u.name.text name) t u (thread_named ts name)
    (thread_named us name) (ap (λ (x : Name). bytes_eq x.text name) e.0.0) (some t u e.0)
    (named_alike f g none some name ts us e.1)
named_alike f g none some name ts us e = absurd e

-- what the thread of a number gives
numbered_alike : {X : Type 0} (f g : Thread → Option X) → ((s t : Thread) → EqualThread s t → f s ≡ g t)
    → (ts us : List Thread) (t : ℕ) → EachSame EqualThread ts us → (slice_get ts t >>= f) ≡ (slice_get us t >>= g)
numbered_alike f g one [] [] t e = refl
numbered_alike f g one (s ∷ ts) (u ∷ us) zero e = one s u e.0
numbered_alike f g one (s ∷ ts) (u ∷ us) (suc t) e = numbered_alike f g one ts us t e.1
numbered_alike f g one ts us t e = absurd e

value_alike : (env : Env) (a b : Expr) → EqualExpr a b → value_of env a ≡ value_of env b
value_alike env (Number m) (Number n) e = rw e refl
value_alike env (Variable x) (Variable y) e = rw e refl
value_alike env (Binary' op p a q b) (Binary' op2 p2 a2 q2 b2) e =
    rw (e.0, value_alike env a a2 e.1, value_alike env b b2 e.2) refl
value_alike env a b e = absurd e

values_alike : (env : Env) (ds es : List Expr) → EachSame EqualExpr ds es → values_of env ds ≡ values_of env es
values_alike env [] [] e = refl
values_alike env (d ∷ ds) (c ∷ cs) e = rw (value_alike env d c e.0, values_alike env ds cs e.1) refl
values_alike env ds es e = absurd e

after_alike : (env : Env) (ls ms : List Let) → EachSame EqualLet ls ms → after_lets env ls ≡ after_lets env ms
after_alike env [] [] e = refl
after_alike env (l ∷ ls) (m ∷ ms) e =
    rw (e.0.0, value_alike env l.value m.value e.0.1)
    (then_alike (value_of env m.value) (λ (v : ℤ). after_lets (env ++ (m.name.text, v) ∷ []) ls)
    (λ (v : ℤ). after_lets (env ++ (m.name.text, v) ∷ []) ms)
    (λ v. after_alike (env ++ (m.name.text, v) ∷ []) ls ms e.1))
after_alike env ls ms e = absurd e

-- a name is that of the same number
pub from_alike : (i : ℕ) (name : List ℕ) (ts us : List Thread) → EachSame EqualThread ts us
    → thread_from i ts name ≡ thread_from i us name
from_alike i name [] [] e = refl
from_alike i name (t ∷ ts) (u ∷ us) e = rw (e.0.0, from_alike (i + 1) name ts us e.1) refl
from_alike i name ts us e = absurd e

slot_alike : (ts us : List Thread) (env : Env) (i : ℕ) (a b : Given) → EachSame EqualThread ts us → EqualGiven a b
    → slot_for ts env i a ≡ slot_for us env i b
slot_alike ts us env i (Sent a) (Sent b) threads e = rw (value_alike env a b e) refl
slot_alike ts us env i (Spawned s ds) (Spawned t es) threads e =
    rw (e.0, from_alike 0 t.text ts us threads, values_alike env ds es e.1) refl
slot_alike ts us env i a b threads e = absurd e

abbrev given_slots : List Thread → Env → List Use → ℕ → List Argument → Option Given → Option (List Slot)
given_slots ts env uses i args given =
    given >>= λ (g : Given). slot_for ts env i g >>= λ (slot : Slot). slots_of ts env uses
    (i + 1) args >>= λ (slots : List Slot). Some (slot ∷ slots)

slots_alike : (ts us : List Thread) (env : Env) (uses vses : List Use) (i : ℕ) (args brgs : List Argument)
    → EachSame EqualThread ts us → EachSame EqualUse uses vses → EachSame EqualArgument args brgs
    → slots_of ts env uses i args ≡ slots_of us env vses i brgs
slots_alike ts us env uses vses i [] [] threads used e = refl
slots_alike ts us env uses vses i (argument.Value a ∷ args) (argument.Value b ∷ brgs) threads used e =
    rw (value_alike env a b e.0, slots_alike ts us env uses vses i args brgs threads used e.1) refl
slots_alike ts us env uses vses i (argument.Hole x ∷ args) (argument.Hole y ∷ brgs) threads used e =
    let rest = slots_alike ts us env uses vses (i + 1) args brgs threads used e.1 in
    let slots : given_slots ts env uses i args (use_of uses y.text)
    ≡ given_slots us env vses i brgs (use_of vses y.text) =
    use_alike (given_slots ts env uses i args) (given_slots us env vses i brgs) refl
    (λ a b same. rw (slot_alike ts us env i a b threads same, rest) refl) y.text uses vses used in
    rw e.0 (ap (λ (o : Option (List Slot)). if nat_lt 8 i then None else o) slots)
slots_alike ts us env uses vses i (argument.Value a ∷ args) (argument.Hole y ∷ brgs) threads used e = absurd e.0
slots_alike ts us env uses vses i (argument.Hole x ∷ args) (argument.Value b ∷ brgs) threads used e = absurd e.0
slots_alike ts us env uses vses i args brgs threads used e = absurd e

end_alike : (ts us : List Thread) (env : Env) (a b : End) → EachSame EqualThread ts us → EqualEnd a b
    → end_turn ts env a ≡ end_turn us env b
end_alike ts us env (If' c p lets1 end1 close1 q lets2 end2 close2)
    (If' d r lets3 end3 close3 s lets4 end4 close4) threads e =
    let first = then_alike (after_lets env lets3) (λ (inner : Env). end_turn ts inner end1)
    (λ (inner : Env). end_turn us inner end3) (λ inner. end_alike ts us inner end1 end3 threads e.1.1) in
    let second = then_alike (after_lets env lets4) (λ (inner : Env). end_turn ts inner end2)
    (λ (inner : Env). end_turn us inner end4) (λ inner. end_alike ts us inner end2 end4 threads e.2.1) in
    rw (
      value_alike env c d e.0,
      after_alike env lets1 lets3 e.1.0,
      after_alike env lets2 lets4 e.2.0,
      first,
      second,
    ) refl
end_alike ts us env (Send k a) (Send l b) threads e = rw (value_alike env a b e.1) refl
end_alike ts us env (Next t k args uses) (Next u l brgs vses) threads e =
    rw (e.0, from_alike 0 u.text ts us threads, slots_alike ts us env uses vses 1 args brgs threads e.3 e.2) refl
end_alike ts us env a b threads e = absurd e

block_alike : (ts us : List Thread) (env : Env) (a b : Block) → EachSame EqualThread ts us → EqualBlock a b
    → block_turn ts env a ≡ block_turn us env b
block_alike ts us env a b threads e =
    rw (after_alike env a.lets b.lets e.0)
    (then_alike (after_lets env b.lets) (λ (inner : Env). end_turn ts inner a.end)
    (λ (inner : Env). end_turn us inner b.end) (λ inner. end_alike ts us inner a.end b.end threads e.1))

thread_alike : (ts us : List Thread) (numbers : List ℤ) (s t : Thread) → EachSame EqualThread ts us → EqualThread s t
    → thread_turn ts s numbers ≡ thread_turn us t numbers
thread_alike ts us numbers s t threads e =
    rw e.2 (then_alike (bind t.numbers numbers) (λ (env : Env). block_turn ts env s.body)
    (λ (env : Env). block_turn us env t.body) (λ env. block_alike ts us env s.body t.body threads e.3))

-- their threads reach the same ends
pub turns_alike : (p q : Program) → EqualProgram p q → (t : ℕ) (numbers : List ℤ)
    → turn_of p t numbers ≡ turn_of q t numbers
turns_alike p q e t numbers =
    numbered_alike (λ (s : Thread). thread_turn p.threads s numbers) (λ (s : Thread). thread_turn q.threads s numbers)
    (λ s u same. thread_alike p.threads q.threads numbers s u e.0 same) p.threads q.threads t e.0

-- and take as many numbers
pub takes_alike : (p q : Program) → EqualProgram p q → (t count : ℕ) → Takes p t count → Takes q t count
takes_alike p q e t count takes =
    let same : arity_of p t ≡ arity_of q t =
    numbered_alike (λ (s : Thread). Some (length s.numbers)) (λ (s : Thread). Some (length s.numbers))
    (λ s u alike. rw alike.2 refl) p.threads q.threads t e.0 in
    record { arity = sym same ∙ takes.arity }

expr_faults_alike : (s : Scope) (a b : Expr) → EqualExpr a b → expr_faults s a ≡ expr_faults s b
expr_faults_alike s (Number m) (Number n) e = refl
expr_faults_alike s (Variable x) (Variable y) e = rw e refl
expr_faults_alike s (Binary' op p a q b) (Binary' op2 p2 a2 q2 b2) e =
    rw (expr_faults_alike s a a2 e.1, expr_faults_alike s b b2 e.2) refl
expr_faults_alike s a b e = absurd e

exprs_faults_alike : (s : Scope) (ds es : List Expr) → EachSame EqualExpr ds es → exprs_faults s ds ≡ exprs_faults s es
exprs_faults_alike s [] [] e = refl
exprs_faults_alike s (d ∷ ds) (c ∷ cs) e = rw (expr_faults_alike s d c e.0, exprs_faults_alike s ds cs e.1) refl
exprs_faults_alike s ds es e = absurd e

names_alike : (s : Scope) (ls ms : List Let) → EachSame EqualLet ls ms → after_names s ls ≡ after_names s ms
names_alike s [] [] e = refl
names_alike s (l ∷ ls) (m ∷ ms) e = rw e.0.0 (names_alike (with_name s m.name.text Value) ls ms e.1)
names_alike s ls ms e = absurd e

lets_faults_alike : (s : Scope) (ls ms : List Let) → EachSame EqualLet ls ms → lets_faults s ls ≡ lets_faults s ms
lets_faults_alike s [] [] e = refl
lets_faults_alike s (l ∷ ls) (m ∷ ms) e =
    rw (
      e.0.0,
      expr_faults_alike s l.value m.value e.0.1,
      lets_faults_alike (with_name s m.name.text Value) ls ms e.1,
    ) refl
lets_faults_alike s ls ms e = absurd e

call_faults_alike : (ts us : List Thread) (name : Name) (count : ℕ) → EachSame EqualThread ts us
    → call_faults ts name count ≡ call_faults us name count
call_faults_alike ts us name count threads =
    named_alike (arity_faults name.offset count) (arity_faults name.offset count) refl
    (λ s t e. rw e.2 refl) name.text ts us threads

arguments_faults_alike : (s : Scope) (args brgs : List Argument) → EachSame EqualArgument args brgs
    → arguments_faults s args ≡ arguments_faults s brgs
arguments_faults_alike s [] [] e = refl
arguments_faults_alike s (argument.Value a ∷ args) (argument.Value b ∷ brgs) e =
    rw (expr_faults_alike s a b e.0, arguments_faults_alike s args brgs e.1) refl
arguments_faults_alike s (argument.Hole x ∷ args) (argument.Hole y ∷ brgs) e =
    rw (e.0, arguments_faults_alike (with_name s y.text Waits) args brgs e.1) refl
arguments_faults_alike s (argument.Value a ∷ args) (argument.Hole y ∷ brgs) e = absurd e.0
arguments_faults_alike s (argument.Hole x ∷ args) (argument.Value b ∷ brgs) e = absurd e.0
arguments_faults_alike s args brgs e = absurd e

holes_alike : (s : Scope) (args brgs : List Argument) → EachSame EqualArgument args brgs
    → after_arguments s args ≡ after_arguments s brgs
holes_alike s [] [] e = refl
holes_alike s (argument.Value a ∷ args) (argument.Value b ∷ brgs) e = holes_alike s args brgs e.1
holes_alike s (argument.Hole x ∷ args) (argument.Hole y ∷ brgs) e =
    rw e.0 (holes_alike (with_name s y.text Waits) args brgs e.1)
holes_alike s (argument.Value a ∷ args) (argument.Hole y ∷ brgs) e = absurd e.0
holes_alike s (argument.Hole x ∷ args) (argument.Value b ∷ brgs) e = absurd e.0
holes_alike s args brgs e = absurd e

given_faults_alike : (ts us : List Thread) (s : Scope) (a b : Given) → EachSame EqualThread ts us → EqualGiven a b
    → given_faults ts s a ≡ given_faults us s b
given_faults_alike ts us s (Sent a) (Sent b) threads e = expr_faults_alike s a b e
given_faults_alike ts us s (Spawned t ds) (Spawned u es) threads e =
    rw (
      e.0,
      length_alike EqualExpr ds es e.1,
      call_faults_alike ts us u (length es) threads,
      exprs_faults_alike s ds es e.1,
    ) refl
given_faults_alike ts us s a b threads e = absurd e

-- which given it was doesn't matter
again_alike : (at : ℕ) (k : Option Kind) (a b : Given) → hole_faults at k (Some a) ≡ hole_faults at k (Some b)
again_alike at None a b = refl
again_alike at (Some Waits) a b = refl
again_alike at (Some Value) a b = refl
again_alike at (Some Own) a b = refl

uses_faults_alike : (ts us : List Thread) (s : Scope) (old new uses vses : List Use) → EachSame EqualThread ts us
    → EachSame EqualUse old new → EachSame EqualUse uses vses → uses_faults ts s old uses ≡ uses_faults us s new vses
uses_faults_alike ts us s old new [] [] threads before e = refl
uses_faults_alike ts us s old new (u ∷ uses) (v ∷ vses) threads before e =
    let again = use_alike (hole_faults v.hole.offset (kind_of s v.hole.text))
    (hole_faults v.hole.offset (kind_of s v.hole.text)) refl
    (λ a b same. again_alike v.hole.offset (kind_of s v.hole.text) a b) v.hole.text old new before in
    let given = given_faults_alike ts us s u.given v.given threads e.0.1 in
    let rest = uses_faults_alike ts us s (old ++ u ∷ []) (new ++ v ∷ []) uses vses threads
    (more_alike EqualUse old new u v before e.0) e.1 in
    rw (rest, given, e.0.0, again) refl
uses_faults_alike ts us s old new uses vses threads before e = absurd e

unused_faults_alike : (close : ℕ) (uses vses : List Use) (args brgs : List Argument) → EachSame EqualUse uses vses
    → EachSame EqualArgument args brgs → unused_faults close uses args ≡ unused_faults close vses brgs
unused_faults_alike close uses vses [] [] used e = refl
unused_faults_alike close uses vses (argument.Value a ∷ args) (argument.Value b ∷ brgs) used e =
    unused_faults_alike close uses vses args brgs used e.1
unused_faults_alike close uses vses (argument.Hole x ∷ args) (argument.Hole y ∷ brgs) used e =
    let here = use_alike (used_faults close) (used_faults close) refl (λ a b same. refl) y.text uses vses used in
    rw (e.0, here, unused_faults_alike close uses vses args brgs used e.1) refl
unused_faults_alike close uses vses (argument.Value a ∷ args) (argument.Hole y ∷ brgs) used e = absurd e.0
unused_faults_alike close uses vses (argument.Hole x ∷ args) (argument.Value b ∷ brgs) used e = absurd e.0
unused_faults_alike close uses vses args brgs used e = absurd e

end_faults_alike : (ts us : List Thread) (s : Scope) (close : ℕ) (a b : End) → EachSame EqualThread ts us → EqualEnd a b
    → end_faults ts s close a ≡ end_faults us s close b
end_faults_alike ts us s close (If' c p lets1 end1 close1 q lets2 end2 close2)
    (If' d r lets3 end3 close3 t lets4 end4 close4) threads e =
    let first = end_faults_alike ts us (after_names s lets3) close3 end1 end3 threads e.1.1 in
    let second = end_faults_alike ts us (after_names s lets4) close4 end2 end4 threads e.2.1 in
    rw (
      expr_faults_alike s c d e.0,
      e.1.2,
      e.2.2,
      lets_faults_alike s lets1 lets3 e.1.0,
      lets_faults_alike s lets2 lets4 e.2.0,
      names_alike s lets1 lets3 e.1.0,
      names_alike s lets2 lets4 e.2.0,
      first,
      second,
    ) refl
end_faults_alike ts us s close (Send k a) (Send l b) threads e = rw (e.0, expr_faults_alike s a b e.1) refl
end_faults_alike ts us s close (Next t k args uses) (Next u l brgs vses) threads e =
    let call = call_faults_alike ts us u (length brgs) threads in
    let given = uses_faults_alike ts us (after_arguments s brgs) [] [] uses vses threads tt e.3 in
    rw (
      e.0,
      e.1,
      length_alike EqualArgument args brgs e.2,
      call,
      arguments_faults_alike s args brgs e.2,
      holes_alike s args brgs e.2,
      given,
      unused_faults_alike close uses vses args brgs e.3 e.2,
    ) refl
end_faults_alike ts us s close a b threads e = absurd e

block_faults_alike : (ts us : List Thread) (s : Scope) (a b : Block) → EachSame EqualThread ts us → EqualBlock a b
    → block_faults ts s a ≡ block_faults us s b
block_faults_alike ts us s a b threads e =
    rw (
      e.2,
      lets_faults_alike s a.lets b.lets e.0,
      names_alike s a.lets b.lets e.0,
      end_faults_alike ts us (after_names s b.lets) b.close a.end b.end threads e.1,
    ) refl

thread_faults_alike : (ts us : List Thread) (s t : Thread) → EachSame EqualThread ts us → EqualThread s t
    → thread_faults ts s ≡ thread_faults us t
thread_faults_alike ts us s t threads e =
    rw (e.1, e.2, block_faults_alike ts us (after_parameters (own_scope t) t.numbers) s.body t.body threads e.3) refl

threads_faults_alike : (ts us old new rest sest : List Thread) → EachSame EqualThread ts us
    → EachSame EqualThread old new → EachSame EqualThread rest sest
    → threads_faults ts old rest ≡ threads_faults us new sest
threads_faults_alike ts us old new [] [] threads before e = refl
threads_faults_alike ts us old new (s ∷ rest) (t ∷ sest) threads before e =
    let again = named_alike (again_named t.name.offset) (again_named t.name.offset) refl
    (λ a b same. refl) t.name.text old new before in
    let here = thread_faults_alike ts us s t threads e.0 in
    let later = threads_faults_alike ts us (old ++ s ∷ []) (new ++ t ∷ []) rest sest threads
    (more_alike EqualThread old new s t before e.0) e.1 in
    rw (later, here, length_alike EqualThread old new before, e.0.0, again) refl
threads_faults_alike ts us old new rest sest threads before e = absurd e

-- they have the same faults
pub faults_alike : (p q : Program) → EqualProgram p q → faults p ≡ faults q
faults_alike p q e =
    let main = named_alike (main_faults q.length) (main_faults q.length) refl (λ a b same. refl) (codes "main") p.threads q.threads e.0 in
    rw (e.1, threads_faults_alike p.threads q.threads [] [] p.threads q.threads e.0 tt e.0, main) refl
