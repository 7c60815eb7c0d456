-- In an accepted program each hole has exactly one use on each path.
use Rattle.std.proofs.Common.{◌≡◌, ℕ, ◌+◌, refl, Bool, true, false, cond, ◌||◌, List, [], ◌∷◌, ◌++◌, length, Option, Some, None, if◌then◌else◌, ◌⊎◌, inl, inr, codes, arith}
use Rattle.std.specs.Str.{bytes_eq}
use Rattle.std.proofs.lemmas.Slice.Eq.{bytes_eq-Decides}
use Rattle.std.proofs.lemmas.List.Sums.{sum_by-cons}
use Rattle.task_tree.specs.declared.tree.Name.{Name}
use Rattle.task_tree.specs.declared.tree.Let.{Let}
use Rattle.task_tree.specs.declared.tree.Argument.{Argument}
use Rattle.task_tree.specs.declared.tree.Argument.TheVariants as argument
use Rattle.task_tree.specs.declared.tree.Given.{Given}
use Rattle.task_tree.specs.declared.tree.Use.{Use}
use Rattle.task_tree.specs.declared.tree.End.{End}
use Rattle.task_tree.specs.declared.tree.End.TheVariants.{If', Send, Next}
use Rattle.task_tree.specs.declared.tree.Thread.{Thread}
use Rattle.task_tree.specs.declared.tree.Program.{Program}
use Rattle.kind_check.specs.declared.names.Kind.{Kind}
use Rattle.kind_check.specs.declared.names.Kind.TheVariants.{Own, Value, Waits}
use Rattle.kind_check.specs.Turns.{use_of}
use Rattle.kind_check.specs.Faults.{Scope, kind_of, with_name, own_faults, hole_faults, expr_faults, lets_faults, after_names, call_faults, arguments_faults, after_arguments, given_faults, uses_faults, used_faults, unused_faults, end_faults, block_faults, limit_faults, parameters_faults, after_parameters, own_scope, thread_faults, again_named, threads_faults, thread_named, main_faults, faults}
use Rattle.kind_check.specs.Holes.{uses_count, UsedOnce, has_hole, AreHoles, EndUsesOnce, ThreadsUseOnce, HolesUsedOnce}
use Rattle.kind_check.proofs.Known.{none_left, or_else, kind_of_more}

-- the count of uses, one use more
count_more : (u : Use) (us : List Use) (name : List ℕ)
    → uses_count (u ∷ us) name ≡ cond (bytes_eq u.hole.text name) 1 0 + uses_count us name
count_more u us name = sum_by-cons (λ (v : Use). cond (bytes_eq v.hole.text name) 1 0) u us

use_of_more : (us : List Use) (u : Use) (name : List ℕ)
    → use_of (us ++ u ∷ []) name ≡ or_else (use_of us name) (if bytes_eq u.hole.text name then Some u.given else None)
use_of_more [] u name = refl
use_of_more (v ∷ us) u name = at_test (bytes_eq v.hole.text name) (use_of_more us u name)
  where
    at_test : (t : Bool) → use_of (us ++ u ∷ []) name
        ≡ or_else (use_of us name) (if bytes_eq u.hole.text name then Some u.given else None)
        → (if t then Some v.given else use_of (us ++ u ∷ []) name)
        ≡ or_else (if t then Some v.given else use_of us name)
        (if bytes_eq u.hole.text name then Some u.given else None)
    at_test true h = refl
    at_test false h = h

-- something that is there
pub record There {A : Type 0} (o : Option A) : Type 0 where
  pub value : A
  pub is : o ≡ Some value

first_there : {A : Type 0} (o m : Option A) → There o → There (or_else o m)
first_there (Some x) m t = record { value = x; is = refl }
first_there None m t = absurd (let e = t.is in cc)

second_there : {A : Type 0} (o : Option A) (x : A) → There (or_else o (Some x))
second_there (Some y) x = record { value = y; is = refl }
second_there None x = record { value = x; is = refl }

-- the parts of what no use is at fault for
pub record UseSound (ts : List Thread) (s : Scope) (before : List Use) (u : Use) (us : List Use) : Type 0 where
  pub hole : hole_faults u.hole.offset (kind_of s u.hole.text) (use_of before u.hole.text) ≡ []
  pub rest : uses_faults ts s (before ++ u ∷ []) us ≡ []

use_sound : (ts : List Thread) (s : Scope) (before : List Use) (u : Use) (us : List Use)
    → uses_faults ts s before (u ∷ us) ≡ [] → UseSound ts s before u us
use_sound ts s before u us h =
    let a = none_left (hole_faults u.hole.offset (kind_of s u.hole.text) (use_of before u.hole.text))
    (given_faults ts s u.given ++ uses_faults ts s (before ++ u ∷ []) us) h in
    let b = none_left (given_faults ts s u.given) (uses_faults ts s (before ++ u ∷ []) us) a.1 in
    record { hole = a.0; rest = b.1 }

not_again : (at : ℕ) (k : Option Kind) (o : Option Given) → hole_faults at k o ≡ [] → There o → ⊥
not_again at k None h t = let e = t.is in cc
not_again at None (Some g) h t = cc
not_again at (Some Waits) (Some g) h t = cc
not_again at (Some Value) (Some g) h t = cc
not_again at (Some Own) (Some g) h t = cc

nothing_counted : (m n : ℕ) → n ≡ 0 + m → m ≡ 0 → n ≡ 0
nothing_counted m n e none = omega arith

-- a hole that was used isn't used later
none_later : (ts : List Thread) (s : Scope) (before us : List Use) (name : List ℕ) → uses_faults ts s before us ≡ []
    → There (use_of before name) → uses_count us name ≡ 0
none_later ts s before [] name h t = refl
none_later ts s before (u ∷ us) name h t =
    let u1 = use_sound ts s before u us h in
    let more : There (use_of (before ++ u ∷ []) name) =
    rw (use_of_more before u name) (first_there (use_of before name)
    (if bytes_eq u.hole.text name then Some u.given else None) t) in
    let later = none_later ts s (before ++ u ∷ []) us name u1.rest more in
    let same = (bytes_eq-Decides u.hole.text name).0 in
    none_counted (bytes_eq u.hole.text name)
    (λ equal. not_again u.hole.offset (kind_of s u.hole.text) (use_of before u.hole.text) u1.hole
    (rw (same equal) t)) (uses_count us name) (uses_count (u ∷ us) name) (count_more u us name) later
  where
    none_counted : (t : Bool) → (t ≡ true → ⊥) → (m n : ℕ) → n ≡ cond t 1 0 + m → m ≡ 0 → n ≡ 0
    none_counted true clean m n e later = absurd (clean refl)
    none_counted false clean m n e later = nothing_counted m n e later

one_counted : (m n : ℕ) → n ≡ 1 + m → m ≡ 0 → n ≡ 1
one_counted m n e none = omega arith

rest_counted : (m n : ℕ) → n ≡ 0 + m → m ≡ 1 → n ≡ 1
rest_counted m n e one = omega arith

-- a hole that is used is used once
one_use : (ts : List Thread) (s : Scope) (before us : List Use) (name : List ℕ) → uses_faults ts s before us ≡ []
    → There (use_of us name) → uses_count us name ≡ 1
one_use ts s before [] name h t = absurd (let e = t.is in cc)
one_use ts s before (u ∷ us) name h t =
    let u1 = use_sound ts s before u us h in
    at_test (bytes_eq u.hole.text name) refl (count_more u us name)
    (λ equal. none_later ts s (before ++ u ∷ []) us name u1.rest (rw use_of_more (used_now equal)))
    (one_use ts s (before ++ u ∷ []) us name u1.rest) t
  where
    used_now : bytes_eq u.hole.text name ≡ true
        → There (or_else (use_of before name) (if bytes_eq u.hole.text name then Some u.given else None))
    used_now equal = rw equal (second_there (use_of before name) u.given)

    at_test : (t : Bool) → bytes_eq u.hole.text name ≡ t → uses_count (u ∷ us) name ≡ cond t 1 0 + uses_count us name
        → (bytes_eq u.hole.text name ≡ true → uses_count us name ≡ 0)
        → (There (use_of us name) → uses_count us name ≡ 1) → There (if t then Some u.given else use_of us name)
        → uses_count (u ∷ us) name ≡ 1
    at_test true is e later rest there = one_counted (uses_count us name) (uses_count (u ∷ us) name) e (later is)
    at_test false is e later rest there = rest_counted (uses_count us name) (uses_count (u ∷ us) name) e (rest there)

was_used : (close : ℕ) (o : Option Given) → used_faults close o ≡ [] → There o
was_used close None h = absurd cc
was_used close (Some g) h = record { value = g; is = refl }

used_once : (ts : List Thread) (s : Scope) (close : ℕ) (uses : List Use) (args : List Argument)
    → uses_faults ts s [] uses ≡ [] → unused_faults close uses args ≡ [] → UsedOnce uses args
used_once ts s close uses [] h g = tt
used_once ts s close uses (argument.Value e ∷ args) h g = used_once ts s close uses args h g
used_once ts s close uses (argument.Hole x ∷ args) h g =
    let n = none_left (used_faults close (use_of uses x.text)) (unused_faults close uses args) g in
    (one_use ts s [] uses x.text h (was_used close (use_of uses x.text) n.0), used_once ts s close uses args h n.1)

-- no hole is in scope
pub record NoHoles (s : Scope) : Type 0 where
  pub none : (name : List ℕ) → kind_of s name ≡ Some Waits → ⊥

waits_more : (o : Option Kind) (t u : Bool) → or_else o (if t then Some Waits else None) ≡ Some Waits
    → (o ≡ Some Waits) ⊎ ((t || u) ≡ true)
waits_more (Some k) t u e = inl e
waits_more None true u e = inr refl
waits_more None false u e = absurd cc

or_true : (t u : Bool) → u ≡ true → (t || u) ≡ true
or_true true u e = refl
or_true false u e = e

-- a name that waits behind the arguments waited before, or is that of a `?` among them
waits_behind : (s : Scope) (args : List Argument) (name : List ℕ) → kind_of (after_arguments s args) name ≡ Some Waits
    → (kind_of s name ≡ Some Waits) ⊎ (has_hole args name ≡ true)
waits_behind s [] name e = inl e
waits_behind s (argument.Value v ∷ args) name e = waits_behind s args name e
waits_behind s (argument.Hole x ∷ args) name e = elim (waits_behind (with_name s x.text Waits) args name e) [
  | inl before ↦ waits_more (kind_of s name) (bytes_eq x.text name) (has_hole args name) (rw kind_of_more at before)
  | inr among ↦ inr (or_true (bytes_eq x.text name) (has_hole args name) among)
]

it_waits : (at : ℕ) (o : Option Kind) (g : Option Given) → hole_faults at o g ≡ [] → o ≡ Some Waits
it_waits at None g h = absurd cc
it_waits at (Some Waits) g h = refl
it_waits at (Some Value) g h = absurd cc
it_waits at (Some Own) g h = absurd cc

are_holes : (ts : List Thread) (s : Scope) (args : List Argument) (before us : List Use) → NoHoles s
    → uses_faults ts (after_arguments s args) before us ≡ [] → AreHoles args us
are_holes ts s args before [] clean h = tt
are_holes ts s args before (u ∷ us) clean h =
    let u1 = use_sound ts (after_arguments s args) before u us h in
    let waits = it_waits u.hole.offset (kind_of (after_arguments s args) u.hole.text)
    (use_of before u.hole.text) u1.hole in (
      elim (waits_behind s args u.hole.text waits) [
        | inl before ↦ absurd (clean.none u.hole.text before)
        | inr among ↦ among
      ],
      are_holes ts s args (before ++ u ∷ []) us clean u1.rest,
    )

value_more : (o : Option Kind) (t : Bool) → or_else o (if t then Some Value else None) ≡ Some Waits → o ≡ Some Waits
value_more (Some k) t e = e
value_more None true e = absurd cc
value_more None false e = absurd cc

no_holes_value : (s : Scope) (n : List ℕ) → NoHoles s → NoHoles (with_name s n Value)
no_holes_value s n clean = record {
  none = λ name e. clean.none name (value_more (kind_of s name) (bytes_eq n name) (rw kind_of_more at e));
}

no_holes_lets : (s : Scope) (ls : List Let) → NoHoles s → NoHoles (after_names s ls)
no_holes_lets s [] clean = clean
no_holes_lets s (l ∷ ls) clean = no_holes_lets (with_name s l.name.text Value) ls (no_holes_value s l.name.text clean)

no_holes_parameters : (s : Scope) (ns : List Name) → NoHoles s → NoHoles (after_parameters s ns)
no_holes_parameters s [] clean = clean
no_holes_parameters s (n ∷ ns) clean = no_holes_parameters (with_name s n.text Value) ns (no_holes_value s n.text clean)

no_holes_own : (t : Thread) → NoHoles (own_scope t)
no_holes_own t = record { none = λ name e. at_test (bytes_eq t.continuation.text name) e }
  where
    at_test : (b : Bool) → (if b then Some Own else None) ≡ Some Waits → ⊥
    at_test true e = cc
    at_test false e = cc

end_once : (ts : List Thread) (s : Scope) (close : ℕ) (e : End) → NoHoles s → end_faults ts s close e ≡ []
    → EndUsesOnce e
end_once ts s close (If' c p lets1 end1 close1 q lets2 end2 close2) clean h =
    let first = lets_faults s lets1 ++ end_faults ts (after_names s lets1) close1 end1 in
    let second = lets_faults s lets2 ++ end_faults ts (after_names s lets2) close2 end2 in
    let a = none_left (expr_faults s c) (first ++ second) h in
    let b = none_left first second a.1 in
    let d = none_left (lets_faults s lets1) (end_faults ts (after_names s lets1) close1 end1) b.0 in
    let g = none_left (lets_faults s lets2) (end_faults ts (after_names s lets2) close2 end2) b.1 in (
      end_once ts (after_names s lets1) close1 end1 (no_holes_lets s lets1 clean) d.1,
      end_once ts (after_names s lets2) close2 end2 (no_holes_lets s lets2 clean) g.1,
    )
end_once ts s close (Send k x) clean h = tt
end_once ts s close (Next name k args uses) clean h =
    let a = none_left (call_faults ts name (length args))
    (own_faults k.offset (kind_of s k.text)
    ++ (arguments_faults s args ++ (uses_faults ts (after_arguments s args) [] uses
    ++ unused_faults close uses args))) h in
    let b = none_left (own_faults k.offset (kind_of s k.text))
    (arguments_faults s args ++ (uses_faults ts (after_arguments s args) [] uses ++ unused_faults close uses args))
    a.1 in
    let d = none_left (arguments_faults s args)
    (uses_faults ts (after_arguments s args) [] uses ++ unused_faults close uses args) b.1 in
    let g = none_left (uses_faults ts (after_arguments s args) [] uses) (unused_faults close uses args) d.1 in
    (used_once ts (after_arguments s args) close uses args g.0 g.1, are_holes ts s args [] uses clean g.0)

threads_once : (ts before rest : List Thread) → threads_faults ts before rest ≡ [] → ThreadsUseOnce rest
threads_once ts before [] h = tt
threads_once ts before (t ∷ rest) h =
    let a = none_left (again_named t.name.offset (thread_named before t.name.text))
    (limit_faults t.name.offset (length before) 64
    ++ (thread_faults ts t ++ threads_faults ts (before ++ t ∷ []) rest)) h in
    let b = none_left (limit_faults t.name.offset (length before) 64)
    (thread_faults ts t ++ threads_faults ts (before ++ t ∷ []) rest) a.1 in
    let d = none_left (thread_faults ts t) (threads_faults ts (before ++ t ∷ []) rest) b.1 in
    let s = after_parameters (own_scope t) t.numbers in
    let f = none_left (parameters_faults (own_scope t) 0 t.numbers) (block_faults ts s t.body) d.0 in
    let g = none_left (lets_faults s t.body.lets)
    (end_faults ts (after_names s t.body.lets) t.body.close t.body.end) f.1 in (
      end_once ts (after_names s t.body.lets) t.body.close t.body.end
          (no_holes_lets s t.body.lets (no_holes_parameters (own_scope t) t.numbers (no_holes_own t))) g.1,
      threads_once ts (before ++ t ∷ []) rest d.1,
    )

pub holes_once : (p : Program) → faults p ≡ [] → HolesUsedOnce p
holes_once p h =
    let n = none_left (threads_faults p.threads [] p.threads) (main_faults p.length (thread_named p.threads (codes "main"))) h in
    threads_once p.threads [] p.threads n.0
