-- An accepted program is total.
use Rattle.std.proofs.Common.{◌≡◌, ◌≤◌, ◌<◌, ◌+◌, ◌⊎◌, inl, inr, ℕ, zero, suc, ℤ, refl, arith, length-append, Bool, true, false, List, [], ◌∷◌, ◌++◌, length, Option, Some, None, if◌then◌else◌, slice_get, nat_lt, codes}
use Rattle.std.proofs.lemmas.Bool.Decides.{nat_tests}
use Rattle.std.proofs.lemmas.Option.{slice_get_within}
use Rattle.std.specs.Str.{bytes_eq}
use Rattle.task_tree.specs.declared.tree.Name.{Name}
use Rattle.task_tree.specs.declared.tree.Thread.{Thread}
use Rattle.task_tree.specs.declared.tree.Program.{Program}
use Rattle.kind_check.specs.declared.checked.KindFault.TheVariants.{Limit}
use Rattle.kind_check.specs.declared.names.Kind.{Kind}
use Rattle.kind_check.specs.declared.names.Kind.TheVariants.{Own, Value}
use Rattle.kind_check.specs.Value.{Env, number_of}
use Rattle.kind_check.specs.Turns.{◌>>=◌, bind, block_turn, thread_turn}
use Rattle.kind_check.specs.Faults.{Scope, kind_of, with_name, new_faults, limit_faults, parameters_faults, after_parameters, own_scope, block_faults, thread_faults, again_named, thread_named, threads_faults, main_faults, faults}
use Rattle.kind_check.specs.Total.{Takes, Reaches, IsTotal, IsAccepted}
use Rattle.kind_check.proofs.Known.{Defined, Covers, none_left, test_passed, or_else, kind_of_more}
use Rattle.kind_check.proofs.Ends.{Few, EndKnown, block_known}

-- within a limit there is no fault of it
within_limit : (at i most : ℕ) → limit_faults at i most ≡ [] → i < most
within_limit at i most h =
    let e = test_passed (nat_lt i most) (at, Limit) h in
    grind (arith, nat_tests)

-- the parts of the faults of threads
threads_left : (ts before : List Thread) (t : Thread) (rest : List Thread) → threads_faults ts before (t ∷ rest) ≡ []
    → (length before < 64) × (thread_faults ts t ≡ []) × (threads_faults ts (before ++ t ∷ []) rest ≡ [])
threads_left ts before t rest h =
    let a = none_left (again_named t.name.offset (thread_named before t.name.text))
    (limit_faults t.name.offset (length before) 64
    ++ (thread_faults ts t ++ threads_faults ts (before ++ t ∷ []) rest)) h in
    let b = none_left (limit_faults t.name.offset (length before) 64)
    (thread_faults ts t ++ threads_faults ts (before ++ t ∷ []) rest) a.1 in
    let d = none_left (thread_faults ts t) (threads_faults ts (before ++ t ∷ []) rest) b.1 in
    (within_limit t.name.offset (length before) 64 b.0, d.0, d.1)

-- there are at most 64 threads
threads_few : (ts before rest : List Thread) → length before ≤ 64 → threads_faults ts before rest ≡ []
    → length before + length rest ≤ 64
threads_few ts before [] le h = omega arith
threads_few ts before (t ∷ rest) le h =
    let x = threads_left ts before t rest h in
    let more : length (before ++ t ∷ []) ≡ length before + 1 = simp length-append (omega arith) in
    let r = threads_few ts (before ++ t ∷ []) rest (omega arith) x.2 in
    omega arith

-- each thread is without fault
pub thread_sound : (ts before rest : List Thread) (i : ℕ) (t : Thread) → threads_faults ts before rest ≡ []
    → slice_get rest i ≡ Some t → thread_faults ts t ≡ []
thread_sound ts before [] i t h e = absurd cc
thread_sound ts before (x ∷ rest) zero t h e = let z : x ≡ t = cc in rw (← z) (threads_left ts before x rest h).1
thread_sound ts before (x ∷ rest) (suc i) t h e =
    thread_sound ts (before ++ x ∷ []) rest i t (threads_left ts before x rest h).2 e

-- at most 8 number parameters
parameters_few : (s : Scope) (i : ℕ) (ns : List Name) → i ≤ 8 → parameters_faults s i ns ≡ [] → i + length ns ≤ 8
parameters_few s i [] le h = omega arith
parameters_few s i (n ∷ ns) le h =
    let a = none_left (new_faults n.offset (kind_of s n.text))
    (limit_faults n.offset i 8 ++ parameters_faults (with_name s n.text Value) (i + 1) ns) h in
    let b = none_left (limit_faults n.offset i 8) (parameters_faults (with_name s n.text Value) (i + 1) ns) a.1 in
    let lt = within_limit n.offset i 8 b.0 in
    let r = parameters_few (with_name s n.text Value) (i + 1) ns (omega arith) b.1 in
    omega arith

-- the numbers under the names of the parameters; a number in scope behind them was there or has one
record BindKnown (s : Scope) (ns : List Name) (vs : List ℤ) : Type 0 where
  env : Env
  is : bind ns vs ≡ Some env
  covers : (name : List ℕ) → kind_of (after_parameters s ns) name ≡ Some Value
      → (kind_of s name ≡ Some Value) ⊎ Defined (number_of env name)

-- one parameter more in front
parameter_step : (o : Option Kind) (t : Bool) (m : Option ℤ) (v : ℤ)
    → (or_else o (if t then Some Value else None) ≡ Some Value) ⊎ Defined m
    → (o ≡ Some Value) ⊎ Defined (if t then Some v else m)
parameter_step o true m v h = inr (record { value = v; is = refl })
parameter_step o false m v (inr d) = inr d
parameter_step (Some k) false m v (inl e) = inl e
parameter_step None false m v (inl e) = absurd cc

-- as many numbers as parameters are bound
bind_known : (s : Scope) (ns : List Name) (vs : List ℤ) → length ns ≡ length vs → BindKnown s ns vs
bind_known s [] [] h = record { env = []; is = refl; covers = λ name e. inl e }
bind_known s [] (v ∷ vs) h = absurd (omega arith)
bind_known s (n ∷ ns) [] h = absurd (omega arith)
bind_known s (n ∷ ns) (v ∷ vs) h =
    let r = bind_known (with_name s n.text Value) ns vs (omega arith) in
    record {
      env = (n.text, v) ∷ r.env;
      is = rw r.is refl;
      covers = λ name e. parameter_step (kind_of s name) (bytes_eq n.text name) (number_of r.env name) v
          (rw kind_of_more at (r.covers name e));
    }

-- the own continuation is no number
own_covers : (continuation name : List ℕ) → kind_of ((continuation, Own) ∷ []) name ≡ Some Value → ⊥
own_covers continuation name e = at_test (bytes_eq continuation name) e
  where
    at_test : (t : Bool) → (if t then Some Own else None) ≡ Some Value → ⊥
    at_test true e = cc
    at_test false e = cc

-- what follows parameters that are bound
behind_bind : (p : Program) (o : Option Env) (f : Env → Option _) (env : Env) → o ≡ Some env → EndKnown p (f env)
    → EndKnown p (o >>= f)
behind_bind p o f env e k = rw e k

-- a thread without fault reaches an end on as many numbers as it takes
thread_known : (p : Program) → Few p → (t : Thread) (numbers : List ℤ) → thread_faults p.threads t ≡ []
    → length t.numbers ≡ length numbers → EndKnown p (thread_turn p.threads t numbers)
thread_known p few t numbers h e =
    let s = own_scope t in
    let n = none_left (parameters_faults s 0 t.numbers)
    (block_faults p.threads (after_parameters s t.numbers) t.body) h in
    let r = bind_known s t.numbers numbers e in
    let c : Covers (after_parameters s t.numbers) r.env =
    record { there = λ name d. from_own r.env name (r.covers name d) } in
    behind_bind p (bind t.numbers numbers) (λ env. block_turn p.threads env t.body) r.env r.is
    (block_known p few (after_parameters s t.numbers) r.env t.body c n.1)
  where
    from_own : (env : Env) (name : List ℕ) → (kind_of (own_scope t) name ≡ Some Value) ⊎ Defined (number_of env name)
        → Defined (number_of env name)
    from_own env name (inl e) = absurd (own_covers t.continuation.text name e)
    from_own env name (inr d) = d

-- the thread that takes so many numbers
record ThreadAt (p : Program) (i count : ℕ) : Type 0 where
  thread : Thread
  is : slice_get p.threads i ≡ Some thread
  arity : length thread.numbers ≡ count

-- a thread that takes a count of numbers is there
thread_at : (p : Program) (i count : ℕ) → Takes p i count → ThreadAt p i count
thread_at p i count k = at_thread (slice_get p.threads i) refl k.arity
  where
    at_thread : (o : Option Thread) → slice_get p.threads i ≡ o → (o >>= λ t. Some (length t.numbers)) ≡ Some count
        → ThreadAt p i count
    at_thread None e h = absurd cc
    at_thread (Some t) e h = record { thread = t; is = e; arity = cc }

-- in a program without kind faults each thread takes at most 8 numbers
pub accepted_few : (p : Program) → faults p ≡ [] → Few p
accepted_few p h = record {
  few = λ i count k.
      let n = none_left (threads_faults p.threads [] p.threads) (main_faults p.length (thread_named p.threads (codes "main"))) h in
      let t = thread_at p i count k in
      let sound = thread_sound p.threads [] p.threads i t.thread n.0 t.is in
      let parts = none_left (parameters_faults (own_scope t.thread) 0 t.thread.numbers)
      (block_faults p.threads (after_parameters (own_scope t.thread) t.thread.numbers) t.thread.body) sound in
      let most = parameters_few (own_scope t.thread) 0 t.thread.numbers (omega arith) parts.0 in
      omega (arith, t.arity);
}

-- a program without kind faults has at most 64 threads, and each reaches an end on any numbers
pub accepted_total : (p : Program) → faults p ≡ [] → IsTotal p
accepted_total p h =
    let n = none_left (threads_faults p.threads [] p.threads) (main_faults p.length (thread_named p.threads (codes "main"))) h in
    let most = threads_few p.threads [] p.threads (omega arith) n.0 in
    record { few = omega arith; each = λ i numbers k. reaches n.0 i numbers k }
  where
    reaches : threads_faults p.threads [] p.threads ≡ [] → (i : ℕ) (numbers : List ℤ) → Takes p i (length numbers)
        → Reaches p i numbers
    reaches n i numbers k =
        let t = thread_at p i (length numbers) k in
        let r = thread_known p (accepted_few p h) t.thread numbers
        (thread_sound p.threads [] p.threads i t.thread n t.is) t.arity in
        record { turn = r.turn; reached = rw t.is r.is; fits = r.fits }

-- an accepted program has at most 64 threads, each with at most 8 numbers
pub accepted_small : (p : Program) (t count : ℕ) → IsAccepted p → Takes p t count → (t < 64) × (count ≤ 8)
accepted_small p t count accepted k =
    let at = thread_at p t count k in
    let within = slice_get_within p.threads t at.thread at.is in
    let most = accepted.total.few in
    (omega arith, (accepted_few p accepted.faultless).few t count k)
