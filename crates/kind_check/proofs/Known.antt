-- Where no name is at fault, expressions and lets have their values.
use Rattle.std.proofs.Common.{◌≡◌, ℕ, suc, ℤ, refl, ap, Bool, true, false, List, [], ◌∷◌, ◌++◌, length, Option, Some, None, if◌then◌else◌}
use Rattle.std.specs.Str.{bytes_eq}
use Rattle.task_tree.specs.declared.tree.Expr.{Expr}
use Rattle.task_tree.specs.declared.tree.Expr.TheVariants.{Number, Variable, Binary'}
use Rattle.task_tree.specs.declared.tree.Let.{Let}
use Rattle.kind_check.specs.declared.names.Kind.{Kind}
use Rattle.kind_check.specs.declared.names.Kind.TheVariants.{Own, Value, Waits}
use Rattle.kind_check.specs.Value.{Env, number_of, value_of, both, result_of}
use Rattle.kind_check.specs.Turns.{values_of, after_lets}
use Rattle.kind_check.specs.Faults.{Fault, Scope, kind_of, with_name, new_faults, number_faults, expr_faults, exprs_faults, lets_faults, after_names}

-- something is there
pub record Defined {A : Type 0} (o : Option A) : Type 0 where
  pub value : A
  pub is : o ≡ Some value

-- each name of a number in scope has a number
pub record Covers (s : Scope) (env : Env) : Type 0 where
  pub there : (name : List ℕ) → kind_of s name ≡ Some Value → Defined (number_of env name)

-- no fault among two parts, so none in either
pub none_left : (fs gs : List Fault) → fs ++ gs ≡ [] → (fs ≡ []) × (gs ≡ [])
none_left [] gs e = (refl, e)
none_left (f ∷ fs) gs e = absurd cc

-- a test that gives no fault was passed
pub test_passed : (t : Bool) (f : Fault) → (if t then [] else f ∷ []) ≡ [] → t ≡ true
test_passed true f e = refl
test_passed false f e = absurd cc

-- the first, else the second
abbrev pub or_else : {A : Type 0} → Option A → Option A → Option A
or_else None b = b
or_else (Some x) b = Some x

-- a further name is looked for behind the others
pub kind_of_more : (s : Scope) (n : List ℕ) (k : Kind) (name : List ℕ)
    → kind_of (with_name s n k) name ≡ or_else (kind_of s name) (if bytes_eq n name then Some k else None)
kind_of_more [] n k name = refl
kind_of_more (b ∷ s) n k name = at_test (bytes_eq b.0 name) (kind_of_more s n k name)
  where
    at_test : (t : Bool) → kind_of (with_name s n k) name
        ≡ or_else (kind_of s name) (if bytes_eq n name then Some k else None)
        → (if t then Some b.1 else kind_of (with_name s n k) name)
        ≡ or_else (if t then Some b.1 else kind_of s name) (if bytes_eq n name then Some k else None)
    at_test true h = refl
    at_test false h = h

-- so is the number of a further name
pub number_of_more : (env : Env) (n : List ℕ) (v : ℤ) (name : List ℕ)
    → number_of (env ++ (n, v) ∷ []) name ≡ or_else (number_of env name) (if bytes_eq n name then Some v else None)
number_of_more [] n v name = refl
number_of_more (b ∷ env) n v name = at_test (bytes_eq b.0 name) (number_of_more env n v name)
  where
    at_test : (t : Bool) → number_of (env ++ (n, v) ∷ []) name
        ≡ or_else (number_of env name) (if bytes_eq n name then Some v else None)
        → (if t then Some b.1 else number_of (env ++ (n, v) ∷ []) name)
        ≡ or_else (if t then Some b.1 else number_of env name) (if bytes_eq n name then Some v else None)
    at_test true h = refl
    at_test false h = h

-- a `let`, by what each name stands for
value_step : (o : Option Kind) (m : Option ℤ) (t : Bool) (v : ℤ) → (o ≡ Some Value → Defined m)
    → or_else o (if t then Some Value else None) ≡ Some Value → Defined (or_else m (if t then Some v else None))
value_step o (Some x) t v h e = record { value = x; is = refl }
value_step (Some k) None t v h e = absurd (let d = h e in let z = d.is in cc)
value_step None None true v h e = record { value = v; is = refl }
value_step None None false v h e = absurd cc

-- a `let` gives its name a number
pub covers_value : (s : Scope) (env : Env) (n : List ℕ) (v : ℤ) → Covers s env
    → Covers (with_name s n Value) (env ++ (n, v) ∷ [])
covers_value s env n v c = record {
  there =
      λ name e. rw number_of_more (value_step (kind_of s name) (number_of env name) (bytes_eq n name) v (c.there name)
      (rw kind_of_more at e));
}

-- a hole, by what a name stands for
pub hole_step : (o : Option Kind) (t : Bool) → or_else o (if t then Some Waits else None) ≡ Some Value → o ≡ Some Value
hole_step (Some k) t e = e
hole_step None true e = absurd cc
hole_step None false e = absurd cc

-- a hole takes no name's number away
pub covers_hole : (s : Scope) (env : Env) (n : List ℕ) → Covers s env → Covers (with_name s n Waits) env
covers_hole s env n c = record {
  there = λ name e. c.there name (hole_step (kind_of s name) (bytes_eq n name) (rw kind_of_more at e));
}

-- a name without fault where a number stands is one of a number
pub number_there : (at : ℕ) (o : Option Kind) → number_faults at o ≡ [] → o ≡ Some Value
number_there at None e = absurd cc
number_there at (Some Value) e = refl
number_there at (Some Own) e = absurd cc
number_there at (Some Waits) e = absurd cc

-- an operator on two values has a value
both_known : (f : ℤ → ℤ → ℤ) (a b : Option ℤ) → Defined a → Defined b → Defined (both f a b)
both_known f a b x y = record { value = f x.value y.value; is = rw (x.is, y.is) refl }

-- an expression without faults has a value
pub expr_known : (s : Scope) (env : Env) (e : Expr) → Covers s env → expr_faults s e ≡ [] → Defined (value_of env e)
expr_known s env (Number n) c h = record { value = n; is = refl }
expr_known s env (Variable x) c h = c.there x.text (number_there x.offset (kind_of s x.text) h)
expr_known s env (Binary' op p a q b) c h =
    let n = none_left (expr_faults s a) (expr_faults s b) h in
    both_known (result_of op) (value_of env a) (value_of env b) (expr_known s env a c n.0) (expr_known s env b c n.1)

-- all values are there, as many as the expressions
pub record AllKnown (env : Env) (es : List Expr) : Type 0 where
  pub values : List ℤ
  pub is : values_of env es ≡ Some values
  pub count : length values ≡ length es

-- expressions without faults have values
pub exprs_known : (s : Scope) (env : Env) (es : List Expr) → Covers s env → exprs_faults s es ≡ [] → AllKnown env es
exprs_known s env [] c h = record { values = []; is = refl; count = refl }
exprs_known s env (e ∷ es) c h =
    let n = none_left (expr_faults s e) (exprs_faults s es) h in
    let v = expr_known s env e c n.0 in
    let vs = exprs_known s env es c n.1 in
    record { values = v.value ∷ vs.values; is = rw (v.is, vs.is) refl; count = ap suc vs.count }

-- the environment behind lets is there, and covers the names behind them
pub record LetsKnown (s : Scope) (env : Env) (ls : List Let) : Type 0 where
  pub after : Env
  pub is : after_lets env ls ≡ Some after
  pub covers : Covers (after_names s ls) after

-- lets without faults have values
pub lets_known : (s : Scope) (env : Env) (ls : List Let) → Covers s env → lets_faults s ls ≡ [] → LetsKnown s env ls
lets_known s env [] c h = record { after = env; is = refl; covers = c }
lets_known s env (l ∷ ls) c h =
    let n = none_left (new_faults l.name.offset (kind_of s l.name.text))
    (expr_faults s l.value ++ lets_faults (with_name s l.name.text Value) ls) h in
    let m = none_left (expr_faults s l.value) (lets_faults (with_name s l.name.text Value) ls) n.1 in
    let v = expr_known s env l.value c m.0 in
    let r = lets_known (with_name s l.name.text Value) (env ++ (l.name.text, v.value) ∷ []) ls
    (covers_value s env l.name.text v.value c) m.1 in
    record { after = r.after; is = rw v.is r.is; covers = r.covers }
