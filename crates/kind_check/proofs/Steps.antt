-- One item more of a list that is walked: what is left gives what was left before.
use Rattle.std.proofs.Common.{◌≡◌, ◌∙◌, ◌<◌, ◌+◌, ℕ, refl, sym, ap, add-one, List, [], ◌∷◌, ◌++◌, length, get_or, take, drop, Option}
use Rattle.std.proofs.lemmas.List.{take_more}
use Rattle.std.proofs.Math.Seq.{drop-cons}
use Rattle.task_tree.specs.declared.tree.Name.{Name}
use Rattle.task_tree.specs.declared.tree.Expr.{Expr}
use Rattle.task_tree.specs.declared.tree.Let.{Let}
use Rattle.task_tree.specs.declared.tree.Argument.{Argument}
use Rattle.task_tree.specs.declared.tree.Argument.TheVariants as argument
use Rattle.task_tree.specs.declared.tree.Use.{Use}
use Rattle.task_tree.specs.declared.tree.Thread.{Thread}
use Rattle.kind_check.specs.Turns.{use_of}
use Rattle.kind_check.specs.declared.names.Kind.TheVariants.{Value, Waits}
use Rattle.kind_check.specs.Faults.{Fault, Scope, kind_of, with_name, new_faults, expr_faults, exprs_faults, lets_faults, after_names, arguments_faults, after_arguments, hole_faults, given_faults, uses_faults}
use Rattle.kind_check.specs.Least.{least_with}
use Rattle.kind_check.proofs.Leasts.{least_append}

-- the rest of a list from an item on
rest_at : {A : Type 0} (xs : List A) (i : ℕ) (x : A) → i < length xs → x ≡ get_or xs i x
    → drop i xs ≡ x ∷ drop (i + 1) xs
rest_at xs i x h e = drop-cons xs i x h ∙ rw (← e, add-one) refl

-- one expression more is met
pub exprs_step : (s : Scope) (es : List Expr) (i : ℕ) (e : Expr) (least met : Option Fault) → i < length es
    → e ≡ get_or es i e → met ≡ least_with least (expr_faults s e)
    → least_with met (exprs_faults s (drop (i + 1) es)) ≡ least_with least (exprs_faults s (drop i es))
exprs_step s es i e least met h at m =
    ap (λ o. least_with o (exprs_faults s (drop (i + 1) es))) m
    ∙ sym (least_append least (expr_faults s e) (exprs_faults s (drop (i + 1) es)))
    ∙ ap (λ rest. least_with least (exprs_faults s rest)) (sym (rest_at es i e h at))

-- one `let` more brings its name into scope
pub names_step : (s after : Scope) (ls : List Let) (i : ℕ) (l : Let) → i < length ls → l ≡ get_or ls i l
    → after ≡ with_name s l.name.text Value → after_names after (drop (i + 1) ls) ≡ after_names s (drop i ls)
names_step s after ls i l h at a =
    ap (λ t. after_names t (drop (i + 1) ls)) a ∙ ap (after_names s) (sym (rest_at ls i l h at))

-- one `let` more is met
pub lets_step : (s after : Scope) (ls : List Let) (i : ℕ) (l : Let) (least named met : Option Fault) → i < length ls
    → l ≡ get_or ls i l → after ≡ with_name s l.name.text Value
    → named ≡ least_with least (new_faults l.name.offset (kind_of s l.name.text))
    → met ≡ least_with named (expr_faults s l.value)
    → least_with met (lets_faults after (drop (i + 1) ls)) ≡ least_with least (lets_faults s (drop i ls))
lets_step s after ls i l least named met h at a n m =
    let rest : List Fault = lets_faults (with_name s l.name.text Value) (drop (i + 1) ls) in
    let new : List Fault = new_faults l.name.offset (kind_of s l.name.text) in
    ap (λ t. least_with met (lets_faults t (drop (i + 1) ls))) a ∙ ap (λ o. least_with o rest) m
    ∙ sym (least_append named (expr_faults s l.value) rest)
    ∙ ap (λ o. least_with o (expr_faults s l.value ++ rest)) n
    ∙ sym (least_append least new (expr_faults s l.value ++ rest))
    ∙ ap (λ ls. least_with least (lets_faults s ls)) (sym (rest_at ls i l h at))

-- one argument more that is a value is met
pub value_step : (s after : Scope) (args : List Argument) (i : ℕ) (e : Expr) (least met : Option Fault)
    → i < length args → argument.Value e ≡ get_or args i (argument.Value e) → after ≡ s
    → met ≡ least_with least (expr_faults s e)
    → least_with met (arguments_faults after (drop (i + 1) args)) ≡ least_with least (arguments_faults s (drop i args))
value_step s after args i e least met h at a m =
    ap (λ t. least_with met (arguments_faults t (drop (i + 1) args))) a
    ∙ ap (λ o. least_with o (arguments_faults s (drop (i + 1) args))) m
    ∙ sym (least_append least (expr_faults s e) (arguments_faults s (drop (i + 1) args)))
    ∙ ap (λ rest. least_with least (arguments_faults s rest)) (sym (rest_at args i (argument.Value e) h at))

-- it brings no name into scope
pub after_value_step : (s after : Scope) (args : List Argument) (i : ℕ) (e : Expr) → i < length args
    → argument.Value e ≡ get_or args i (argument.Value e) → after ≡ s
    → after_arguments after (drop (i + 1) args) ≡ after_arguments s (drop i args)
after_value_step s after args i e h at a =
    ap (λ t. after_arguments t (drop (i + 1) args)) a
    ∙ ap (after_arguments s) (sym (rest_at args i (argument.Value e) h at))

-- one argument more that is a hole is met
pub hole_step : (s after : Scope) (args : List Argument) (i : ℕ) (x : Name) (least met : Option Fault) → i < length args
    → argument.Hole x ≡ get_or args i (argument.Hole x) → after ≡ with_name s x.text Waits
    → met ≡ least_with least (new_faults x.offset (kind_of s x.text))
    → least_with met (arguments_faults after (drop (i + 1) args)) ≡ least_with least (arguments_faults s (drop i args))
hole_step s after args i x least met h at a m =
    let rest : List Fault = arguments_faults (with_name s x.text Waits) (drop (i + 1) args) in
    ap (λ t. least_with met (arguments_faults t (drop (i + 1) args))) a ∙ ap (λ o. least_with o rest) m
    ∙ sym (least_append least (new_faults x.offset (kind_of s x.text)) rest)
    ∙ ap (λ rest. least_with least (arguments_faults s rest)) (sym (rest_at args i (argument.Hole x) h at))

-- it brings its name into scope
pub after_hole_step : (s after : Scope) (args : List Argument) (i : ℕ) (x : Name) → i < length args
    → argument.Hole x ≡ get_or args i (argument.Hole x) → after ≡ with_name s x.text Waits
    → after_arguments after (drop (i + 1) args) ≡ after_arguments s (drop i args)
after_hole_step s after args i x h at a =
    ap (λ t. after_arguments t (drop (i + 1) args)) a
    ∙ ap (after_arguments s) (sym (rest_at args i (argument.Hole x) h at))

-- one use more is met
pub uses_step : (ts : List Thread) (s : Scope) (us : List Use) (i : ℕ) (u : Use) (least used met : Option Fault)
    → i < length us → u ≡ get_or us i u
    → used ≡ least_with least (hole_faults u.hole.offset (kind_of s u.hole.text) (use_of (take i us) u.hole.text))
    → met ≡ least_with used (given_faults ts s u.given)
    → least_with met (uses_faults ts s (take (i + 1) us) (drop (i + 1) us))
    ≡ least_with least (uses_faults ts s (take i us) (drop i us))
uses_step ts s us i u least used met h at a m =
    let rest : List Fault = uses_faults ts s (take i us ++ u ∷ []) (drop (i + 1) us) in
    let given : List Fault = given_faults ts s u.given in
    let hole : List Fault = hole_faults u.hole.offset (kind_of s u.hole.text) (use_of (take i us) u.hole.text) in
    let more : take (i + 1) us ≡ take i us ++ u ∷ [] = take_more us i u h ∙ ap (λ x. take i us ++ x ∷ []) (sym at) in
    ap (λ before. least_with met (uses_faults ts s before (drop (i + 1) us))) more ∙ ap (λ o. least_with o rest) m
    ∙ sym (least_append used given rest) ∙ ap (λ o. least_with o (given ++ rest)) a
    ∙ sym (least_append least hole (given ++ rest))
    ∙ ap (λ left. least_with least (uses_faults ts s (take i us) left)) (sym (rest_at us i u h at))
