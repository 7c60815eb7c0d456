-- Where no name is at fault, all names are there.
use Rattle.std.proofs.Common.{◌≡◌, ℕ, refl, Bool, true, false, List, [], ◌∷◌, ◌++◌, length, map, append_assoc, get_or, All, IsSome, IsSomeAnd, Option, Some, None, if◌then◌else◌, subst, codes}
use Rattle.std.proofs.lemmas.List.{append-nil}
use Rattle.std.proofs.lemmas.List.Elements.{All-nil, All-cons}
use Rattle.std.proofs.lemmas.Option.{slice_get-get_or}
use Rattle.std.specs.Str.{bytes_eq}
use Rattle.task_tree.specs.declared.tree.Name.{Name}
use Rattle.task_tree.specs.declared.tree.Expr.{Expr}
use Rattle.task_tree.specs.declared.tree.Expr.TheVariants as expr
use Rattle.task_tree.specs.declared.tree.Let.{Let}
use Rattle.task_tree.specs.declared.tree.Argument.{Argument}
use Rattle.task_tree.specs.declared.tree.Argument.TheVariants as argument
use Rattle.task_tree.specs.declared.tree.Given.{Given}
use Rattle.task_tree.specs.declared.tree.Given.TheVariants.{Sent, Spawned}
use Rattle.task_tree.specs.declared.tree.Use.{Use}
use Rattle.task_tree.specs.declared.tree.End.{End}
use Rattle.task_tree.specs.declared.tree.End.TheVariants.{If', Send, Next}
use Rattle.task_tree.specs.declared.tree.Thread.{Thread}
use Rattle.task_tree.specs.declared.tree.Program.{Program}
use Rattle.kind_check.specs.declared.names.Kind.{Kind}
use Rattle.kind_check.specs.declared.names.Kind.TheVariants.{Own, Value, Waits}
use Rattle.kind_check.specs.Turns.{use_of}
use Rattle.kind_check.specs.Places.{place_of, further}
use Rattle.kind_check.specs.Faults.{Scope, kind_of, with_name, new_faults, own_faults, expr_faults, exprs_faults, lets_faults, after_names, call_faults, arguments_faults, after_arguments, given_faults, uses_faults, used_faults, unused_faults, end_faults, block_faults, parameters_faults, after_parameters, own_scope, thread_faults, threads_faults, thread_named, main_faults, faults}
use Rattle.kind_check.specs.Resolves.{after, names_of}
use Rattle.kind_check.specs.InScope.{ExprInScope, LetsInScope, GivenInScope, ArgumentInScope, EndInScope, ThreadInScope}
use Rattle.kind_check.proofs.Known.{none_left, or_else, kind_of_more, hole_step, number_there}
use Rattle.kind_check.proofs.Ends.{Few, call_known, given_there, is_used}
use Rattle.kind_check.proofs.Accepted.{thread_sound, accepted_few}

-- each number in scope is one of these names
record IsListed (s : Scope) (names : List (List ℕ)) : Type 0 where
  there : (name : List ℕ) → kind_of s name ≡ Some Value → IsSome (place_of names name)

-- a name that is there stays there
place_kept : (names : List (List ℕ)) (n name : List ℕ) → IsSome (place_of names name)
    → IsSome (place_of (names ++ n ∷ []) name)
place_kept [] n name h = absurd cc
place_kept (m ∷ names) n name h = at_test (bytes_eq m name) (place_of names name) (place_of (names ++ n ∷ []) name)
    (place_kept names n name) h
  where
    at_test : (t : Bool) (o r : Option ℕ) → (IsSome o → IsSome r) → IsSome (if t then Some 0 else further o)
        → IsSome (if t then Some 0 else further r)
    at_test true o r k h = refl
    at_test false None r k h = absurd cc
    at_test false (Some i) None k h = k refl
    at_test false (Some i) (Some j) k h = refl

-- a name that is added is there
place_added : (names : List (List ℕ)) (n name : List ℕ) → bytes_eq n name ≡ true
    → IsSome (place_of (names ++ n ∷ []) name)
place_added [] n name e = rw e refl
place_added (m ∷ names) n name e = at_test (bytes_eq m name) (place_of (names ++ n ∷ []) name)
    (place_added names n name e)
  where
    at_test : (t : Bool) (o : Option ℕ) → IsSome o → IsSome (if t then Some 0 else further o)
    at_test true o h = refl
    at_test false None h = absurd cc
    at_test false (Some i) h = refl

-- a number behind a further name was there, or has that name
value_listed : (o : Option Kind) (t : Bool) (P : Type 0) → (o ≡ Some Value → P) → (t ≡ true → P)
    → or_else o (if t then Some Value else None) ≡ Some Value → P
value_listed (Some k) t P old new e = old e
value_listed None true P old new e = new refl
value_listed None false P old new e = absurd cc

listed_value : (s : Scope) (names : List (List ℕ)) (n : List ℕ) → IsListed s names
    → IsListed (with_name s n Value) (names ++ n ∷ [])
listed_value s names n l = record {
  there =
      λ name e. value_listed (kind_of s name) (bytes_eq n name) (IsSome (place_of (names ++ n ∷ []) name))
      (λ h. place_kept names n name (l.there name h)) (λ h. place_added names n name h) (rw kind_of_more at e);
}

listed_hole : (s : Scope) (names : List (List ℕ)) (n : List ℕ) → IsListed s names → IsListed (with_name s n Waits) names
listed_hole s names n l = record {
  there = λ name e. l.there name (hole_step (kind_of s name) (bytes_eq n name) (rw kind_of_more at e));
}

listed_lets : (s : Scope) (names : List (List ℕ)) (ls : List Let) → IsListed s names
    → IsListed (after_names s ls) (after names ls)
listed_lets s names [] l = rw append-nil l
listed_lets s names (x ∷ ls) l = subst (λ (ns : List (List ℕ)). IsListed (after_names s (x ∷ ls)) ns)
    (append_assoc names (x.name.text ∷ []) (map (λ (y : Let). y.name.text) ls))
    (listed_lets (with_name s x.name.text Value) (names ++ x.name.text ∷ []) ls (listed_value s names x.name.text l))

listed_parameters : (s : Scope) (names : List (List ℕ)) (ns : List Name) → IsListed s names
    → IsListed (after_parameters s ns) (names ++ names_of ns)
listed_parameters s names [] l = rw append-nil l
listed_parameters s names (n ∷ ns) l =
    subst (λ (ms : List (List ℕ)). IsListed (after_parameters s (n ∷ ns)) ms)
    (append_assoc names (n.text ∷ []) (names_of ns))
    (listed_parameters (with_name s n.text Value) (names ++ n.text ∷ []) ns (listed_value s names n.text l))

listed_arguments : (s : Scope) (names : List (List ℕ)) (args : List Argument) → IsListed s names
    → IsListed (after_arguments s args) names
listed_arguments s names [] l = l
listed_arguments s names (argument.Value e ∷ args) l = listed_arguments s names args l
listed_arguments s names (argument.Hole x ∷ args) l =
    listed_arguments (with_name s x.text Waits) names args (listed_hole s names x.text l)

-- the own continuation is no number
listed_own : (t : Thread) → IsListed (own_scope t) []
listed_own t = record { there = λ name e. absurd (at_test (bytes_eq t.continuation.text name) e) }
  where
    at_test : (b : Bool) → (if b then Some Own else None) ≡ Some Value → ⊥
    at_test true e = cc
    at_test false e = cc

expr_in_scope : (s : Scope) (names : List (List ℕ)) (e : Expr) → IsListed s names → expr_faults s e ≡ []
    → ExprInScope names e
expr_in_scope s names (expr.Number n) l h = tt
expr_in_scope s names (expr.Variable x) l h = l.there x.text (number_there x.offset (kind_of s x.text) h)
expr_in_scope s names (expr.Binary' op p a q b) l h =
    let n = none_left (expr_faults s a) (expr_faults s b) h in
    (expr_in_scope s names a l n.0, expr_in_scope s names b l n.1)

exprs_in_scope : (s : Scope) (names : List (List ℕ)) (es : List Expr) → IsListed s names → exprs_faults s es ≡ []
    → All (ExprInScope names) es
exprs_in_scope s names [] l h = All-nil (ExprInScope names)
exprs_in_scope s names (e ∷ es) l h =
    let n = none_left (expr_faults s e) (exprs_faults s es) h in
    All-cons (ExprInScope names) e es (expr_in_scope s names e l n.0) (exprs_in_scope s names es l n.1)

lets_in_scope : (s : Scope) (names : List (List ℕ)) (ls : List Let) → IsListed s names → lets_faults s ls ≡ []
    → LetsInScope names ls
lets_in_scope s names [] l h = tt
lets_in_scope s names (x ∷ ls) l h =
    let n = none_left (new_faults x.name.offset (kind_of s x.name.text))
    (expr_faults s x.value ++ lets_faults (with_name s x.name.text Value) ls) h in
    let m = none_left (expr_faults s x.value) (lets_faults (with_name s x.name.text Value) ls) n.1 in (
      expr_in_scope s names x.value l m.0,
      lets_in_scope (with_name s x.name.text Value) (names ++ x.name.text ∷ []) ls
          (listed_value s names x.name.text l) m.1,
    )

given_in_scope : (p : Program) (s : Scope) (names : List (List ℕ)) (given : Given) → IsListed s names
    → given_faults p.threads s given ≡ [] → GivenInScope p.threads names given
given_in_scope p s names (Sent e) l h = expr_in_scope s names e l h
given_in_scope p s names (Spawned name es) l h =
    let n = none_left (call_faults p.threads name (length es)) (exprs_faults s es) h in
    let t = call_known p name (length es) n.0 in
    (rw t.is refl, exprs_in_scope s names es l n.1)

-- `behind` are the names in scope behind all arguments, where the uses stand
arguments_in_scope : (p : Program) (behind : Scope) (names : List (List ℕ)) (close : ℕ) (uses : List Use)
    → IsListed behind names → uses_faults p.threads behind [] uses ≡ [] → (s : Scope) (args : List Argument)
    → IsListed s names → arguments_faults s args ≡ [] → unused_faults close uses args ≡ []
    → All (ArgumentInScope p.threads names uses) args
arguments_in_scope p behind names close uses b u s [] l h g = All-nil (ArgumentInScope p.threads names uses)
arguments_in_scope p behind names close uses b u s (argument.Value e ∷ args) l h g =
    let n = none_left (expr_faults s e) (arguments_faults s args) h in
    All-cons (ArgumentInScope p.threads names uses) (argument.Value e) args (expr_in_scope s names e l n.0)
    (arguments_in_scope p behind names close uses b u s args l n.1 g)
arguments_in_scope p behind names close uses b u s (argument.Hole x ∷ args) l h g =
    let n = none_left (new_faults x.offset (kind_of s x.text)) (arguments_faults (with_name s x.text Waits) args) h in
    let m = none_left (used_faults close (use_of uses x.text)) (unused_faults close uses args) g in
    let given = is_used close (use_of uses x.text) m.0 in
    let known = given_in_scope p behind names given.value b
    (given_there p.threads behind [] uses x.text given.value u given.is) in
    All-cons (ArgumentInScope p.threads names uses) (argument.Hole x) args
    (used (use_of uses x.text) given.value given.is known)
    (arguments_in_scope p behind names close uses b u (with_name s x.text Waits) args
    (listed_hole s names x.text l) n.1 m.1)
  where
    used : (o : Option Given) (given : Given) → o ≡ Some given → GivenInScope p.threads names given
        → IsSomeAnd o (GivenInScope p.threads names)
    used o given e known = rw e known

end_in_scope : (p : Program) → Few p → (s : Scope) (names : List (List ℕ)) (close : ℕ) (end : End) → IsListed s names
    → end_faults p.threads s close end ≡ [] → EndInScope p.threads names end
end_in_scope p few s names close (If' e pa lets1 end1 close1 pb lets2 end2 close2) l h =
    let n = none_left (expr_faults s e)
    ((lets_faults s lets1 ++ end_faults p.threads (after_names s lets1) close1 end1)
    ++ (lets_faults s lets2 ++ end_faults p.threads (after_names s lets2) close2 end2)) h in
    let m = none_left (lets_faults s lets1 ++ end_faults p.threads (after_names s lets1) close1 end1)
    (lets_faults s lets2 ++ end_faults p.threads (after_names s lets2) close2 end2) n.1 in
    let x = none_left (lets_faults s lets1) (end_faults p.threads (after_names s lets1) close1 end1) m.0 in
    let y = none_left (lets_faults s lets2) (end_faults p.threads (after_names s lets2) close2 end2) m.1 in (
      expr_in_scope s names e l n.0,
      (
        lets_in_scope s names lets1 l x.0,
        end_in_scope p few (after_names s lets1) (after names lets1) close1 end1 (listed_lets s names lets1 l) x.1,
      ),
      (
        lets_in_scope s names lets2 l y.0,
        end_in_scope p few (after_names s lets2) (after names lets2) close2 end2 (listed_lets s names lets2 l) y.1,
      ),
    )
end_in_scope p few s names close (Send k e) l h =
    let n = none_left (own_faults k.offset (kind_of s k.text)) (expr_faults s e) h in
    expr_in_scope s names e l n.1
end_in_scope p few s names close (Next name k args uses) l h =
    let n = none_left (call_faults p.threads name (length args))
    (own_faults k.offset (kind_of s k.text)
    ++ (arguments_faults s args ++ (uses_faults p.threads (after_arguments s args) [] uses
    ++ unused_faults close uses args))) h in
    let m = none_left (own_faults k.offset (kind_of s k.text))
    (arguments_faults s args ++ (uses_faults p.threads (after_arguments s args) [] uses
    ++ unused_faults close uses args)) n.1 in
    let x = none_left (arguments_faults s args)
    (uses_faults p.threads (after_arguments s args) [] uses ++ unused_faults close uses args) m.1 in
    let y = none_left (uses_faults p.threads (after_arguments s args) [] uses) (unused_faults close uses args) x.1 in
    let t = call_known p name (length args) n.0 in
    record {
      thread = rw t.is refl;
      few = few.few t.number (length args) t.takes;
      arguments = arguments_in_scope p (after_arguments s args) names close uses
          (listed_arguments s names args l) y.0 s args l x.0 y.1;
    }

thread_in_scope : (p : Program) → Few p → (t : Thread) → thread_faults p.threads t ≡ [] → ThreadInScope p.threads t
thread_in_scope p few t h =
    let s = after_parameters (own_scope t) t.numbers in
    let n = none_left (parameters_faults (own_scope t) 0 t.numbers) (block_faults p.threads s t.body) h in
    let m = none_left (lets_faults s t.body.lets)
    (end_faults p.threads (after_names s t.body.lets) t.body.close t.body.end) n.1 in
    let l = listed_parameters (own_scope t) [] t.numbers (listed_own t) in (
      lets_in_scope s (names_of t.numbers) t.body.lets l m.0,
      end_in_scope p few (after_names s t.body.lets) (after (names_of t.numbers) t.body.lets) t.body.close t.body.end
          (listed_lets s (names_of t.numbers) t.body.lets l) m.1,
    )

-- in a program without kind faults all names are there
pub threads_in_scope : (p : Program) → faults p ≡ [] → All (ThreadInScope p.threads) p.threads
threads_in_scope p h =
    let n = none_left (threads_faults p.threads [] p.threads) (main_faults p.length (thread_named p.threads (codes "main"))) h in
    λ k d lt. thread_in_scope p (accepted_few p h) (get_or p.threads k d)
    (thread_sound p.threads [] p.threads k (get_or p.threads k d) n.0 (slice_get-get_or p.threads k d lt))
