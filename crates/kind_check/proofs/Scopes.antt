-- Lemmas on the names in scope, as two lists of one length.
use Rattle.std.proofs.lemmas.List.{take-append-le}
use Rattle.std.proofs.Math.Seq.{take-length}
use Rattle.std.proofs.Common.{length-append, ◌≤◌, ◌∙◌, ◌≡◌, refl, ap, arith, ℕ, zero, suc, Bool, true, false, List, [], ◌∷◌, ◌++◌, length, take, get_or, Option, Some, None, if◌then◌else◌}
use Rattle.std.specs.List.{zip}
use Rattle.std.specs.Str.{bytes_eq}
use Rattle.task_tree.specs.declared.tree.Let.{Let}
use Rattle.task_tree.specs.declared.tree.Argument.{Argument}
use Rattle.task_tree.specs.declared.tree.Argument.TheVariants as argument
use Rattle.kind_check.specs.declared.names.Kind.{Kind}
use Rattle.kind_check.specs.declared.names.Kind.TheVariants.{Value, Waits}
use Rattle.kind_check.specs.Faults.{Scope, kind_of, with_name, after_names, after_arguments}
use Rattle.kind_check.specs.Places.{place_of, further}

-- a pair more
pub zip_push : {A B : Type 0} (xs : List A) (ys : List B) (x : A) (y : B) → length xs ≡ length ys
    → zip (xs ++ x ∷ []) (ys ++ y ∷ []) ≡ zip xs ys ++ (x, y) ∷ []
zip_push [] [] x y h = refl
zip_push [] (b ∷ ys) x y h = absurd (omega arith)
zip_push (a ∷ xs) [] x y h = absurd (omega arith)
zip_push (a ∷ xs) (b ∷ ys) x y h = ap (λ zs. (a, b) ∷ zs) (zip_push xs ys x y (omega arith))

-- as many pairs as items
pub length_zip : {A B : Type 0} (xs : List A) (ys : List B) → length xs ≡ length ys → length (zip xs ys) ≡ length xs
length_zip [] ys h = refl
length_zip (a ∷ xs) [] h = absurd (omega arith)
length_zip (a ∷ xs) (b ∷ ys) h = ap suc (length_zip xs ys (omega arith))

-- the first pairs are those of the first items
pub take_zip : {A B : Type 0} (n : ℕ) (xs : List A) (ys : List B) → zip (take n xs) (take n ys) ≡ take n (zip xs ys)
take_zip zero xs ys = refl
take_zip (suc n) [] ys = refl
take_zip (suc n) (a ∷ xs) [] = refl
take_zip (suc n) (a ∷ xs) (b ∷ ys) = ap (λ zs. (a, b) ∷ zs) (take_zip n xs ys)

-- an item more on both sides
pub length_more : {A B : Type 0} (xs : List A) (ys : List B) (x : A) (y : B) → length xs ≡ length ys
    → length (xs ++ x ∷ []) ≡ length (ys ++ y ∷ [])
length_more xs ys x y h = simp length-append (omega arith)

-- the kind at the first place of a name
pub kind_at : (names : List (List ℕ)) (kinds : List Kind) (name : List ℕ) (d : Kind) (i : ℕ)
    → length names ≡ length kinds → place_of names name ≡ Some i
    → kind_of (zip names kinds) name ≡ Some (get_or kinds i d)
kind_at [] kinds name d i h e = absurd cc
kind_at (n ∷ ns) [] name d i h e = absurd (omega arith)
kind_at (n ∷ ns) (k ∷ ks) name d i h e =
    at_test (bytes_eq n name) (place_of ns name) (λ j. kind_at ns ks name d j (omega arith)) e
  where
    at_test : (t : Bool) (o : Option ℕ) → ((j : ℕ) → o ≡ Some j → kind_of (zip ns ks) name ≡ Some (get_or ks j d))
        → (if t then Some 0 else further o) ≡ Some i
        → (if t then Some k else kind_of (zip ns ks) name) ≡ Some (get_or (k ∷ ks) i d)
    at_test true o h e = let z : 0 ≡ i = cc in rw (← z) refl
    at_test false None h e = absurd cc
    at_test false (Some j) h e = let z : suc j ≡ i = cc in rw (← z) (h j refl)

-- a name that has no place has no kind
pub kind_absent : (names : List (List ℕ)) (kinds : List Kind) (name : List ℕ) → place_of names name ≡ None
    → kind_of (zip names kinds) name ≡ None
kind_absent [] kinds name e = refl
kind_absent (n ∷ ns) [] name e = refl
kind_absent (n ∷ ns) (k ∷ ks) name e = at_test (bytes_eq n name) (place_of ns name) (kind_absent ns ks name) e
  where
    at_test : (t : Bool) (o : Option ℕ) → (o ≡ None → kind_of (zip ns ks) name ≡ None)
        → (if t then Some 0 else further o) ≡ None → (if t then Some k else kind_of (zip ns ks) name) ≡ None
    at_test true o h e = absurd cc
    at_test false None h e = h refl
    at_test false (Some j) h e = absurd cc

-- the first names stay where names are added
with_kept : (n : ℕ) (s : Scope) (name : List ℕ) (kind : Kind) → n ≤ length s
    → (take n (with_name s name kind) ≡ take n s) × (n ≤ length (with_name s name kind))
with_kept n s name kind h = (take-append-le n s ((name, kind) ∷ []) h, simp length-append (omega arith))

-- the first names stay in scope behind lets
pub names_kept : (n : ℕ) (s : Scope) (ls : List Let) → n ≤ length s
    → (take n (after_names s ls) ≡ take n s) × (n ≤ length (after_names s ls))
names_kept n s [] h = (refl, h)
names_kept n s (l ∷ ls) h =
    let w = with_kept n s l.name.text Value h in
    let r = names_kept n (with_name s l.name.text Value) ls w.1 in
    (r.0 ∙ w.0, r.1)

-- the first names stay in scope behind arguments
pub arguments_kept : (n : ℕ) (s : Scope) (args : List Argument) → n ≤ length s
    → take n (after_arguments s args) ≡ take n s
arguments_kept n s [] h = refl
arguments_kept n s (argument.Value e ∷ args) h = arguments_kept n s args h
arguments_kept n s (argument.Hole x ∷ args) h =
    let w = with_kept n s x.text Waits h in
    arguments_kept n (with_name s x.text Waits) args w.1 ∙ w.0

-- behind lets, as many names as stood before them are those
pub lets_restored : (s t : Scope) (ls : List Let) (n : ℕ) → n ≡ length s → t ≡ after_names s ls → take n t ≡ s
lets_restored s t ls n e f = rw (e, f) ((names_kept (length s) s ls (omega arith)).0 ∙ take-length s)

-- and so are they behind lets and arguments
pub arguments_restored : (s t : Scope) (ls : List Let) (args : List Argument) (n : ℕ) → n ≡ length s
    → t ≡ after_arguments (after_names s ls) args → take n t ≡ s
arguments_restored s t ls args n e f =
    let k = names_kept (length s) s ls (omega arith) in
    rw (e, f) (arguments_kept (length s) (after_names s ls) args k.1 ∙ k.0 ∙ take-length s)
