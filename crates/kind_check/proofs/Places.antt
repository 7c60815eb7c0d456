-- Lemmas on the first places of names.
use Rattle.std.proofs.lemmas.List.{length-map}
use Rattle.std.proofs.lemmas.Option.{slice_get-get_or}
use Rattle.std.proofs.Common.{sym, ◌≡◌, refl, ap, arith, ℕ, zero, suc, ◌+◌, ◌<◌, ltb, ◌∙◌, ◌≤◌, Bool, true, false, List, [], ◌∷◌, length, take, Option, Some, None, if◌then◌else◌, slice_get, get_or}
use Rattle.std.proofs.lemmas.Bool.Decides.{nat_tests}
use Rattle.std.specs.Str.{bytes_eq}
use Rattle.std.specs.Option.{is_some}
use Rattle.task_tree.specs.declared.tree.Thread.{Thread}
use Rattle.task_tree.specs.declared.tree.Use.{Use}
use Rattle.task_tree.specs.declared.tree.Given.{Given}
use Rattle.kind_check.specs.Turns.{◌>>=◌, thread_from, thread_of, use_of}
use Rattle.kind_check.specs.Faults.{thread_named}
use Rattle.kind_check.specs.Places.{place_of, further, is_below, thread_names, hole_names}

-- a place is within the list
pub place_within : (names : List (List ℕ)) (name : List ℕ) (i : ℕ) → place_of names name ≡ Some i → i < length names
place_within [] name i e = cc
place_within (n ∷ ns) name i e = at_test (bytes_eq n name) (place_of ns name) (place_within ns name) e
  where
    at_test : (t : Bool) (o : Option ℕ) → ((j : ℕ) → o ≡ Some j → j < length ns)
        → (if t then Some 0 else further o) ≡ Some i → i < suc (length ns)
    at_test true o h e = let z : 0 ≡ i = cc in omega arith
    at_test false None h e = absurd cc
    at_test false (Some j) h e =
        let z : suc j ≡ i = cc in
        let b = h j refl in
        omega arith

-- the first place is below each further one
below_front : (i : ℕ) → true ≡ ltb 0 (suc i)
below_front i = grind (arith, nat_tests)

-- one place further on both sides
below_next : (j i : ℕ) → ltb j i ≡ ltb (suc j) (suc i)
below_next j i = grind (arith, nat_tests)

-- the thread at the first place of its name
abbrev pub thread_at : List Thread → Option ℕ → Option Thread
thread_at ts None = None
thread_at ts (Some i) = slice_get ts i

-- the first thread of a name stands at the first place of the name
pub thread_placed : (ts : List Thread) (name : List ℕ)
    → thread_named ts name ≡ thread_at ts (place_of (thread_names ts) name)
thread_placed [] name = refl
thread_placed (t ∷ ts) name = at_test (bytes_eq t.name.text name) (place_of (thread_names ts) name)
    (thread_placed ts name)
  where
    at_test : (b : Bool) (o : Option ℕ) → thread_named ts name ≡ thread_at ts o
        → (if b then Some t else thread_named ts name) ≡ thread_at (t ∷ ts) (if b then Some 0 else further o)
    at_test true o h = refl
    at_test false None h = h
    at_test false (Some j) h = h

-- a name is among the first threads if its first place is one of theirs
pub thread_among : (ts : List Thread) (name : List ℕ) (i : ℕ)
    → is_some (thread_named (take i ts) name) ≡ is_below (place_of (thread_names ts) name) i
thread_among [] name zero = refl
thread_among [] name (suc i) = refl
thread_among (t ∷ ts) name zero = at_zero
    (if bytes_eq t.name.text name then Some 0 else further (place_of (thread_names ts) name))
  where
    at_zero : (o : Option ℕ) → false ≡ is_below o zero
    at_zero None = refl
    at_zero (Some j) = grind (arith, nat_tests)
thread_among (t ∷ ts) name (suc i) =
    at_test (bytes_eq t.name.text name) (place_of (thread_names ts) name) (thread_among ts name i)
  where
    at_test : (b : Bool) (o : Option ℕ) → is_some (thread_named (take i ts) name) ≡ is_below o i
        → is_some (if b then Some t else thread_named (take i ts) name)
        ≡ is_below (if b then Some 0 else further o) (suc i)
    at_test true o h = below_front i
    at_test false None h = h
    at_test false (Some j) h = h ∙ below_next j i

-- a hole is used if it has a place among the holes that are used
pub use_placed : (us : List Use) (hole : List ℕ) → is_some (use_of us hole) ≡ is_some (place_of (hole_names us) hole)
use_placed [] hole = refl
use_placed (u ∷ us) hole = at_test (bytes_eq u.hole.text hole) (place_of (hole_names us) hole) (use_placed us hole)
  where
    at_test : (b : Bool) (o : Option ℕ) → is_some (use_of us hole) ≡ is_some o
        → is_some (if b then Some u.given else use_of us hole) ≡ is_some (if b then Some 0 else further o)
    at_test true o h = refl
    at_test false None h = h
    at_test false (Some j) h = h

-- a hole is used among the first uses if its first place is one of theirs
pub use_among : (us : List Use) (hole : List ℕ) (i : ℕ)
    → is_some (use_of (take i us) hole) ≡ is_below (place_of (hole_names us) hole) i
use_among [] hole zero = refl
use_among [] hole (suc i) = refl
use_among (u ∷ us) hole zero = at_zero
    (if bytes_eq u.hole.text hole then Some 0 else further (place_of (hole_names us) hole))
  where
    at_zero : (o : Option ℕ) → false ≡ is_below o zero
    at_zero None = refl
    at_zero (Some j) = grind (arith, nat_tests)
use_among (u ∷ us) hole (suc i) = at_test (bytes_eq u.hole.text hole) (place_of (hole_names us) hole)
    (use_among us hole i)
  where
    at_test : (b : Bool) (o : Option ℕ) → is_some (use_of (take i us) hole) ≡ is_below o i
        → is_some (if b then Some u.given else use_of (take i us) hole)
        ≡ is_below (if b then Some 0 else further o) (suc i)
    at_test true o h = below_front i
    at_test false None h = h
    at_test false (Some j) h = h ∙ below_next j i

-- as many threads stand before thread i
pub threads_before : (ts : List Thread) (i : ℕ) → i ≤ length ts → length (take i ts) ≡ i
threads_before ts zero h = refl
threads_before [] (suc i) h = absurd (omega arith)
threads_before (t ∷ ts) (suc i) h = ap suc (threads_before ts i (omega arith))

-- a thread's place is that of a thread
pub thread_within : (ts : List Thread) (names : List (List ℕ)) (name : List ℕ) (i : ℕ) → names ≡ thread_names ts
    → Some i ≡ place_of names name → i < length ts
thread_within ts names name i e f =
    let b = place_within names name i (sym f) in
    omega (arith, length-map ts (λ t. t.name.text), ap length e)

-- so many places further
abbrev pub further_by : ℕ → Option ℕ → Option ℕ
further_by i None = None
further_by i (Some j) = Some (i + j)

thread_from_placed : (i : ℕ) (ts : List Thread) (name : List ℕ)
    → thread_from i ts name ≡ further_by i (place_of (thread_names ts) name)
thread_from_placed i [] name = refl
thread_from_placed i (t ∷ ts) name =
    at_test (bytes_eq t.name.text name) (place_of (thread_names ts) name) (thread_from_placed (i + 1) ts name)
  where
    at_test : (b : Bool) (o : Option ℕ) → thread_from (i + 1) ts name ≡ further_by (i + 1) o
        → (if b then Some i else thread_from (i + 1) ts name) ≡ further_by i (if b then Some 0 else further o)
    at_test true o h = let e : i ≡ i + 0 = omega arith in ap (λ (k : ℕ). Some k) e
    at_test false None h = h
    at_test false (Some j) h = let e : i + 1 + j ≡ i + suc j = omega arith in rw e at h

-- the number of a thread is the first place of its name
pub thread_numbered : (ts : List Thread) (name : List ℕ) → thread_of ts name ≡ place_of (thread_names ts) name
thread_numbered ts name = thread_from_placed 0 ts name ∙ from_zero (place_of (thread_names ts) name)
  where
    from_zero : (o : Option ℕ) → further_by 0 o ≡ o
    from_zero None = refl
    from_zero (Some j) = let e : 0 + j ≡ j = omega arith in ap (λ (k : ℕ). Some k) e

-- the use at the first place of its hole
abbrev pub given_at : List Use → Option ℕ → Option Given
given_at us None = None
given_at us (Some i) = slice_get us i >>= λ (u : Use). Some u.given

-- what is given to a hole stands at the first place of the hole
pub given_placed : (us : List Use) (hole : List ℕ) → use_of us hole ≡ given_at us (place_of (hole_names us) hole)
given_placed [] hole = refl
given_placed (u ∷ us) hole = at_test (bytes_eq u.hole.text hole) (place_of (hole_names us) hole) (given_placed us hole)
  where
    at_test : (b : Bool) (o : Option ℕ) → use_of us hole ≡ given_at us o
        → (if b then Some u.given else use_of us hole) ≡ given_at (u ∷ us) (if b then Some 0 else further o)
    at_test true o h = refl
    at_test false None h = h
    at_test false (Some j) h = h

-- a hole's place is that of a use
pub use_within : (us : List Use) (names : List (List ℕ)) (hole : List ℕ) (i : ℕ) → names ≡ hole_names us
    → Some i ≡ place_of names hole → i < length us
use_within us names hole i e f =
    let b = place_within names hole i (sym f) in
    omega (arith, length-map us (λ u. u.hole.text), ap length e)

-- the use at the first place of a hole, read from the list
pub given_index : (us : List Use) (hole : List ℕ) (i : ℕ) (d : Use) → i < length us
    → Some i ≡ place_of (hole_names us) hole → Some (get_or us i d).given ≡ use_of us hole
given_index us hole i d lt e =
    let at : given_at us (Some i) ≡ Some (get_or us i d).given = rw (slice_get-get_or us i d lt) refl in
    let found : use_of us hole ≡ given_at us (Some i) = given_placed us hole ∙ ap (given_at us) (sym e) in
    sym (found ∙ at)
