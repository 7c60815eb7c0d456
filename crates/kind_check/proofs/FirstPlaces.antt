-- Lemmas on a map from names to their first places, where a name is added or taken away.
use Rattle.std.proofs.Common.{◌≡◌, ◌∙◌, ◌≢◌, sym, refl, ap, arith, ℕ, suc, Bool, true, false, cond, List, [], ◌∷◌, ◌++◌, ◌==◌, length, map, Option, Some, None, if◌then◌else◌}
use Rattle.std.proofs.lemmas.Bool.Decides.{nat_tests}
use Rattle.std.specs.Borrow.{Bor}
use Rattle.std.specs.HashMap.{HashMap, get_by}
use Rattle.std.specs.Str.{bytes_eq}
use Rattle.std.specs.Option.{is_some}
use Rattle.std.proofs.lemmas.List.{map-append, length-map}
use Rattle.std.proofs.lemmas.Slice.Eq.{bytes_eq-Decides}
use Rattle.kind_check.specs.Places.{place_of, further}
use Rattle.kind_check.specs.FindsFirst.{FindsFirst}
use Rattle.kind_check.proofs.Known.{or_else}
use Rattle.kind_check.proofs.Places.{place_within}

-- a further name is looked for behind the others
pub place_of_more : (ns : List (List ℕ)) (n name : List ℕ)
    → place_of (ns ++ n ∷ []) name ≡ or_else (place_of ns name) (if bytes_eq n name then Some (length ns) else None)
place_of_more [] n name = refl
place_of_more (m ∷ ns) n name = at_tests (bytes_eq m name) (bytes_eq n name) (place_of ns name)
    (place_of_more ns n name)
  where
    at_tests : (t u : Bool) (o : Option ℕ)
        → place_of (ns ++ n ∷ []) name ≡ or_else o (if u then Some (length ns) else None)
        → (if t then Some 0 else further (place_of (ns ++ n ∷ []) name))
        ≡ or_else (if t then Some 0 else further o) (if u then Some (suc (length ns)) else None)
    at_tests true u o h = refl
    at_tests false u (Some i) h = ap further h
    at_tests false true None h = ap further h
    at_tests false false None h = ap further h

-- equal names have one place
same_place : (ns : List (List ℕ)) (n name : List ℕ) → bytes_eq n name ≡ true → place_of ns n ≡ place_of ns name
same_place ns n name e = ap (place_of ns) ((bytes_eq-Decides n name).0 e)

-- a name that is there changes no place
pub known_same : (ns : List (List ℕ)) (n name : List ℕ) (i : ℕ) → place_of ns n ≡ Some i
    → place_of (ns ++ n ∷ []) name ≡ place_of ns name
known_same ns n name i e = place_of_more ns n name ∙ at_test (bytes_eq n name) (place_of ns name) (same_place ns n name)
  where
    at_test : (t : Bool) (o : Option ℕ) → (t ≡ true → place_of ns n ≡ o)
        → or_else o (if t then Some (length ns) else None) ≡ o
    at_test t (Some j) h = refl
    at_test true None h = let z = h refl in absurd cc
    at_test false None h = refl

-- a name that isn't there gets the next place
pub new_place : (ns : List (List ℕ)) (n name : List ℕ) → place_of ns n ≡ None
    → cond (bytes_eq n name) (Some (length ns)) (place_of ns name) ≡ place_of (ns ++ n ∷ []) name
new_place ns n name e = at_test (bytes_eq n name) (place_of ns name) (same_place ns n name)
    ∙ sym (place_of_more ns n name)
  where
    at_test : (t : Bool) (o : Option ℕ) → (t ≡ true → place_of ns n ≡ o)
        → cond t (Some (length ns)) o ≡ or_else o (if t then Some (length ns) else None)
    at_test true (Some j) h = let z = h refl in absurd cc
    at_test true None h = refl
    at_test false (Some j) h = refl
    at_test false None h = refl

-- a name whose first place is the last was not there before
pub last_place : (ns : List (List ℕ)) (n : List ℕ) → place_of (ns ++ n ∷ []) n ≡ Some (length ns) → place_of ns n ≡ None
last_place ns n e = at_place (place_of ns n) refl (sym (place_of_more ns n n) ∙ e)
  where
    at_place : (o : Option ℕ) → place_of ns n ≡ o
        → or_else o (if bytes_eq n n then Some (length ns) else None) ≡ Some (length ns) → o ≡ None
    at_place None f h = refl
    at_place (Some i) f h =
        let b = place_within ns n i f in
        let z : i ≡ length ns = cc in
        absurd (omega arith)

-- a name that is taken away, where it stood first
pub place_away : (ns : List (List ℕ)) (n name : List ℕ) → place_of ns n ≡ None
    → cond (bytes_eq n name) None (place_of (ns ++ n ∷ []) name) ≡ place_of ns name
place_away ns n name e = rw place_of_more (at_test (bytes_eq n name) (place_of ns name) (same_place ns n name))
  where
    at_test : (t : Bool) (o : Option ℕ) → (t ≡ true → place_of ns n ≡ o)
        → cond t None (or_else o (if t then Some (length ns) else None)) ≡ o
    at_test true (Some j) h = let z = h refl in absurd cc
    at_test true None h = refl
    at_test false (Some j) h = refl
    at_test false None h = refl

-- the last name stands somewhere
pub last_there : (ns : List (List ℕ)) (n : List ℕ) → place_of (ns ++ n ∷ []) n ≢ None
last_there ns n e = at_place (place_of ns n) (bytes_eq n n) ((bytes_eq-Decides n n).1 refl) (sym (place_of_more ns n n)
    ∙ e)
  where
    at_place : (o : Option ℕ) (t : Bool) → t ≡ true → or_else o (if t then Some (length ns) else None) ≡ None → ⊥
    at_place (Some i) t f h = cc
    at_place None true f h = cc
    at_place None false f h = cc

-- a name whose first place isn't the last was there before
pub not_last : (ns : List (List ℕ)) (n name : List ℕ) → place_of (ns ++ n ∷ []) n ≢ Some (length ns)
    → place_of (ns ++ n ∷ []) name ≡ place_of ns name
not_last ns n name e = at_place (place_of ns n) refl
  where
    at_place : (o : Option ℕ) → place_of ns n ≡ o → place_of (ns ++ n ∷ []) name ≡ place_of ns name
    at_place (Some i) f = known_same ns n name i f
    at_place None f = absurd (e (place_of_more ns n n ∙ rw (f, (bytes_eq-Decides n n).1 refl) refl))

-- the names of references, one more
names_more : (items more : List (Bor (List ℕ))) (n : Bor (List ℕ)) → more ≡ items ++ n ∷ []
    → map (λ x. x.now) more ≡ map (λ x. x.now) items ++ n.now ∷ []
names_more items more n e = rw (e, map-append) refl

-- what is found of a name
abbrev found_of : {S : Type 0} → HashMap (Bor (List ℕ)) ℕ S → Bor (List ℕ) → Option ℕ
found_of first name = get_by (λ k. bytes_eq name.now k.now) first

-- a name that the map knows is added
pub known_added : {S : Type 0} (first : HashMap (Bor (List ℕ)) ℕ S) (items more : List (Bor (List ℕ)))
    (n : Bor (List ℕ)) → FindsFirst first (map (λ x. x.now) items) → more ≡ items ++ n ∷ []
    → is_some (found_of first n) ≡ true → FindsFirst first (map (λ x. x.now) more)
known_added first items more n f e h =
    record {
      found = λ name. f.found name ∙ at_place (place_of names n.now) refl (rw (f.found n) at h) name
          ∙ ap (λ ns. place_of ns name.now) (sym (names_more items more n e));
    }
  where
    names : List (List ℕ)
    names = map (λ x. x.now) items

    at_place : (o : Option ℕ) → place_of names n.now ≡ o → is_some o ≡ true → (name : Bor (List ℕ))
        → place_of names name.now ≡ place_of (names ++ n.now ∷ []) name.now
    at_place None g h name = absurd cc
    at_place (Some i) g h name = sym (known_same names n.now name.now i g)

-- a name that the map doesn't know is added
pub new_added : {S : Type 0} (first next : HashMap (Bor (List ℕ)) ℕ S) (items more : List (Bor (List ℕ)))
    (n : Bor (List ℕ)) (place : ℕ) → FindsFirst first (map (λ x. x.now) items) → more ≡ items ++ n ∷ []
    → is_some (found_of first n) ≡ false → place ≡ length items
    → ((name : Bor (List ℕ)) → found_of next name ≡ cond (bytes_eq n.now name.now) (Some place) (found_of first name))
    → FindsFirst next (map (λ x. x.now) more)
new_added first next items more n place f e h p u =
    record {
      found = λ name. u name ∙ rw (f.found name, p, ← length-map items (λ x. x.now))
          (new_place names n.now name.now (absent (place_of names n.now) (rw (f.found n) at h)))
          ∙ ap (λ ns. place_of ns name.now) (sym (names_more items more n e));
    }
  where
    names : List (List ℕ)
    names = map (λ x. x.now) items

    absent : (o : Option ℕ) → is_some o ≡ false → o ≡ None
    absent None h = refl
    absent (Some i) h = absurd cc

-- the last name is taken away, where it stands first
pub first_gone : {S : Type 0} (first next : HashMap (Bor (List ℕ)) ℕ S) (items rest : List (Bor (List ℕ)))
    (n : Bor (List ℕ)) → FindsFirst first (map (λ x. x.now) items) → items ≡ rest ++ n ∷ []
    → found_of first n ≡ Some (length rest)
    → ((name : Bor (List ℕ)) → found_of next name ≡ cond (bytes_eq n.now name.now) None (found_of first name))
    → FindsFirst next (map (λ x. x.now) rest)
first_gone first next items rest n f e h u =
    record {
      found = λ name. u name ∙ rw (f.found name, names_more rest items n e)
          (place_away names n.now name.now (last_place names n.now at_last));
    }
  where
    names : List (List ℕ)
    names = map (λ x. x.now) rest

    at_last : place_of (names ++ n.now ∷ []) n.now ≡ Some (length names)
    at_last = ap (λ ns. place_of ns n.now) (sym (names_more rest items n e)) ∙ sym (f.found n) ∙ h
        ∙ ap Some (sym (length-map rest (λ x. x.now)))

-- the last name is taken away, where it doesn't stand first
pub later_gone : {S : Type 0} (first : HashMap (Bor (List ℕ)) ℕ S) (items rest : List (Bor (List ℕ))) (n : Bor (List ℕ))
    → FindsFirst first (map (λ x. x.now) items) → items ≡ rest ++ n ∷ [] → found_of first n ≢ Some (length rest)
    → FindsFirst first (map (λ x. x.now) rest)
later_gone first items rest n f e h =
    record {
      found = λ name. f.found name ∙ ap (λ ns. place_of ns name.now) (names_more rest items n e)
          ∙ not_last names n.now name.now apart;
    }
  where
    names : List (List ℕ)
    names = map (λ x. x.now) rest

    apart : place_of (names ++ n.now ∷ []) n.now ≢ Some (length names)
    apart g = h (f.found n ∙ ap (λ ns. place_of ns n.now) (names_more rest items n e) ∙ g
        ∙ ap Some (length-map rest (λ x. x.now)))

-- what the test of the last place says
pub is_last : (o : Option ℕ) (f place n : ℕ) (t : Bool) → Some f ≡ o → t ≡ (f == place) → t ≡ true → place ≡ n
    → o ≡ Some n
is_last o f place n t a b d e =
    let z : (f == place) ≡ true = cc in
    let y : f ≡ place = grind (arith, nat_tests) in
    cc

-- and what its failing says
pub isnt_last : (o : Option ℕ) (f place n : ℕ) (t : Bool) → Some f ≡ o → t ≡ (f == place) → t ≡ false → place ≡ n
    → o ≢ Some n
isnt_last o f place n t a b d e h =
    let z : (f == place) ≡ false = cc in
    let y : f ≡ n = cc in
    let x : f ≡ place = cc in
    grind (arith, nat_tests)
