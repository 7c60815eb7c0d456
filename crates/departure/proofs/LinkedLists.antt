-- The names of the numbers in a content, and of where its values are awaited and owed, one after
-- another.
use Rattle.std.proofs.Common.{◌≡◌, ℕ, ℤ, ◌+◌, ◌<◌, ◌≤◌, ◌&&◌, ◌||◌, Bool, true, false, nat_eq, List, [], ◌∷◌, ◌++◌, length, map, drop, get_or, Option, Some, None, Result, Ok, Err, IfOk, Bor, refl, sym, ap, ◌∙◌, arith, append_assoc, inl, inr}
use Rattle.std.specs.List.{flat_map}
use Rattle.std.specs.Option.{is_some, option_copied}
use Rattle.std.proofs.lemmas.Bool.{eq-eqb}
use Rattle.std.proofs.lemmas.Bool.Decides.{eqb_tells}
use Rattle.std.proofs.lemmas.List.{drop_all, drop_more, map-append}
use Rattle.ids.specs.Named.{Name}
use Rattle.ids.specs.declared.returns.Return.{Return}
use Rattle.ids.specs.declared.returns.Return.TheVariants.{Whole, Local}
use Rattle.ids.specs.declared.work.Frame.{Frame}
use Rattle.ids.specs.declared.work.Record.{Record}
use Rattle.sub_rules.specs.Debts.{same_return}
use Rattle.sub_rules.proofs.Slots.{apart}
use Rattle.sub_rules.specs.declared.content.Content.{Content}
use Rattle.subcomputation.specs.Fitting.{awaited_in, empty_from, is_linked, numbers_of, owed_by, same_once}
use Rattle.departure.specs.Links.{name_of_number, name_of_return, same_name}
use Rattle.departure.proofs.LinkedNames.{once_by_names}

pub append_none : {A : Type 0} (xs : List A) → xs ++ [] ≡ xs
append_none [] = refl
append_none (x ∷ xs) = ap (λ ys. x ∷ ys) (append_none xs)

pub nothing_left : {A : Type 0} (xs : List A) → length xs ≡ 0 → xs ≡ []
nothing_left [] none = refl
nothing_left (x ∷ xs) none = absurd (omega arith)

pub copied_some : {A : Type 0} (o : Option (Bor A)) → is_some (option_copied o) ≡ is_some o
copied_some None = refl
copied_some (Some x) = refl

-- a slot that is empty, or not
pub empty_next : (n i : ℕ) (slots : List (Option ℤ)) (before : List Name) (d : Option ℤ) → i < length slots
    → is_some (get_or slots i d) ≡ false
    → (before ++ (n + 1, i) ∷ []) ++ map name_of_return (empty_from n (i + 1) (drop (i + 1) slots))
    ≡ before ++ map name_of_return (empty_from n i (drop i slots))
empty_next n i slots before d within empty =
    append_assoc before ((n + 1, i) ∷ []) (map name_of_return (empty_from n (i + 1) (drop (i + 1) slots)))
    ∙ ap (λ names. before ++ names) (by_slot (get_or slots i d) empty
    ∙ ap (λ rest. map name_of_return (empty_from n i rest)) (sym (drop_more slots i d within)))
  where
    by_slot : (slot : Option ℤ) → is_some slot ≡ false
        → (n + 1, i) ∷ map name_of_return (empty_from n (i + 1) (drop (i + 1) slots))
        ≡ map name_of_return (empty_from n i (slot ∷ drop (i + 1) slots))
    by_slot None is = refl
    by_slot (Some v) is = absurd cc

pub filled_next : (n i : ℕ) (slots : List (Option ℤ)) (before : List Name) (d : Option ℤ) → i < length slots
    → is_some (get_or slots i d) ≡ true
    → before ++ map name_of_return (empty_from n (i + 1) (drop (i + 1) slots))
    ≡ before ++ map name_of_return (empty_from n i (drop i slots))
filled_next n i slots before d within filled =
    ap (λ names. before ++ names) (by_slot (get_or slots i d) filled
    ∙ ap (λ rest. map name_of_return (empty_from n i rest)) (sym (drop_more slots i d within)))
  where
    by_slot : (slot : Option ℤ) → is_some slot ≡ true
        → map name_of_return (empty_from n (i + 1) (drop (i + 1) slots))
        ≡ map name_of_return (empty_from n i (slot ∷ drop (i + 1) slots))
    by_slot None is = absurd cc
    by_slot (Some v) is = refl

-- behind the last slot there is none
pub slots_end : (n i : ℕ) (slots : List (Option ℤ)) (names : List Name) → length slots ≤ i
    → names ++ map name_of_return (empty_from n i (drop i slots)) ≡ names
slots_end n i slots names past =
    ap (λ rest. names ++ map name_of_return (empty_from n i rest)) (drop_all i slots past) ∙ append_none names

abbrev pub empty_in : Frame → List Return
empty_in f = empty_from f.number 0 f.slots

-- the empty slots of a frame
pub frame_next : (i : ℕ) (frames : List Frame) (before : List Name) (f d : Frame) → i < length frames
    → f ≡ get_or frames i d → (before ++ map name_of_return (empty_in f))
    ++ map name_of_return (flat_map empty_in (drop (i + 1) frames))
    ≡ before ++ map name_of_return (flat_map empty_in (drop i frames))
frame_next i frames before f d within is =
    append_assoc before (map name_of_return (empty_in f)) (map name_of_return (flat_map empty_in (drop (i + 1) frames)))
    ∙ ap (λ names. before ++ names) (sym
    (map-append name_of_return (empty_in f) (flat_map empty_in (drop (i + 1) frames)))
    ∙ ap (λ rest. map name_of_return (flat_map empty_in rest)) (ap (λ g. g ∷ drop (i + 1) frames) is
    ∙ sym (drop_more frames i d within)))

pub frames_end : (i : ℕ) (frames : List Frame) (names : List Name) → length frames ≤ i
    → names ++ map name_of_return (flat_map empty_in (drop i frames)) ≡ names
frames_end i frames names past =
    ap (λ rest. names ++ map name_of_return (flat_map empty_in rest)) (drop_all i frames past) ∙ append_none names

-- the names of what two lists give
mapped : {A B : Type 0} (f : A → B) (name : B → Name) (xs : List A) → map (λ x. name (f x)) xs ≡ map name (map f xs)
mapped f name [] = refl
mapped f name (x ∷ xs) = ap (λ names. name (f x) ∷ names) (mapped f name xs)

both_mapped : {A B C : Type 0} (f : A → C) (g : B → C) (name : C → Name) (xs : List A) (ys : List B)
    → map (λ x. name (f x)) xs ++ map (λ y. name (g y)) ys ≡ map name (map f xs ++ map g ys)
both_mapped f g name xs ys =
    ap (λ names. names ++ map (λ y. name (g y)) ys) (mapped f name xs)
    ∙ ap (λ names. map name (map f xs) ++ names) (mapped g name ys) ∙ sym (map-append name (map f xs) (map g ys))

pub numbers_named : (frames : List Frame) (records : List Record)
    → map (λ (f : Frame). name_of_number f.number) frames ++ map (λ (r : Record). name_of_number r.frame) records
    ≡ map name_of_number (map (λ (f : Frame). f.number) frames ++ map (λ (r : Record). r.frame) records)
numbers_named frames records = both_mapped (λ (f : Frame). f.number)
    (λ (r : Record). r.frame) name_of_number frames records

pub debts_named : (frames : List Frame) (records : List Record)
    → map (λ (f : Frame). name_of_return f.returns) frames ++ map (λ (r : Record). name_of_return r.returns) records
    ≡ map name_of_return (map (λ (f : Frame). f.returns) frames ++ map (λ (r : Record). r.returns) records)
debts_named frames records = both_mapped (λ (f : Frame). f.returns)
    (λ (r : Record). r.returns) name_of_return frames records

-- numbers, and returns, are the same where their names are
and_true : (b : Bool) → b ≡ (b && true)
and_true true = refl
and_true false = refl

raised : (m n : ℕ) → nat_eq m n ≡ nat_eq (m + 1) (n + 1)
raised m n = elim (eqb_tells m n) [
  | inl same ↦ let equal = same.1 in same.0 ∙ sym (eq-eqb (m + 1) (n + 1) (omega arith))
  | inr other ↦ let different = other.1 in other.0 ∙ sym (apart (m + 1) (n + 1) (λ same. different (omega arith)))
]

same_number : (a b : ℕ) → nat_eq a b ≡ same_name (name_of_number a) (name_of_number b)
same_number a b = and_true (nat_eq a b)

same_returns : (a b : Return) → same_return a b ≡ same_name (name_of_return a) (name_of_return b)
same_returns Whole Whole = refl
same_returns Whole (Local m k) = rw (apart 0 (m + 1) (λ same. omega arith)) refl
same_returns (Local n j) Whole = rw (apart (n + 1) 0 (λ same. omega arith)) refl
same_returns (Local n j) (Local m k) = ap (λ (b : Bool). b && nat_eq j k) (raised n m)

pub numbers_by_names : (xs ys : List ℕ)
    → same_once nat_eq xs ys ≡ same_once same_name (map name_of_number xs) (map name_of_number ys)
numbers_by_names xs ys = once_by_names nat_eq name_of_number same_number xs ys

pub returns_by_names : (xs ys : List Return)
    → same_once same_return xs ys ≡ same_once same_name (map name_of_return xs) (map name_of_return ys)
returns_by_names xs ys = once_by_names same_return name_of_return same_returns xs ys

-- where nothing is left to come
pub or_none : (b : Bool) → b ≡ (b || false)
or_none true = refl
or_none false = refl

-- the answer to a test of two lists is that of lists which are equal to them
pub same_lists : (these those xs ys : List Name) → these ≡ xs → those ≡ ys
    → same_once same_name these those ≡ same_once same_name xs ys
same_lists these those xs ys left right =
    ap (λ names. same_once same_name names those) left ∙ ap (λ names. same_once same_name xs names) right

-- a content is linked where both tests say so
pub unlinked : (c : Content) → same_once nat_eq (numbers_of c) (numbers_of c) ≡ false → false ≡ is_linked c
unlinked c twice = rw twice refl

pub linked_by : (c : Content) → same_once nat_eq (numbers_of c) (numbers_of c) ≡ true
    → same_once same_return (awaited_in c.frames) (owed_by c) ≡ is_linked c
linked_by c once = rw once refl

-- an answer, where there is one, is also what is equal to it
pub answers : {E : Type 0} (r : Result Bool E) (a b : Bool) → a ≡ b → IfOk r (λ x. x ≡ a) → IfOk r (λ x. x ≡ b)
answers (Ok x) a b same is = is ∙ same
answers (Err e) a b same is = tt
