-- A content whose numbers differ, and in which each awaited value is owed once, is sound.
use Rattle.std.proofs.Common.{◌≡◌, ℕ, ℤ, zero, suc, ◌+◌, ◌<◌, ◌&&◌, Bool, true, false, nat_eq, List, [], ◌∷◌, length, map, Option, Some, None, IsTrue, refl, sym, ap, ◌∙◌, arith, inl, inr, length-append}
use Rattle.std.specs.List.{AllByRecursion, flat_map, slice_get, sum_by}
use Rattle.std.proofs.lemmas.Bool.{eq-eqb, eqb-true}
use Rattle.std.proofs.lemmas.Bool.Decides.{eqb_tells}
use Rattle.std.proofs.lemmas.List.{length-map}
use Rattle.std.proofs.lemmas.List.Concat.{length-flat_map}
use Rattle.std.proofs.lemmas.List.Sums.{sum_by-append, sum_by-cons}
use Rattle.ids.specs.declared.outcome.Outcome.{Outcome}
use Rattle.ids.specs.declared.outcome.Progress.{Progress}
use Rattle.ids.specs.declared.outcome.Progress.TheVariants.{Active, Finished}
use Rattle.ids.specs.declared.returns.Return.{Return}
use Rattle.ids.specs.declared.returns.Return.TheVariants.{Whole, Local}
use Rattle.ids.specs.declared.work.Frame.{Frame}
use Rattle.ids.specs.declared.work.Record.{Record}
use Rattle.frames.specs.Frames.{AreBelow, is_vacant, missing_in}
use Rattle.sub_rules.specs.declared.content.Content.{Content}
use Rattle.sub_rules.specs.Debts.{HasDebtors, IsOwed, IsSound, awaits_at, is_numbered, is_stolen, is_whole, one_if, owes, record_owes, same_return}
use Rattle.sub_rules.proofs.Slots.{and_false, apart, missing_empty, missing_filled}
use Rattle.subcomputation.specs.Fitting.{awaited_in, empty_from, is_linked, numbers_of, owed_by, same_once}
use Rattle.departure.specs.Links.{times}
use Rattle.departure.proofs.LinkedCounts.{Tells, both, counts_from, same_length}

pub tells_number : Tells nat_eq
tells_number = record { exact = eqb-true; itself = λ n. eq-eqb n n refl }

pub tells_return : Tells same_return
tells_return = record { exact = exact; itself = itself }
  where
    exact : (a b : Return) → IsTrue (same_return a b) → a ≡ b
    exact Whole Whole h = refl
    exact Whole (Local m k) h = absurd cc
    exact (Local n j) Whole h = absurd cc
    exact (Local n j) (Local m k) h =
        let parts = both (nat_eq n m) (nat_eq j k) h in
        ap (λ (i : ℕ). Local i j) (eqb-true n m parts.0) ∙ ap (λ (i : ℕ). Local m i) (eqb-true j k parts.1)

    itself : (a : Return) → IsTrue (same_return a a)
    itself Whole = refl
    itself (Local n j) = rw (eq-eqb n n refl, eq-eqb j j refl) refl

swap : (m n : ℕ) → nat_eq m n ≡ nat_eq n m
swap m n = elim (eqb_tells m n) [
  | inl same ↦ same.0 ∙ sym (eq-eqb n m (sym same.1))
  | inr other ↦ other.0 ∙ sym (apart n m (λ same. other.1 (sym same)))
]

-- sums over what items become, and of terms that are equal
sum_mapped : {A B : Type 0} (g : B → ℕ) (f : A → B) (xs : List A) → sum_by g (map f xs) ≡ sum_by (λ x. g (f x)) xs
sum_mapped g f [] = refl
sum_mapped g f (x ∷ xs) = sum_by-cons g (f x) (map f xs) ∙ ap (λ (k : ℕ). g (f x) + k) (sum_mapped g f xs)
    ∙ sym (sum_by-cons (λ y. g (f y)) x xs)

sum_alike : {A : Type 0} (g h : A → ℕ) → ((x : A) → g x ≡ h x) → (xs : List A) → sum_by g xs ≡ sum_by h xs
sum_alike g h alike [] = refl
sum_alike g h alike (x ∷ xs) =
    let here = alike x in
    let rest = sum_alike g h alike xs in
    omega (arith, sum_by-cons g x xs, sum_by-cons h x xs)

-- how many frames and records have a number
pub times_number : (n : ℕ) (c : Content)
    → times nat_eq n (numbers_of c) ≡ sum_by (is_numbered n) c.frames + sum_by (is_stolen n) c.records
times_number n c =
    let test = λ (m : ℕ). one_if (nat_eq n m) in
    let frames = sum_mapped test (λ (f : Frame). f.number) c.frames
    ∙ sum_alike (λ (f : Frame). one_if (nat_eq n f.number)) (is_numbered n)
    (λ f. ap one_if (swap n f.number)) c.frames in
    let records = sum_mapped test (λ (r : Record). r.frame) c.records
    ∙ sum_alike (λ (r : Record). one_if (nat_eq n r.frame)) (is_stolen n)
    (λ r. ap one_if (swap n r.frame)) c.records in
    sum_by-append test (map (λ (f : Frame). f.number) c.frames) (map (λ (r : Record). r.frame) c.records)
    ∙ ap (λ (k : ℕ). k + sum_by test (map (λ (r : Record). r.frame) c.records)) frames
    ∙ ap (λ (k : ℕ). sum_by (is_numbered n) c.frames + k) records

-- how many of them owe a value
pub times_owed : (r : Return) (c : Content)
    → times same_return r (owed_by c) ≡ sum_by (owes r) c.frames + sum_by (record_owes r) c.records
times_owed r c =
    let test = λ (s : Return). one_if (same_return r s) in
    sum_by-append test (map (λ (f : Frame). f.returns) c.frames) (map (λ (x : Record). x.returns) c.records)
    ∙ ap (λ (k : ℕ). k + sum_by test (map (λ (x : Record). x.returns) c.records))
    (sum_mapped test (λ (f : Frame). f.returns) c.frames)
    ∙ ap (λ (k : ℕ). sum_by (owes r) c.frames + k) (sum_mapped test (λ (x : Record). x.returns) c.records)

-- empty slots don't await the value of the whole, nor one in front of them
whole_elsewhere : (m j : ℕ) (slots : List (Option ℤ)) → times same_return Whole (empty_from m j slots) ≡ 0
whole_elsewhere m j [] = refl
whole_elsewhere m j (None ∷ slots) =
    let rest = whole_elsewhere m (j + 1) slots in
    omega (arith, sum_by-cons (λ s. one_if (same_return Whole s)) (Local m j) (empty_from m (j + 1) slots))
whole_elsewhere m j (Some v ∷ slots) = whole_elsewhere m (j + 1) slots

in_front : (n k m j : ℕ) (slots : List (Option ℤ)) → k < j → times same_return (Local n k) (empty_from m j slots) ≡ 0
in_front n k m j [] less = refl
in_front n k m j (None ∷ slots) less =
    let rest = in_front n k m (j + 1) slots (omega arith) in
    let here : one_if (nat_eq n m && nat_eq k j) ≡ 0 = rw (apart k j (λ same. omega arith)) (and_false (nat_eq n m)) in
    omega (arith, sum_by-cons (λ s. one_if (same_return (Local n k) s)) (Local m j) (empty_from m (j + 1) slots))
in_front n k m j (Some v ∷ slots) less = in_front n k m (j + 1) slots (omega arith)

and_true : (b : Bool) → one_if (b && true) ≡ one_if b
and_true true = refl
and_true false = refl

-- they await a value where a slot is empty
at_slot : (n k m j i : ℕ) (slots : List (Option ℤ)) → k ≡ j + i
    → times same_return (Local n k) (empty_from m j slots) ≡ one_if (nat_eq n m && is_vacant (slice_get slots i))
at_slot n k m j i [] is = sym (and_false (nat_eq n m))
at_slot n k m j zero (None ∷ slots) is =
    let rest = in_front n k m (j + 1) slots (omega arith) in
    let here : one_if (nat_eq n m && nat_eq k j) ≡ one_if (nat_eq n m && true) = rw (eq-eqb k j (omega arith)) refl in
    omega (arith, sum_by-cons (λ s. one_if (same_return (Local n k) s)) (Local m j) (empty_from m (j + 1) slots))
at_slot n k m j (suc i) (None ∷ slots) is =
    let rest = at_slot n k m (j + 1) i slots (omega arith) in
    let here : one_if (nat_eq n m && nat_eq k j) ≡ 0 = rw (apart k j (λ same. omega arith)) (and_false (nat_eq n m)) in
    omega (arith, sum_by-cons (λ s. one_if (same_return (Local n k) s)) (Local m j) (empty_from m (j + 1) slots))
at_slot n k m j zero (Some v ∷ slots) is = in_front n k m (j + 1) slots (omega arith) ∙ sym (and_false (nat_eq n m))
at_slot n k m j (suc i) (Some v ∷ slots) is = at_slot n k m (j + 1) i slots (omega arith)

abbrev empty_of : Frame → List Return
empty_of f = empty_from f.number 0 f.slots

times_empty : (r : Return) (f : Frame) → times same_return r (empty_of f) ≡ awaits_at r f
times_empty Whole f = whole_elsewhere f.number 0 f.slots
times_empty (Local n j) f =
    at_slot n j f.number 0 j f.slots (omega arith)
    ∙ ap (λ (b : Bool). one_if (b && is_vacant (slice_get f.slots j))) (swap n f.number)

times_in_frames : (r : Return) (frames : List Frame)
    → times same_return r (flat_map empty_of frames) ≡ sum_by (awaits_at r) frames
times_in_frames r [] = refl
times_in_frames r (f ∷ fs) =
    let test = λ (s : Return). one_if (same_return r s) in
    let here = times_empty r f in
    let rest = times_in_frames r fs in
    omega (arith, sum_by-append test (empty_of f) (flat_map empty_of fs), sum_by-cons (awaits_at r) f fs)

whole_once : (r : Return) → one_if (same_return r Whole) ≡ is_whole r
whole_once Whole = refl
whole_once (Local n j) = refl

pub times_awaited : (r : Return) (frames : List Frame)
    → times same_return r (awaited_in frames) ≡ is_whole r + sum_by (awaits_at r) frames
times_awaited r frames =
    let here = whole_once r in
    let rest = times_in_frames r frames in
    omega (arith, sum_by-cons (λ s. one_if (same_return r s)) Whole (flat_map empty_of frames))

-- how many values are awaited
length_empty : (m j : ℕ) (slots : List (Option ℤ)) → length (empty_from m j slots) ≡ missing_in slots
length_empty m j [] = refl
length_empty m j (None ∷ slots) = ap suc (length_empty m (j + 1) slots) ∙ sym (missing_empty slots)
length_empty m j (Some v ∷ slots) = length_empty m (j + 1) slots ∙ sym (missing_filled v slots)

length_awaited : (frames : List Frame) → length (awaited_in frames) ≡ suc (sum_by (λ f. missing_in f.slots) frames)
length_awaited frames =
    ap suc (length-flat_map empty_of frames
    ∙ sum_alike (λ (f : Frame). length (empty_of f)) (λ (f : Frame). missing_in f.slots)
    (λ f. length_empty f.number 0 f.slots) frames)

length_owed : (c : Content) → length (owed_by c) ≡ length c.frames + length c.records
length_owed c =
    omega (
      arith,
      length-append (map (λ (f : Frame). f.returns) c.frames) (map (λ (x : Record). x.returns) c.records),
      length-map c.frames (λ (f : Frame). f.returns),
      length-map c.records (λ (x : Record). x.returns),
    )

-- a linked content has one debtor for each value
debtors : (c : Content) → IsTrue (is_linked c) → HasDebtors c.frames c.records
debtors c linked =
    let parts = both (same_once nat_eq (numbers_of c) (numbers_of c))
    (same_once same_return (awaited_in c.frames) (owed_by c)) linked in
    let counts = counts_from same_return tells_return (awaited_in c.frames) (owed_by c) parts.1 in
    record {
      each = λ r. sym (times_owed r c) ∙ sym (counts.equal r) ∙ times_awaited r c.frames;
      all = sym (length_owed c) ∙ sym (same_length same_return tells_return (awaited_in c.frames)
          (owed_by c) counts.equal) ∙ length_awaited c.frames;
    }

-- a linked content of which the numbers are below the next one is sound
pub linked_sound : (c : Content) → c.progress ≡ Active → AreBelow c.next c.frames
    → AllByRecursion (λ r. r.frame < c.next) c.records → IsTrue (is_linked c) → IsSound c
linked_sound c is below stolen_below linked =
    let parts = both (same_once nat_eq (numbers_of c) (numbers_of c))
    (same_once same_return (awaited_in c.frames) (owed_by c)) linked in
    let counts = counts_from nat_eq tells_number (numbers_of c) (numbers_of c) parts.0 in
    record {
      below = below;
      stolen_below = stolen_below;
      once = λ n. let once = counts.once n in omega (arith, times_number n c);
      owed = let P : Progress → Type 0 = λ p. IsOwed p c.frames c.records in rw is (debtors c linked);
    }

-- so is a finished one, which holds nothing
pub finished_sound : (c : Content) (o : Outcome) → c.progress ≡ Finished o → c.frames ≡ [] → c.records ≡ [] → IsSound c
finished_sound c o is no_frames no_records = record {
  below = rw no_frames tt;
  stolen_below = rw no_records tt;
  once = λ n. rw (no_frames, no_records) (omega arith);
  owed = rw is (no_frames, no_records);
}
