-- Where the values of a sound content go: to the whole, or to a slot below 8 of a frame below the
-- next one.
use Rattle.std.proofs.Common.{◌≡◌, ℕ, ℤ, ◌+◌, ◌<◌, ◌≤◌, ◌&&◌, zero, suc, Bool, true, false, nat_eq, List, [], ◌∷◌, length, Option, refl, arith}
use Rattle.std.specs.List.{AllByRecursion, slice_get, sum_by}
use Rattle.std.proofs.lemmas.List.Sums.{sum_by-cons}
use Rattle.std.proofs.lemmas.Bool.{and_parts, eqb-true}
use Rattle.ids.specs.declared.returns.Return.{Return}
use Rattle.ids.specs.declared.returns.Return.TheVariants.{Whole, Local}
use Rattle.ids.specs.declared.work.Frame.{Frame}
use Rattle.ids.specs.declared.work.Record.{Record}
use Rattle.frames.specs.Frames.{AreBelow, is_vacant}
use Rattle.sub_rules.specs.Debts.{HasDebtors, awaits_at, owes, record_owes}
use Rattle.sub_rules.proofs.Arrivals.{same_self}

abbrev pub GoesTo : ℕ → Return → Type 0
GoesTo next Whole = Unit {0}
GoesTo next (Local n j) = (n < next) × (j < 8)

abbrev pub HasFewSlots : Frame → Type 0
HasFewSlots f = length f.slots ≤ 8

-- a slot that is empty is there
vacant_within : (slots : List (Option ℤ)) (j : ℕ) → is_vacant (slice_get slots j) ≡ true → j < length slots
vacant_within [] j is = absurd cc
vacant_within (x ∷ xs) zero is = omega arith
vacant_within (x ∷ xs) (suc j) is = let rest = vacant_within xs j is in omega arith

-- a value that is awaited is awaited there
awaited : (next n j : ℕ) (frames : List Frame) → AreBelow next frames → AllByRecursion HasFewSlots frames
    → 0 < sum_by (awaits_at (Local n j)) frames → GoesTo next (Local n j)
awaited next n j [] below few some = absurd (omega arith)
awaited next n j (f ∷ fs) below few some =
    by_here (awaited next n j fs below.1 few.1) (nat_eq f.number n && is_vacant (slice_get f.slots j)) refl
  where
    by_here : (0 < sum_by (awaits_at (Local n j)) fs → GoesTo next (Local n j)) → (b : Bool)
        → (nat_eq f.number n && is_vacant (slice_get f.slots j)) ≡ b → GoesTo next (Local n j)
    by_here rest true is =
        let both = and_parts (nat_eq f.number n) (is_vacant (slice_get f.slots j)) is in
        let same : f.number ≡ n = eqb-true f.number n both.0 in
        let within : j < length f.slots = vacant_within f.slots j both.1 in
        let under : f.number < next = below.0 in
        let short : length f.slots ≤ 8 = few.0 in
        (omega arith, omega arith)
    by_here rest false is =
        let none : awaits_at (Local n j) f ≡ 0 = rw is refl in
        rest (omega (arith, sum_by-cons (awaits_at (Local n j)) f fs))

-- what is owed is awaited
owed : (next : ℕ) (frames : List Frame) (records : List Record) → HasDebtors frames records → AreBelow next frames
    → AllByRecursion HasFewSlots frames → (r : Return) → 0 < sum_by (owes r) frames + sum_by (record_owes r) records
    → GoesTo next r
owed next frames records debtors below few Whole some = tt
owed next frames records debtors below few (Local n j) some =
    awaited next n j frames below few (let same = debtors.each (Local n j) in omega arith)

-- what holds of all that is owed holds where each frame's value goes, and each record's
frames_owe : (P : Return → Type 0) (frames : List Frame) → ((r : Return) → 0 < sum_by (owes r) frames → P r)
    → AllByRecursion (λ f. P f.returns) frames
frames_owe P [] each = tt
frames_owe P (f ∷ fs) each =
    let here : owes f.returns f ≡ 1 = rw (same_self f.returns) refl in (
      each f.returns (omega (arith, sum_by-cons (owes f.returns) f fs)),
      frames_owe P fs (λ r some. each r (omega (arith, sum_by-cons (owes r) f fs))),
    )

records_owe : (P : Return → Type 0) (records : List Record) → ((r : Return) → 0 < sum_by (record_owes r) records → P r)
    → AllByRecursion (λ x. P x.returns) records
records_owe P [] each = tt
records_owe P (x ∷ xs) each =
    let here : record_owes x.returns x ≡ 1 = rw (same_self x.returns) refl in (
      each x.returns (omega (arith, sum_by-cons (record_owes x.returns) x xs)),
      records_owe P xs (λ r some. each r (omega (arith, sum_by-cons (record_owes r) x xs))),
    )

pub frames_go : (next : ℕ) (frames : List Frame) (records : List Record) → HasDebtors frames records
    → AreBelow next frames → AllByRecursion HasFewSlots frames → AllByRecursion (λ f. GoesTo next f.returns) frames
frames_go next frames records debtors below few =
    frames_owe (GoesTo next) frames (λ r some. owed next frames records debtors below few r (omega arith))

pub records_go : (next : ℕ) (frames : List Frame) (records : List Record) → HasDebtors frames records
    → AreBelow next frames → AllByRecursion HasFewSlots frames → AllByRecursion (λ x. GoesTo next x.returns) records
records_go next frames records debtors below few =
    records_owe (GoesTo next) records (λ r some. owed next frames records debtors below few r (omega arith))
