-- When the frames and records of an Offer can be written.
use Rattle.std.proofs.Common.{◌≡◌, ℕ, ◌<◌, ◌≤◌, ◌^◌, ◌&&◌, ◌||◌, Bool, true, false, nat_eq, nat_lt, List, [], ◌∷◌, map, cond, length, Option, Some, None, refl, ◌∙◌, Less, Equal, Greater, arith}
use Rattle.std.specs.List.{AllByRecursion}
use Rattle.std.specs.Ordering.{ordering_then}
use Rattle.std.proofs.lemmas.Bool.{lt-ltb, le-leb}
use Rattle.std.proofs.lemmas.Map.Keys.{sorted_head, sorted_tail}
use Rattle.ids.specs.Named.{name_cmp}
use Rattle.ids.specs.Names.{Grant, grant_before}
use Rattle.ids.specs.Naming.{name_of_frame, name_of_grant, name_of_record}
use Rattle.ids.specs.Ordered.{AreInOrder}
use Rattle.ids.specs.declared.outcome.Progress.TheVariants.{Active}
use Rattle.ids.specs.declared.returns.Return.{Return}
use Rattle.ids.specs.declared.returns.Return.TheVariants.{Whole, Local}
use Rattle.ids.specs.declared.work.Frame.{Frame}
use Rattle.ids.specs.declared.work.Record.{Record}
use Rattle.packet_fields.specs.Format.{items}
use Rattle.packet_fields.specs.Fields as field
use Rattle.packet_fields.proofs.Fitting.{slots_fits}
use Rattle.departure.specs.Typed.{FrameTyped, RecordTyped}
use Rattle.departure.proofs.OfferingReturns.{GoesTo}

pub both : {a b : Bool} → a ≡ true → b ≡ true → (a && b) ≡ true
both {a} {b} first second = rw (first, second) refl

-- a frame's order and a record's order, as tests
less_number : (m n : ℕ) → name_cmp (m, 0) (n, 0) ≡ Less → nat_lt m n ≡ true
less_number m n less = by_tests (nat_lt m n) (nat_eq m n) less
  where
    by_tests : (a b : Bool) → ordering_then (cond a Less (cond b Equal Greater)) Equal ≡ Less → a ≡ true
    by_tests true b less = refl
    by_tests false true less = absurd cc
    by_tests false false less = absurd cc

less_grant : (g h : Grant) → name_cmp (name_of_grant g) (name_of_grant h) ≡ Less → grant_before g h ≡ true
less_grant g h less = by_tests (nat_lt g.minter h.minter) (nat_eq g.minter h.minter) (nat_lt g.number h.number)
    (nat_eq g.number h.number) less
  where
    by_tests : (a b c d : Bool) → ordering_then (cond a Less (cond b Equal Greater))
        (cond c Less (cond d Equal Greater)) ≡ Less → (a || (b && c)) ≡ true
    by_tests true b c d less = refl
    by_tests false true true d less = refl
    by_tests false true false true less = absurd cc
    by_tests false true false false less = absurd cc
    by_tests false false c d less = absurd cc

-- where a value goes
goes_fits : (next : ℕ) (r : Return) → next < 2 ^ 32 → GoesTo next r → (field.goes_to next).fits r ≡ true
unfolding field.goes_to
goes_fits next Whole limit goes = refl
goes_fits next (Local n j) limit goes =
    let frame : n < next = goes.0 in
    let slot : j < 8 = goes.1 in
    both (both (lt-ltb n (256 ^ 4) (omega arith)) (lt-ltb n next frame))
    (both (lt-ltb j (256 ^ 1) (omega arith)) (lt-ltb j 8 slot))

-- what is known of a frame and of a record beside their types
pub record FrameSuits (next : ℕ) (f : Frame) : Type 0 where
  pub number : f.number < next
  pub thread : f.thread < 64
  pub few : length f.slots ≤ 8
  pub goes : GoesTo next f.returns
  pub typed : FrameTyped f

pub record RecordSuits (next : ℕ) (r : Record) : Type 0 where
  pub number : r.frame < next
  pub thread : r.task.thread < 64
  pub few : length r.task.numbers ≤ 8
  pub goes : GoesTo next r.returns
  pub typed : RecordTyped r

thread_fits : (t : ℕ) → t < 64 → field.thread.fits t ≡ true
unfolding field.thread
thread_fits t few = both (lt-ltb t (256 ^ 1) (omega arith)) (lt-ltb t 64 few)

frame_fits : (next : ℕ) (last : Option ℕ) (f : Frame) → next < 2 ^ 32 → field.is_above last f.number ≡ true
    → FrameSuits next f → (field.frame next last).fits f ≡ true
unfolding field.frame
frame_fits next last f limit above suits =
    let number : f.number < next = suits.number in
    both (both (both (lt-ltb f.number (256 ^ 4) (omega arith)) (lt-ltb f.number next number)) above)
    (both suits.typed.place (both (thread_fits f.thread suits.thread)
    (both (slots_fits f.slots ∙ both (le-leb (length f.slots) 8 suits.few) suits.typed.slots)
    (goes_fits next f.returns limit suits.goes))))

stolen_fits : (next : ℕ) (last : Option Grant) (r : Record) → next < 2 ^ 32 → field.is_behind last r.grant ≡ true
    → RecordSuits next r → (field.stolen next last).fits r ≡ true
unfolding field.stolen
stolen_fits next last r limit behind suits =
    let number : r.frame < next = suits.number in
    both (both suits.typed.grant behind)
    (both suits.typed.holder (both (both (lt-ltb r.frame (256 ^ 4) (omega arith)) (lt-ltb r.frame next number))
    (both (suits.typed.task suits.thread suits.few) (goes_fits next r.returns limit suits.goes))))

-- the first of them stands behind the one before
abbrev IsFirst : (last : Option ℕ) → List Frame → Type 0
IsFirst last [] = Unit {0}
IsFirst last (f ∷ fs) = field.is_above last f.number ≡ true

abbrev IsFirstRecord : (last : Option Grant) → List Record → Type 0
IsFirstRecord last [] = Unit {0}
IsFirstRecord last (r ∷ rs) = field.is_behind last r.grant ≡ true

first_above : (n : ℕ) (fs : List Frame) → AllByRecursion (λ y. name_cmp (n, 0) y ≡ Less) (map name_of_frame fs)
    → IsFirst (Some n) fs
first_above n [] above = tt
first_above n (f ∷ fs) above = less_number n f.number above.0

first_behind : (g : Grant) (rs : List Record)
    → AllByRecursion (λ y. name_cmp (name_of_grant g) y ≡ Less) (map name_of_record rs) → IsFirstRecord (Some g) rs
first_behind g [] behind = tt
first_behind g (r ∷ rs) behind = less_grant g r.grant behind.0

each_frame : (next : ℕ) (last : Option ℕ) (fs : List Frame) → next < 2 ^ 32 → IsFirst last fs
    → AreInOrder name_of_frame fs → AllByRecursion (FrameSuits next) fs
    → (items field.number_of_frame (field.frame next) last (length fs)).fits fs ≡ true
each_frame next last [] limit first order suit = refl
each_frame next last (f ∷ fs) limit first order suit =
    both (frame_fits next last f limit first suit.0)
    (each_frame next (Some f.number) fs limit
    (first_above f.number fs (sorted_head name_cmp (name_of_frame f) (map name_of_frame fs) order))
    (sorted_tail name_cmp (name_of_frame f) (map name_of_frame fs) order) suit.1)

each_record : (next : ℕ) (last : Option Grant) (rs : List Record) → next < 2 ^ 32 → IsFirstRecord last rs
    → AreInOrder name_of_record rs → AllByRecursion (RecordSuits next) rs
    → (items field.grant_of_record (field.stolen next) last (length rs)).fits rs ≡ true
each_record next last [] limit first order suit = refl
each_record next last (r ∷ rs) limit first order suit =
    both (stolen_fits next last r limit first suit.0)
    (each_record next (Some r.grant) rs limit
    (first_behind r.grant rs (sorted_head name_cmp (name_of_record r) (map name_of_record rs) order))
    (sorted_tail name_cmp (name_of_record r) (map name_of_record rs) order) suit.1)

first_frame : (fs : List Frame) → IsFirst None fs
first_frame [] = tt
first_frame (f ∷ fs) = refl

first_record : (rs : List Record) → IsFirstRecord None rs
first_record [] = tt
first_record (r ∷ rs) = refl

-- frames and records of a subcomputation that goes on
pub frames_fit : (next : ℕ) (fs : List Frame) → next < 2 ^ 32 → length fs ≤ next → AreInOrder name_of_frame fs
    → AllByRecursion (FrameSuits next) fs → (field.frames Active next).fits fs ≡ true
unfolding field.frames
frames_fit next fs limit few order suit =
    both (both (lt-ltb (length fs) (256 ^ 4) (omega arith)) refl)
    (each_frame next None fs limit (first_frame fs) order suit)

pub records_fit : (next : ℕ) (rs : List Record) → next < 2 ^ 32 → length rs ≤ next → AreInOrder name_of_record rs
    → AllByRecursion (RecordSuits next) rs → (field.records Active next).fits rs ≡ true
unfolding field.records
records_fit next rs limit few order suit =
    both (both (lt-ltb (length rs) (256 ^ 4) (omega arith)) refl)
    (each_record next None rs limit (first_record rs) order suit)
