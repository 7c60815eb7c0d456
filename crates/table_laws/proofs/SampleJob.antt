-- The job of the sample runs: its first task joins a successor with one kid, the kid sends 7, and
-- the successor sends what it got.
use Rattle.std.proofs.Common.{◌≡◌, ℕ, ℤ, pos, suc, zero, List, [], ◌∷◌, Option, Some, None, slice_get, refl, arith}
use Rattle.table_laws.specs.Content.{given}
use Rattle.table_laws.specs.Meaning.{Part, Kid, End, Sends, Joins, begun, Meaning, SlotFits, FitsMeaning, Runs, Gives, IsSerial}
use Rattle.table_laws.proofs.Lists.{some_same}

-- threads by place: the first task, its successor, its kid
abbrev pub thread_at : List ℕ → Option ℕ
thread_at [] = Some 0
thread_at (zero ∷ []) = Some 1
thread_at (suc zero ∷ []) = Some 2
thread_at (suc (suc i) ∷ []) = None
thread_at (i ∷ j ∷ place) = None

abbrev pub slot_at : List ℕ → ℕ → Option (Option ℤ)
slot_at [] j = None
slot_at (zero ∷ []) zero = Some (Some (pos 7))
slot_at (zero ∷ []) (suc j) = None
slot_at (suc i ∷ []) j = None
slot_at (i ∷ k ∷ place) j = None

abbrev pub value_at : List ℕ → Option ℤ
value_at [] = Some (pos 7)
value_at (zero ∷ []) = Some (pos 7)
value_at (suc zero ∷ []) = Some (pos 7)
value_at (suc (suc i) ∷ []) = None
value_at (i ∷ j ∷ place) = None

-- the successor has one slot, which a kid of thread 2 without numbers fills
abbrev pub parts_of : List Part
parts_of = Kid 1 2 [] ∷ []

-- a thread that sends its first number
abbrev send_first : List ℤ → Option End
send_first [] = None
send_first (v ∷ numbers) = Some (Sends v)

abbrev pub end_of : ℕ → List ℤ → Option End
end_of zero numbers = Some (Joins 1 parts_of)
end_of (suc zero) numbers = send_first numbers
end_of (suc (suc zero)) numbers = Some (Sends (pos 7))
end_of (suc (suc (suc t))) numbers = None

-- the number that is sent
abbrev number_sent : Option End → Option ℤ
number_sent None = None
number_sent (Some (Sends v)) = Some v
number_sent (Some (Joins u parts)) = Some (pos 7)

abbrev pub gives_of : List ℕ → ℕ → List ℤ → Option ℤ
gives_of place t numbers = number_sent (end_of t numbers)

abbrev pub sample_job : Meaning
sample_job = record { thread = thread_at; slot = slot_at; value = value_at; ends = end_of; gives = gives_of }

-- what the successor gives is what it got
gives_it : (numbers : List ℤ) (v : ℤ) → SlotFits (Some (Some (pos 7))) (given numbers 0)
    → number_sent (send_first numbers) ≡ Some v → Some (pos 7) ≡ Some v
gives_it [] v fits e = absurd fits
gives_it (w ∷ numbers) v fits e = let is : w ≡ v = some_same e in rw (← is) fits

-- it doesn't join
joins_not : (numbers : List ℤ) (u : ℕ) (parts : List Part) → send_first numbers ≡ Some (Joins u parts) → ⊥
joins_not [] u parts e = cc
joins_not (v ∷ numbers) u parts e = cc

-- at each of its places the value is what the thread gives
given_value : (place : List ℕ) (t : ℕ) (numbers : List ℤ) (v : ℤ) → Gives sample_job place t numbers v
    → value_at place ≡ Some v
given_value [] t numbers v from = let is : 0 ≡ t =
    some_same from.fits.thread in let gives : number_sent (end_of 0 numbers) ≡ Some v = rw (← is) at from.gives in gives
given_value (zero ∷ []) t numbers v from = let is : 1 ≡ t =
    some_same from.fits.thread in gives_it numbers v (from.fits.slots 0) (rw (← is) at from.gives)
given_value (suc zero ∷ []) t numbers v from = let is : 2 ≡ t =
    some_same from.fits.thread in let gives : number_sent (end_of 2 numbers) ≡ Some v = rw (← is) at from.gives in gives
given_value (suc (suc i) ∷ []) t numbers v from = let none : None ≡ Some t = from.fits.thread in cc
given_value (i ∷ j ∷ place) t numbers v from = let none : None ≡ Some t = from.fits.thread in cc

-- only the first task joins
record First (place : List ℕ) (u : ℕ) (parts : List Part) : Type 0 where
  root : place ≡ []
  thread : u ≡ 1
  parts_are : parts ≡ parts_of

only_first : (place : List ℕ) (t u : ℕ) (numbers : List ℤ) (parts : List Part)
    → Runs sample_job place t numbers (Joins u parts) → First place u parts
only_first [] t u numbers parts run = let is : 0 ≡ t =
    some_same run.fits.thread in let ends : Some (Joins 1 parts_of) ≡ Some (Joins u parts) =
    rw (← is) at run.ends in record { root = refl; thread = cc; parts_are = cc }
only_first (zero ∷ []) t u numbers parts run = let is : 1 ≡ t =
    some_same run.fits.thread in absurd (joins_not numbers u parts (rw (← is) at run.ends))
only_first (suc zero ∷ []) t u numbers parts run = let is : 2 ≡ t =
    some_same run.fits.thread in let ends : end_of 2 numbers ≡ Some (Joins u parts) = rw (← is) at run.ends in cc
only_first (suc (suc i) ∷ []) t u numbers parts run = let none : None ≡ Some t = run.fits.thread in cc
only_first (i ∷ j ∷ place) t u numbers parts run = let none : None ≡ Some t = run.fits.thread in cc

-- the successor
fits_next : FitsMeaning sample_job (0 ∷ []) 1 (λ j. begun parts_of j)
fits_next = record { thread = refl; slots = slots }
  where
    slots : (j : ℕ) → SlotFits (slot_at (0 ∷ []) j) (begun parts_of j)
    slots zero = tt
    slots (suc j) = tt

-- the kid
record TheKid (j hole x : ℕ) (own : List ℤ) : Type 0 where
  slot : j ≡ 0
  hole_is : hole ≡ 1
  thread : x ≡ 2
  numbers : own ≡ []

only_kid : (j hole x : ℕ) (own : List ℤ) → slice_get parts_of j ≡ Some (Kid hole x own) → TheKid j hole x own
only_kid zero hole x own e = record { slot = refl; hole_is = cc; thread = cc; numbers = cc }
only_kid (suc j) hole x own e = cc

fits_kid : FitsMeaning sample_job (1 ∷ []) 2 (λ l. given [] l)
fits_kid = record { thread = refl; slots = λ j. tt }

never : (place : List ℕ) (j : ℕ) → slot_at place j ≡ Some None → ⊥
never [] j e = cc
never (zero ∷ []) zero e = cc
never (zero ∷ []) (suc j) e = cc
never (suc i ∷ []) j e = cc
never (i ∷ k ∷ place) j e = cc

pub sample_serial : IsSerial sample_job
sample_serial = record {
  gives = given_value;
  joined = λ place t u numbers parts run room. let first = only_first place t u numbers parts run in rw first.root refl;
  deep = λ place t u numbers parts run deep. let first = only_first place t u numbers parts run in let root =
      first.root in absurd (grind (arith, deep, root));
  successor = λ place t u numbers parts run room. let first =
      only_first place t u numbers parts run in rw (first.root, first.thread, first.parts_are) fits_next;
  kid = λ place t u numbers parts j hole x own run room e. let first =
      only_first place t u numbers parts run in let kid = only_kid j hole x own (rw first.parts_are at e) in
      rw (first.root, kid.hole_is, kid.thread, kid.numbers) fits_kid;
  kid_value = λ place t u numbers parts j hole x own run room e. let first =
      only_first place t u numbers parts run in let kid = only_kid j hole x own (rw first.parts_are at e) in
      rw (first.root, kid.slot, kid.hole_is) refl;
  lacking = λ place j e. absurd (never place j e);
}
