-- How values stand in bytes. A format gives a kind of value four meanings: which bytes spell a
-- value, how it is read from the front of bytes, what is written for it, and whether it can be
-- written. Formats are put together by the words below.
use Rattle.std.specs.Prelude.{◌≡◌, ◌++◌, ◌<◌, ◌^◌, ◌&&◌, ℕ, zero, suc, Bool, true, false, nat_eq, nat_lt, nat_le, if◌then◌else◌, IsTrue, List, [], ◌∷◌, length, drop, take, get_or, Option, Some, None, Result, Ok, Err}
use Rattle.std.specs.List.{list_all}
use Rattle.byteorder.specs.Endian.{big_bytes, big_number}
use Rattle.packet_fields.specs.declared.fault.Fault.{Fault}
use Rattle.packet_fields.specs.declared.fault.Fault.TheVariants.{Short, Field}
use Rattle.packet_fields.specs.declared.fault.ReadError.{ReadError}
use Rattle.packet_fields.specs.declared.fault.ReadError.TheVariants as errors

pub record Format (X : Type 0) : Type 1 where
  -- from these bytes up to those, the value is spelled
  pub Spelled : List ℕ → List ℕ → X → Type 0
  -- reading from the front: the value and what is left, or the first fault
  pub read : List ℕ → Result (X × List ℕ) Fault
  -- the bytes that are written
  pub write : X → List ℕ
  -- whether it can be written
  pub fits : X → Bool

-- a list of bytes
abbrev pub IsBytes : List ℕ → Type 0
IsBytes bytes = (i : ℕ) → get_or bytes i 0 < 256

infixl 10 ◌>>=◌
abbrev pub ◌>>=◌ : {A B : Type 0} → Result A Fault → (A → Result B Fault) → Result B Fault
(Ok x) >>= f = f x
(Err e) >>= f = Err e

-- what an error says of a reading: being out of memory says nothing
abbrev pub Fails : {Y : Type 0} → ReadError → Result Y Fault → Type 0
Fails errors.Memory reading = Unit {0}
Fails (errors.Fault f) reading = reading ≡ Err f

-- what was returned, seen by a view, is what reading gives, unless memory ran out
abbrev pub Gives : {X Y : Type 0} → (X → Y) → Result X ReadError → Result Y Fault → Type 0
Gives view (Ok x) reading = reading ≡ Ok (view x)
Gives view (Err e) reading = Fails e reading

-- what was returned, seen by a view, is what reading gives
abbrev pub Reads : {X Y : Type 0} → (X → Y) → Result X Fault → Result Y Fault → Type 0
Reads view (Ok x) reading = reading ≡ Ok (view x)
Reads view (Err f) reading = reading ≡ Err f

-- a reading of whose value a part is kept
abbrev pub keeping : {K X : Type 0} → (X → K) → Result (X × List ℕ) Fault → Result (K × List ℕ) Fault
keeping part (Ok x) = Ok (part x.0, x.1)
keeping part (Err f) = Err f

-- a reading of which only the end is kept: the bytes that are left
abbrev pub end_of : {X : Type 0} → Result (X × List ℕ) Fault → Result (List ℕ) Fault
end_of (Ok x) = Ok x.1
end_of (Err f) = Err f

-- a number of n bytes, the highest first
abbrev pub number : ℕ → Format ℕ
number n = record {
  Spelled = λ from to x. (x < 256 ^ n) × (from ≡ big_bytes n x ++ to);
  read = λ from. if nat_lt (length from) n then Err Short else Ok (big_number n from, drop n from);
  write = λ x. big_bytes n x;
  fits = λ x. nat_lt x (256 ^ n);
}

-- whether a number is a byte
abbrev pub is_byte : ℕ → Bool
is_byte b = nat_lt b 256

-- so many bytes, as they are
abbrev pub raw : ℕ → Format (List ℕ)
raw n = record {
  Spelled = λ from to x. (length x ≡ n) × IsBytes x × (from ≡ x ++ to);
  read = λ from. if nat_lt (length from) n then Err Short else Ok (take n from, drop n from);
  write = λ x. x;
  fits = λ x. nat_eq (length x) n && list_all is_byte x;
}

-- a field that meets a test; else it is a fault, as soon as the field was read
abbrev pub tested : {X : Type 0} → Fault → Format X → (X → Bool) → Format X
tested fault F test = record {
  Spelled = λ from to x. F.Spelled from to x × IsTrue (test x);
  read = λ from. F.read from >>= λ x. if test x.0 then Ok x else Err fault;
  write = F.write;
  fits = λ x. F.fits x && test x;
}

abbrev pub checked : {X : Type 0} → Format X → (X → Bool) → Format X
checked F test = tested Field F test

-- a field, and then another, which may depend on the first
abbrev pub followed : {X Y : Type 0} → Format X → (X → Format Y) → Format (X × Y)
followed F G = record {
  Spelled = λ from to p. (middle : List ℕ) × F.Spelled from middle p.0 × (G p.0).Spelled middle to p.1;
  read = λ from. F.read from >>= λ x. (G x.0).read x.1 >>= λ y. Ok ((x.0, y.0), y.1);
  write = λ p. F.write p.0 ++ (G p.0).write p.1;
  fits = λ p. F.fits p.0 && (G p.0).fits p.1;
}

-- the same under another name: make puts the parts together
abbrev pub made : {X Y : Type 0} → Format X → (X → Y) → (Y → X) → Format Y
made F make parts = record {
  Spelled = λ from to y. F.Spelled from to (parts y);
  read = λ from. F.read from >>= λ x. Ok (make x.0, x.1);
  write = λ y. F.write (parts y);
  fits = λ y. F.fits (parts y);
}

-- the value of a part, where the part is there
abbrev pub of_part : {X Z : Type 0} → Z → (X → Z) → Option X → Z
of_part z f None = z
of_part z f (Some x) = f x

-- one variant of a type that has several; part finds its part again
abbrev pub variant : {X Y : Type 0} → Format X → (X → Y) → (Y → Option X) → Format Y
variant {X = X} F make part = record {
  Spelled = λ from to y. (x : X) × F.Spelled from to x × (make x ≡ y);
  read = λ from. F.read from >>= λ x. Ok (make x.0, x.1);
  write = λ y. of_part [] F.write (part y);
  fits = λ y. of_part false F.fits (part y);
}

-- bytes that are always the same
abbrev pub constant : Fault → ℕ → ℕ → Format (Unit {0})
constant fault n v = made (tested fault (number n) (λ x. nat_eq x v)) (λ x. tt) (λ u. v)

-- no bytes at all, for one value, which the test tells from others
abbrev pub nothing : {Y : Type 0} → Y → (Y → Bool) → Format Y
nothing y test = record {
  Spelled = λ from to x. (from ≡ to) × (x ≡ y);
  read = λ from. Ok (y, from);
  write = λ x. [];
  fits = test;
}

-- no value has such bytes
abbrev pub never : {Y : Type 0} → Fault → Format Y
never fault = record {
  Spelled = λ from to x. ⊥;
  read = λ from. Err fault;
  write = λ x. [];
  fits = λ x. false;
}

-- a tag, and then the arm of that tag
abbrev pub tagged_arm : {T Y : Type 0} → Format T → (T → Format Y) → (Y → T) → Format Y
tagged_arm F arm tag = record {
  Spelled = λ from to y. (middle : List ℕ) × F.Spelled from middle (tag y) × (arm (tag y)).Spelled middle to y;
  read = λ from. F.read from >>= λ t. (arm t.0).read t.1;
  write = λ y. F.write (tag y) ++ (arm (tag y)).write y;
  fits = λ y. F.fits (tag y) && (arm (tag y)).fits y;
}

-- an item and those after it
abbrev SpelledCons : {X : Type 0} → Format X → (X → Format (List X)) → List ℕ → List ℕ → List X → Type 0
SpelledCons F G from to [] = ⊥
SpelledCons F G from to (x ∷ xs) = (middle : List ℕ) × F.Spelled from middle x × (G x).Spelled middle to xs

abbrev write_cons : {X : Type 0} → Format X → (X → Format (List X)) → List X → List ℕ
write_cons F G [] = []
write_cons F G (x ∷ xs) = F.write x ++ (G x).write xs

abbrev fits_cons : {X : Type 0} → Format X → (X → Format (List X)) → List X → Bool
fits_cons F G [] = false
fits_cons F G (x ∷ xs) = F.fits x && (G x).fits xs

abbrev pub cons : {X : Type 0} → Format X → (X → Format (List X)) → Format (List X)
cons F G = record {
  Spelled = SpelledCons F G;
  read = λ from. F.read from >>= λ x. (G x.0).read x.1 >>= λ xs. Ok (x.0 ∷ xs.0, xs.1);
  write = write_cons F G;
  fits = fits_cons F G;
}

abbrev pub is_empty : {X : Type 0} → List X → Bool
is_empty [] = true
is_empty (x ∷ xs) = false

-- so many items, each of a format that may depend on the key of the item before
abbrev pub items : {K X : Type 0} → (X → K) → (Option K → Format X) → Option K → ℕ → Format (List X)
items key F last zero = nothing [] is_empty
items key F last (suc n) = cons (F last) (λ x. items key F (Some (key x)) n)

-- so many items of one format
abbrev pub plain : {X : Type 0} → Format X → ℕ → Format (List X)
plain F zero = nothing [] is_empty
plain F (suc n) = cons F (λ x. plain F n)

-- a list behind its count, which is a number of n bytes that a test allows
abbrev pub listed : {X : Type 0} → ℕ → (ℕ → Bool) → (ℕ → Format (List X)) → Format (List X)
listed n allowed F = made (followed (checked (number n) allowed) F) (λ p. p.1) (λ xs. (length xs, xs))

-- a test's "at most"
abbrev pub at_most : ℕ → ℕ → Bool
at_most most count = nat_le count most

-- a value has one spelling, and a spelling one value
pub record OneSpelling {X : Type 0} (F : Format X) : Type 0 where
  -- bytes in front of the same rest that spell the same value are the same
  pub spelling : (a b to : List ℕ) (x : X) → F.Spelled a to x → F.Spelled b to x → a ≡ b
  -- bytes spell at most one value, and end at one place
  pub value : (from a b : List ℕ) (x y : X) → F.Spelled from a x → F.Spelled from b y → (x ≡ y) × (a ≡ b)
  -- what can be written, and nothing else, is spelled
  pub fit : (from to : List ℕ) (x : X) → F.Spelled from to x → F.fits x ≡ true
  pub written : (x : X) (to : List ℕ) → F.fits x ≡ true → F.Spelled (F.write x ++ to) to x
  -- what is spelled is read
  pub read : (from to : List ℕ) (x : X) → F.Spelled from to x → F.read from ≡ Ok (x, to)
  -- what is read of bytes is spelled so
  pub found : (from to : List ℕ) (x : X) → IsBytes from → F.read from ≡ Ok (x, to) → F.Spelled from to x
