-- Steps that are read all at once, as they lie in the bytes.
use Rattle.std.proofs.Common.{◌≡◌, ℕ, zero, suc, ◌<◌, ◌≤◌, Bool, true, false, ◌&&◌, cond, nat_lt, List, [], ◌∷◌, length, take, drop, Ok, Err, refl, arith}
use Rattle.std.specs.List.{list_all}
use Rattle.std.proofs.lemmas.Bool.{and_parts, le-ltb}
use Rattle.byteorder.specs.Endian.{big_number}
use Rattle.packet_fields.specs.declared.fault.Fault.TheVariants.{Short, Field}
use Rattle.packet_fields.specs.Format.{◌>>=◌, plain}
use Rattle.packet_fields.specs.Fields.{step}

abbrev pub all_steps : List ℕ → Bool
all_steps bytes = list_all (λ s. nat_lt s 9) bytes

-- one step in front
step_front : (b : ℕ) (bs : List ℕ) → step.read (b ∷ bs) ≡ cond (nat_lt b 9) (Ok (b, bs)) (Err Field)
unfolding step
step_front b bs =
    let some : nat_lt (length (b ∷ bs)) 1 ≡ false = le-ltb (length (b ∷ bs)) 1 (omega arith) in
    let here : big_number 1 (b ∷ bs) ≡ b = omega arith in
    rw (some, here) refl

-- where the bytes in front are steps, so many are read where they are there
pub read_at_once : (n : ℕ) (from : List ℕ) → all_steps (take n from) ≡ true → n ≤ length from
    → (plain step n).read from ≡ Ok (take n from, drop n from)
read_at_once zero from all there = refl
read_at_once (suc n) [] all there = absurd (omega arith)
read_at_once (suc n) (b ∷ bs) all there =
    let parts = and_parts (nat_lt b 9) (all_steps (take n bs)) all in
    rw (step_front b bs, parts.0, read_at_once n bs parts.1 (omega arith)) refl

-- and where they aren't, the bytes are too short
pub short_at_once : (n : ℕ) (from : List ℕ) → all_steps (take n from) ≡ true → length from < n
    → (plain step n).read from ≡ Err Short
unfolding step
short_at_once zero from all short = absurd (omega arith)
short_at_once (suc n) [] all short = refl
short_at_once (suc n) (b ∷ bs) all short =
    let parts = and_parts (nat_lt b 9) (all_steps (take n bs)) all in
    rw (step_front b bs, parts.0, short_at_once n bs parts.1 (omega arith)) refl

-- where one of them is no step, that is the fault
field_behind : (v rest : Bool) (n b : ℕ) (bs : List ℕ) → (v && rest) ≡ false
    → (rest ≡ false → (plain step n).read bs ≡ Err Field)
    → ◌>>=◌ {A = ℕ × List ℕ} {B = List ℕ × List ℕ} (cond v (Ok (b, bs)) (Err Field))
    (λ x. ◌>>=◌ {A = List ℕ × List ℕ} {B = List ℕ × List ℕ} ((plain step n).read x.1) (λ xs. Ok (x.0 ∷ xs.0, xs.1)))
    ≡ Err Field
field_behind true rest n b bs some each = rw (each some) refl
field_behind false rest n b bs some each = refl

pub field_at_once : (n : ℕ) (from : List ℕ) → all_steps (take n from) ≡ false → (plain step n).read from ≡ Err Field
field_at_once zero from some = absurd cc
field_at_once (suc n) [] some = absurd cc
field_at_once (suc n) (b ∷ bs) some =
    rw (step_front b bs) (field_behind (nat_lt b 9) (all_steps (take n bs)) n b bs some (field_at_once n bs))
