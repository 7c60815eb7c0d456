-- What is written for lists: the items, one after the other, behind their count.
use Rattle.std.proofs.Common.{◌≡◌, ◌++◌, ℕ, List, [], ◌∷◌, length, reverse, Option, Some, None, refl, sym, ap, ◌∙◌, append_assoc, arith, ◌<◌, ◌%◌}
use Rattle.std.specs.List.{All, flat_map}
use Rattle.std.specs.Prelude.{ℤ}
use Rattle.std.proofs.lemmas.List.Concat.{flat_map-cons}
use Rattle.std.proofs.lemmas.List.Elements.{All-head, All-tail}
use Rattle.byteorder.specs.Endian.{big_bytes}
use Rattle.ids.specs.Names.{Grant}
use Rattle.ids.specs.Place.{IsPlace}
use Rattle.ids.proofs.Places.{All-reverse}
use Rattle.ids.specs.declared.outcome.Outcome.{Outcome}
use Rattle.ids.specs.declared.outcome.Outcome.TheVariants.{Value, TooDeep}
use Rattle.ids.specs.declared.returns.Return.{Return}
use Rattle.ids.specs.declared.returns.Return.TheVariants.{Whole, Local}
use Rattle.ids.specs.declared.work.Frame.{Frame}
use Rattle.ids.specs.declared.member.Member.{Member}
use Rattle.ids.specs.declared.outcome.Progress.{Progress}
use Rattle.ids.specs.declared.outcome.Progress.TheVariants.{Finished}
use Rattle.ids.specs.declared.work.Record.{Record}
use Rattle.packet_fields.specs.Format.{Format, items, plain}
use Rattle.packet_fields.specs.Fields.{frame, frames, goes_to, grant_of_record, member, members, name_of_member, number_of_frame, numbers, outcome, place, progress, records, signed, slot, slots, step, steps, stolen}

pub plain_write : {X : Type 0} (F : Format X) (xs : List X) → (plain F (length xs)).write xs ≡ flat_map F.write xs
plain_write F [] = refl
plain_write F (x ∷ xs) = ap (λ (r : List ℕ). F.write x ++ r) (plain_write F xs) ∙ sym (flat_map-cons F.write x xs)

-- what is written for an item doesn't depend on the item before
pub items_write : {K X : Type 0} (key : X → K) (F : Option K → Format X) (w : X → List ℕ) (last : Option K)
    → ((before : Option K) (x : X) → (F before).write x ≡ w x)
    → (xs : List X) → (items key F last (length xs)).write xs ≡ flat_map w xs
items_write key F w last same [] = refl
items_write key F w last same (x ∷ xs) =
    let here : (F last).write x ++ flat_map w xs ≡ w x ++ flat_map w xs =
    ap (λ (r : List ℕ). r ++ flat_map w xs) (same last x) in
    ap (λ (r : List ℕ). (F last).write x ++ r) (items_write key F w (Some (key x)) same xs) ∙ here
    ∙ sym (flat_map-cons w x xs)

pub numbers_write : (xs : List ℤ) → numbers.write xs ≡ big_bytes 1 (length xs) ++ flat_map signed.write xs
unfolding numbers
numbers_write xs = ap (λ (r : List ℕ). big_bytes 1 (length xs) ++ r) (plain_write signed xs)

pub slots_write : (xs : List (Option ℤ)) → slots.write xs ≡ big_bytes 1 (length xs) ++ flat_map slot.write xs
unfolding slots
slots_write xs = ap (λ (r : List ℕ). big_bytes 1 (length xs) ++ r) (plain_write slot xs)

member_write : (last : Option ℕ) (m : Member) → (member last).write m ≡ (member None).write m
unfolding member
member_write last m = refl

pub members_write : (xs : List Member) → members.write xs ≡ big_bytes 2 (length xs) ++ flat_map (member None).write xs
unfolding members
members_write xs = ap (λ (r : List ℕ). big_bytes 2 (length xs) ++ r)
    (items_write name_of_member member (member None).write None member_write xs)

goes_to_write : (next : ℕ) (r : Return) → (goes_to next).write r ≡ (goes_to 0).write r
unfolding goes_to
goes_to_write next Whole = refl
goes_to_write next (Local f s) = refl

frame_write : (next : ℕ) (last : Option ℕ) (f : Frame) → (frame next last).write f ≡ (frame 0 None).write f
unfolding frame
frame_write next last f = rw (goes_to_write next f.returns) refl

pub frames_write : (so_far : Progress) (next : ℕ) (xs : List Frame)
    → (frames so_far next).write xs ≡ big_bytes 4 (length xs) ++ flat_map (frame 0 None).write xs
unfolding frames
frames_write so_far next xs =
    ap (λ (r : List ℕ). big_bytes 4 (length xs) ++ r)
    (items_write number_of_frame (frame next) (frame 0 None).write None (frame_write next) xs)

stolen_write : (next : ℕ) (last : Option Grant) (x : Record) → (stolen next last).write x ≡ (stolen 0 None).write x
unfolding stolen
stolen_write next last x = rw (goes_to_write next x.returns) refl

pub records_write : (so_far : Progress) (next : ℕ) (xs : List Record)
    → (records so_far next).write xs ≡ big_bytes 4 (length xs) ++ flat_map (stolen 0 None).write xs
unfolding records
records_write so_far next xs =
    ap (λ (r : List ℕ). big_bytes 4 (length xs) ++ r)
    (items_write grant_of_record (stolen next) (stolen 0 None).write None (stolen_write next) xs)

-- a step is one byte
bytes_of_steps : (xs : List ℕ) → All (λ s. s < 9) xs → flat_map step.write xs ≡ xs
unfolding step
bytes_of_steps [] small = refl
bytes_of_steps (x ∷ xs) small =
    let first : x < 9 = All-head (λ s. s < 9) x xs small in
    let here : x % 256 ≡ x = omega arith in
    rw (flat_map-cons step.write x xs, bytes_of_steps xs (All-tail (λ s. s < 9) x xs small), here) refl

pub place_write : (p : List ℕ) → IsPlace p → place.write p ≡ big_bytes 2 (length (reverse p)) ++ reverse p
unfolding place steps
place_write p is_place =
    ap (λ (r : List ℕ). big_bytes 2 (length (reverse p)) ++ r) (plain_write step (reverse p)
    ∙ bytes_of_steps (reverse p) (All-reverse (λ s. s < 9) p is_place.steps))

pub progress_write : (o : Outcome) → progress.write (Finished o) ≡ outcome.write o
unfolding progress outcome
progress_write (Value v) = refl
progress_write TooDeep = refl

-- two parts, one behind the other
pub two_parts : (old first second a b : List ℕ) → first ≡ old ++ a → second ≡ first ++ b → second ≡ old ++ (a ++ b)
two_parts old first second a b e f = f ∙ ap (λ (r : List ℕ). r ++ b) e ∙ append_assoc old a b

pub three_parts : (old p q r a b c : List ℕ) → p ≡ old ++ a → q ≡ p ++ b → r ≡ q ++ c → r ≡ old ++ (a ++ (b ++ c))
three_parts old p q r a b c e f g = two_parts old p r a (b ++ c) e (two_parts p q r b c f g)

pub five_parts : (old p q r s t a b c d e : List ℕ) → p ≡ old ++ a → q ≡ p ++ b → r ≡ q ++ c → s ≡ r ++ d → t ≡ s ++ e
    → t ≡ old ++ (a ++ (b ++ (c ++ (d ++ e))))
five_parts old p q r s t a b c d e first second third fourth fifth =
    three_parts old p q t a b (c ++ (d ++ e)) first second (three_parts q r s t c d e third fourth fifth)
