-- When lists can be written: each item can, and the list isn't too long.
use Rattle.std.proofs.Common.{◌≡◌, ◌<◌, ◌&&◌, ℕ, Bool, true, nat_lt, nat_le, List, [], ◌∷◌, length, reverse, Option, None, refl, ap, ◌∙◌, arith}
use Rattle.std.specs.Prelude.{ℤ}
use Rattle.std.specs.List.{list_all, All}
use Rattle.std.proofs.lemmas.Bool.{lt-ltb, le-leb}
use Rattle.std.proofs.lemmas.List.{length-reverse}
use Rattle.std.proofs.lemmas.List.Elements.{All-head, All-tail}
use Rattle.ids.specs.Place.{IsPlace}
use Rattle.ids.proofs.Places.{All-reverse}
use Rattle.ids.specs.declared.outcome.Outcome.TheVariants.{Value, TooDeep}
use Rattle.ids.specs.declared.member.Member.{Member}
use Rattle.ids.specs.declared.outcome.Progress.{Progress}
use Rattle.ids.specs.declared.outcome.Progress.TheVariants.{Active, Finished}
use Rattle.packet_fields.specs.Format.{Format, items, of_part, plain}
use Rattle.packet_fields.specs.Fields.{member, members, name_of_member, numbers, outcome, outcome_in, place, progress, signed, slot, slots, step, steps}

-- a test that a count is below a limit says nothing beside a smaller bound
pub bound_alone : (count limit most : ℕ) (others : Bool) → most < limit
    → ((nat_lt count limit && nat_le count most) && others) ≡ (nat_le count most && others)
bound_alone count limit most others wide = grind arith

pub plain_fits : {X : Type 0} (F : Format X) (xs : List X) → (plain F (length xs)).fits xs ≡ list_all F.fits xs
plain_fits F [] = refl
plain_fits F (x ∷ xs) = ap (λ (b : Bool). F.fits x && b) (plain_fits F xs)

pub numbers_fits : (xs : List ℤ) → numbers.fits xs ≡ (nat_le (length xs) 8 && list_all signed.fits xs)
unfolding numbers
numbers_fits xs = bound_alone (length xs) 256 8 ((plain signed (length xs)).fits xs) (omega arith)
    ∙ ap (λ (b : Bool). nat_le (length xs) 8 && b) (plain_fits signed xs)

pub slots_fits : (xs : List (Option ℤ)) → slots.fits xs ≡ (nat_le (length xs) 8 && list_all slot.fits xs)
unfolding slots
slots_fits xs = bound_alone (length xs) 256 8 ((plain slot (length xs)).fits xs) (omega arith)
    ∙ ap (λ (b : Bool). nat_le (length xs) 8 && b) (plain_fits slot xs)

pub members_fits : (xs : List Member)
    → members.fits xs ≡ (nat_le (length xs) 4096 && (items name_of_member member None (length xs)).fits xs)
unfolding members
members_fits xs = bound_alone (length xs) 65536 4096 ((items name_of_member member None (length xs)).fits xs)
    (omega arith)

steps_fit : (xs : List ℕ) → All (λ s. s < 9) xs → list_all step.fits xs ≡ true
unfolding step
steps_fit [] small = refl
steps_fit (x ∷ xs) small =
    let first : x < 9 = All-head (λ s. s < 9) x xs small in
    rw (lt-ltb x 256 (omega arith), lt-ltb x 9 first, steps_fit xs (All-tail (λ s. s < 9) x xs small)) refl

pub place_fits : (p : List ℕ) → IsPlace p → place.fits p ≡ true
unfolding place steps
place_fits p is_place =
    let xs = reverse p in
    bound_alone (length xs) 65536 1024 ((plain step (length xs)).fits xs) (omega arith)
    ∙ rw (
      le-leb (length xs) 1024 (omega (arith, length-reverse p, is_place.short)),
      plain_fits step xs,
      steps_fit xs (All-reverse (λ s. s < 9) p is_place.steps),
    ) refl

pub progress_fits : (p : Progress) → progress.fits p ≡ of_part true outcome.fits (outcome_in p)
unfolding progress outcome
progress_fits Active = refl
progress_fits (Finished (Value v)) = refl
progress_fits (Finished TooDeep) = refl
