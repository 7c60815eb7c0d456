-- Members by rising incarnation, at most 4,096, none of which is its own heir, are those of a
-- roster.
use Rattle.std.proofs.Common.{◌≡◌, ◌<◌, ◌≤◌, ◌^◌, ℕ, Bool, true, false, cond, eqb, nat_lt, List, [], ◌∷◌, length, map, Option, Some, None, Less, Equal, Greater, refl, arith}
use Rattle.std.specs.Prelude.{IsTrue}
use Rattle.std.specs.List.{AllByRecursion, list_all}
use Rattle.std.specs.Ordering.{ordering_then}
use Rattle.std.proofs.lemmas.Bool.{and_parts, le-leb, lt-ltb}
use Rattle.std.proofs.lemmas.Map.Keys.{sorted_head, sorted_tail}
use Rattle.ids.specs.Named.{name_cmp}
use Rattle.ids.specs.Naming.{name_of_member}
use Rattle.ids.specs.Ordered.{AreInOrder}
use Rattle.ids.specs.declared.member.Member.{Member}
use Rattle.ids.specs.declared.member.Status.{Status}
use Rattle.ids.specs.declared.member.Status.TheVariants.{Live, Dead, Left}
use Rattle.packet_fields.specs.Format.{items, of_part}
use Rattle.packet_fields.specs.Fields as field
use Rattle.codec.specs.Rosters.{has_another, names_workers}

-- none is its own heir
abbrev HasAnother : Member → Type 0
HasAnother m = IsTrue (has_another m.incarnation m.status)

status_fits : (own : ℕ) (s : Status) → of_part true field.worker.fits (field.heir_in s) ≡ true
    → IsTrue (has_another own s) → (field.status own).fits s ≡ true
unfolding field.status
status_fits own Live range another = refl
status_fits own Dead range another = refl
status_fits own (Left heir) range another = rw range another

member_fits : (last : Option ℕ) (m : Member) → field.is_above last m.incarnation ≡ true → names_workers m ≡ true
    → HasAnother m → (field.member last).fits m ≡ true
unfolding field.member
member_fits last m above range another =
    let h = and_parts (field.worker.fits m.incarnation)
    (of_part true field.worker.fits (field.heir_in m.status)) range in
    rw (h.0, above, status_fits m.incarnation m.status h.1 another) refl

-- a name that stands before another has the smaller number
by_tests : (less same : Bool) → ordering_then (cond less Less (cond same Equal Greater)) Equal ≡ Less → less ≡ true
by_tests true same h = refl
by_tests false true h = cc
by_tests false false h = cc

is_less : (a b : ℕ) → name_cmp (a, 0) (b, 0) ≡ Less → nat_lt a b ≡ true
is_less a b h = by_tests (nat_lt a b) (eqb a b) h

-- whether the first member, if there is one, is above the last one before it
abbrev starts_above : Option ℕ → List Member → Bool
starts_above last [] = true
starts_above last (m ∷ ms) = field.is_above last m.incarnation

goes_on : (m : Member) (ms : List Member) → AreInOrder name_of_member (m ∷ ms)
    → starts_above (Some m.incarnation) ms ≡ true
goes_on m [] rising = refl
goes_on m (n ∷ ms) rising = is_less m.incarnation n.incarnation
    (sorted_head name_cmp (name_of_member m) (map name_of_member (n ∷ ms)) rising).0

each_fits : (last : Option ℕ) (ms : List Member) → starts_above last ms ≡ true → list_all names_workers ms ≡ true
    → AreInOrder name_of_member ms → AllByRecursion HasAnother ms
    → (items field.name_of_member field.member last (length ms)).fits ms ≡ true
each_fits last [] above range rising heirs = refl
each_fits last (m ∷ ms) above range rising heirs =
    let h = and_parts (names_workers m) (list_all names_workers ms) range in
    rw (member_fits last m above h.0 heirs.0)
    (each_fits (Some m.incarnation) ms (goes_on m ms rising) h.1
    (sorted_tail name_cmp (name_of_member m) (map name_of_member ms) rising) heirs.1)

-- the members can be written, as far as their words are those of workers
pub members_fit : (ms : List Member) → list_all names_workers ms ≡ true → length ms ≤ 4096
    → AreInOrder name_of_member ms → AllByRecursion HasAnother ms → field.members.fits ms ≡ true
unfolding field.members
members_fit ms range few rising heirs =
    let wide : length ms < 256 ^ 2 = omega arith in
    rw (lt-ltb (length ms) (256 ^ 2) wide, le-leb (length ms) 4096 few)
    (each_fits None ms (starts ms) range rising heirs)
  where
    starts : (ms : List Member) → starts_above None ms ≡ true
    starts [] = refl
    starts (m ∷ ms) = refl
