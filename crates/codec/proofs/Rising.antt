-- The members of a roster that can be written stand by rising incarnation.
use Rattle.std.proofs.Common.{◌≡◌, ℕ, zero, suc, ◌≤◌, ◌<◌, ◌^◌, ◌&&◌, true, nat_lt, List, [], ◌∷◌, length, map, Option, Some, None, IsTrue, Less, refl, arith}
use Rattle.std.specs.List.{AllByRecursion}
use Rattle.std.specs.List.Sorted.{IsStrictlySortedBy}
use Rattle.std.proofs.lemmas.Bool.{and_parts, lt-ltb, ltb-true}
use Rattle.ids.specs.Named.{name_cmp}
use Rattle.ids.specs.Naming.{name_of_member}
use Rattle.ids.specs.Ordered.{AreInOrder}
use Rattle.ids.specs.declared.member.Member.{Member}
use Rattle.packet_fields.specs.Format.{items, at_most}
use Rattle.packet_fields.specs.Fields as field
use Rattle.codec.specs.declared.body.Body.TheVariants as body
use Rattle.codec.specs.declared.body.Roster.{Roster}
use Rattle.codec.specs.Table.{fits_body, roster}

-- the smaller number's name stands first
is_before : (a b : ℕ) → a < b → name_cmp (a, 0) (b, 0) ≡ Less
is_before a b less = rw (lt-ltb a b less) refl

-- a member that fits behind another one is above it
is_above : (last : ℕ) (m : Member) → (field.member (Some last)).fits m ≡ true → last < m.incarnation
unfolding field.member
is_above last m fits =
    let h = and_parts (field.worker.fits m.incarnation && nat_lt last m.incarnation)
    ((field.status m.incarnation).fits m.status) fits in
    ltb-true last m.incarnation (and_parts (field.worker.fits m.incarnation) (nat_lt last m.incarnation) h.0).1

all_above : (least last count : ℕ) (ms : List Member) → least ≤ last
    → (items field.name_of_member field.member (Some last) count).fits ms ≡ true
    → AllByRecursion (λ n. name_cmp (least, 0) n ≡ Less) (map name_of_member ms)
all_above least last zero [] low fits = tt
all_above least last zero (m ∷ ms) low fits = cc
all_above least last (suc count) [] low fits = tt
all_above least last (suc count) (m ∷ ms) low fits =
    let h = and_parts ((field.member (Some last)).fits m)
    ((items field.name_of_member field.member (Some m.incarnation) count).fits ms) fits in
    let above = is_above last m h.0 in (
      is_before least m.incarnation (omega (arith, above, low)),
      all_above least m.incarnation count ms (omega (arith, above, low)) h.1,
    )

members_rise : (last : Option ℕ) (count : ℕ) (ms : List Member)
    → (items field.name_of_member field.member last count).fits ms ≡ true → AreInOrder name_of_member ms
unfolding IsStrictlySortedBy
members_rise last zero [] fits = tt
members_rise last zero (m ∷ ms) fits = cc
members_rise last (suc count) [] fits = tt
members_rise last (suc count) (m ∷ ms) fits =
    let h = and_parts ((field.member last).fits m)
    ((items field.name_of_member field.member (Some m.incarnation) count).fits ms) fits in
    (all_above m.incarnation m.incarnation count ms (omega arith) h.1, members_rise (Some m.incarnation) count ms h.1)

pub roster_rises : (r : Roster) → IsTrue (fits_body (body.Roster r)) → AreInOrder name_of_member r.members
unfolding roster field.members
roster_rises r fits =
    let h = and_parts (field.epoch.fits r.epoch) (field.counted.fits r.version && field.members.fits r.members) fits in
    let g = and_parts (field.counted.fits r.version) (field.members.fits r.members) h.1 in
    let few = nat_lt (length r.members) (256 ^ 2) && at_most 4096 (length r.members) in
    members_rise None (length r.members) r.members
    (and_parts few ((items field.name_of_member field.member None (length r.members)).fits r.members) g.1).1
