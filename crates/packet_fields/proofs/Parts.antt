-- A part of an offer can be written where it has as many bytes as it may have.
use Rattle.std.proofs.Common.{◌≡◌, ℕ, ◌+◌, ◌^◌, ◌<◌, ◌≤◌, Bool, true, false, cond, eqb, leb, ltb, List, length, refl, arith}
use Rattle.std.specs.Prelude.{◌&&◌}
use Rattle.std.specs.List.{list_all}
use Rattle.std.proofs.lemmas.Bool.{and_parts, eq-eqb, eqb-true, leb-true, lt-ltb}
use Rattle.packet_fields.specs.Format.{IsBytes, is_byte}
use Rattle.packet_fields.specs.Fields.{allows_part, part, part_bytes}
use Rattle.packet_fields.proofs.FormatLaws.{all_bytes}

few : (pieces number count : ℕ) → allows_part pieces number count ≡ true → count ≤ 65536
few pieces number count e = by_last (eqb (number + 1) pieces) e
  where
    by_last : (b : Bool) → cond b (ltb 0 count && leb count part_bytes) (eqb count part_bytes) ≡ true → count ≤ 65536
    by_last true f = leb-true count part_bytes (and_parts (ltb 0 count) (leb count part_bytes) f).1
    by_last false f = omega (arith, eqb-true count part_bytes f)

pub part_fits : (pieces number : ℕ) (x : List ℕ) → IsBytes x
    → allows_part pieces number (length x) ≡ (part pieces number).fits x
unfolding part
part_fits pieces number x bytes = by_count (allows_part pieces number (length x)) refl
  where
    by_count : (b : Bool) → allows_part pieces number (length x) ≡ b
        → b ≡ ((ltb (length x) (256 ^ 4) && b) && (eqb (length x) (length x) && list_all is_byte x))
    by_count true e = rw (
      lt-ltb (length x) (256 ^ 4) (omega (arith, few pieces number (length x) e)),
      eq-eqb (length x) (length x) refl,
      all_bytes x bytes,
    ) refl
    by_count false e = by_room (ltb (length x) (256 ^ 4))
      where
        by_room : (r : Bool) → false ≡ ((r && false) && (eqb (length x) (length x) && list_all is_byte x))
        by_room true = refl
        by_room false = refl
