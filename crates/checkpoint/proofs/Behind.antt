-- The small slots stay where what stands behind them changes, and the large ones where what stands
-- in front does.
use Rattle.std.proofs.Common.{◌≡◌, ℕ, ◌+◌, ◌<◌, ◌≤◌, Bool, true, false, List, [], ◌++◌, length, take, drop, get_or, sym, ◌∙◌, ap, subst, arith, lit≤, lit<, length-append}
use Rattle.std.proofs.lemmas.List.{take_at, drop_at, take-take, get_or-take, drop-take, drop-drop, drop_all, append-nil, length-take-le}
use Rattle.std.specs.List.{splice}
use Rattle.std.specs.Prelude.{not}
use Rattle.disk.specs.Crash.{Torn}
use Rattle.checkpoint.specs.Format.{HasMoved, IsBoth, IsOld, SpellsLarge, SpellsSmall, name}
use Rattle.checkpoint.specs.Pair.{Spelling, IsCurrent, IsOpen, body, slot}
use Rattle.checkpoint.specs.declared.record.CheckpointRecord.{CheckpointRecord}
use Rattle.checkpoint.specs.declared.record.Entry.TheVariants.{Here, Moved}

-- a record stays current where both slots stay
pub same_slots : {R : Type 0} (Spells : Spelling R) (base n : ℕ) (file c : List ℕ) (second : Bool) (sequence : ℕ)
    (r : R) → slot base n second c ≡ slot base n second file
    → slot base n (not second) c ≡ slot base n (not second) file → base + (1 + n) + (1 + n) ≤ length c
    → IsCurrent Spells base n file second sequence r → IsCurrent Spells base n c second sequence r
same_slots {R = R} Spells base n file c second sequence r here there room is = record {
  room = room;
  gate = subst (λ (l : List ℕ). IsOpen l) (sym here) is.gate;
  content = subst (λ (l : List ℕ). Spells (body l) sequence r) (sym here) is.content;
  other = subst (λ (l : List ℕ). IsOpen l
      → (m : ℕ) × (s : R) × Spells (body l) m s × (m < sequence)) (sym there) is.other;
}

small_from : (p : ℕ) (file c : List ℕ) → p + 64 ≤ 136 → take 136 c ≡ take 136 file
    → take 64 (drop p c) ≡ take 64 (drop p file)
small_from p file c within same =
    sym (drop-take p 64 c)
    ∙ ap (λ (l : List ℕ). drop p l) (sym (take-take (p + 64) 136 c within) ∙ ap (λ (l : List ℕ). take (p + 64) l) same
    ∙ take-take (p + 64) 136 file within)
    ∙ drop-take p 64 file

pub small_slot : (s : Bool) (file c : List ℕ) → take 136 c ≡ take 136 file → slot 8 63 s c ≡ slot 8 63 s file
small_slot true file c same = small_from 72 file c (lit≤ tt) same
small_slot false file c same = small_from 8 file c (lit≤ tt) same

pub large_slot : (s : Bool) (file c : List ℕ) → drop 136 c ≡ drop 136 file → slot 136 2111 s c ≡ slot 136 2111 s file
large_slot true file c same = ap (λ (l : List ℕ). take 2112 l) (sym (drop-drop 2112 136 c)
    ∙ ap (λ (l : List ℕ). drop 2112 l) same ∙ drop-drop 2112 136 file)
large_slot false file c same = ap (λ (l : List ℕ). take 2112 l) same

same_name : (file c : List ℕ) → take 136 c ≡ take 136 file → take 7 file ≡ name → take 7 c ≡ name
same_name file c same named = sym (take-take 7 136 c (lit≤ tt)) ∙ ap (λ (l : List ℕ). take 7 l) same
    ∙ take-take 7 136 file (lit≤ tt) ∙ named

same_version : (file c : List ℕ) → take 136 c ≡ take 136 file → get_or file 7 0 ≡ 1 → get_or c 7 0 ≡ 1
same_version file c same version = sym (get_or-take 136 c 7 0 (lit< tt)) ∙ ap (λ (l : List ℕ). get_or l 7 0) same
    ∙ get_or-take 136 file 7 0 (lit< tt) ∙ version

-- a store whose large slots change says still that the record has moved
pub moved_kept : (file c : List ℕ) → length c ≡ length file → take 136 c ≡ take 136 file → HasMoved file → HasMoved c
moved_kept file c size front is = record {
  size = size ∙ is.size;
  named = same_name file c front is.named;
  version = same_version file c front is.version;
  second = is.second;
  moves = is.moves;
  moved = same_slots SpellsSmall 8 63 file c is.second is.moves Moved (small_slot is.second file c front)
      (small_slot (not is.second) file c front) (let all = is.size in omega (arith, size, all)) is.moved;
}

-- what is written behind the small slots leaves these
pub behind_front : (d bytes : List ℕ) → 136 ≤ length d → take 136 (splice d 136 (136 + 4224) bytes) ≡ take 136 d
behind_front d bytes long = take_at (take 136 d) (bytes ++ drop (136 + 4224) d) 136 (length-take-le 136 d long)

pub behind_size : (d bytes : List ℕ) → 136 ≤ length d → length d ≤ 4360
    → length (splice d 136 (136 + 4224) bytes) ≡ 136 + length bytes
behind_size d bytes long most =
    let none : drop (136 + 4224) d ≡ [] = drop_all (136 + 4224) d most in
    ap (λ (l : List ℕ). length (take 136 d ++ (bytes ++ l))) none
    ∙ ap (λ (l : List ℕ). length (take 136 d ++ l)) (append-nil bytes)
    ∙ length-append (take 136 d) bytes
    ∙ ap (λ k. k + length bytes) (length-take-le 136 d long)

behind_is : (d bytes : List ℕ) → 136 ≤ length d → length d ≤ 4360 → drop 136 (splice d 136 (136 + 4224) bytes) ≡ bytes
behind_is d bytes long most =
    drop_at (take 136 d) (bytes ++ drop (136 + 4224) d) 136 (length-take-le 136 d long)
    ∙ ap (λ (l : List ℕ). bytes ++ l) (drop_all (136 + 4224) d most)
    ∙ append-nil bytes

module _ (second : Bool) (sequence : ℕ) (r : CheckpointRecord) where
  pub least : (d : List ℕ) → IsOld d second sequence r → 136 ≤ length d
  least d old = let room = old.current.room in omega (arith, room)

  -- an old store stays one
  pub still_old : (d bytes : List ℕ) → length bytes ≤ 4224 → IsOld d second sequence r
      → IsOld (splice d 136 (136 + 4224) bytes) second sequence r
  still_old d bytes few old =
      let c = splice d 136 (136 + 4224) bytes in
      let long = least d old in
      let same = behind_front d bytes long in
      let size = behind_size d bytes long old.most in
      record {
        most = omega (arith, size, few);
        named = same_name d c same old.named;
        version = same_version d c same old.version;
        current = same_slots SpellsSmall 8 63 d c second sequence (Here r) (small_slot second d c same)
            (small_slot (not second) d c same) (omega (arith, size)) old.current;
      }

  pub torn_old : (d c : List ℕ) → IsOld d second sequence r → Torn 136 4224 d c → IsOld c second sequence r
  torn_old d c old torn = subst (λ (l : List ℕ). IsOld l second sequence r) (sym torn.same)
      (still_old d torn.bytes torn.within old)

  -- the large slots, once they are written
  pub both_written : (d both : List ℕ) → 136 ≤ length d → length d ≤ 4360 → IsBoth both r
      → IsCurrent SpellsLarge 136 2111 (splice d 136 (136 + 4224) both) false 0 r
      × (IsOpen (slot 136 2111 true (splice d 136 (136 + 4224) both)) → ⊥)
  both_written d both long most is =
      let c = splice d 136 (136 + 4224) both in
      let rest = behind_is d both long most in
      let size = behind_size d both long most in
      let both_size = is.size in
      let one : slot 136 2111 false c ≡ take 2112 both = ap (λ (l : List ℕ). take 2112 l) rest in
      let two : slot 136 2111 true c ≡ take 2112 (drop 2112 both) =
      ap (λ (l : List ℕ). take 2112 l) (sym (drop-drop 2112 136 c) ∙ ap (λ (l : List ℕ). drop 2112 l) rest) in
      let zero_gate : get_or (slot 136 2111 true c) 0 0 ≡ 0 =
      ap (λ (l : List ℕ). get_or l 0 0) (two ∙ ap (λ (l : List ℕ). take 2112 l) is.large) in
      let shut : IsOpen (slot 136 2111 true c)
      → ⊥ = λ opened. (let e : 0 ≡ 165 = sym zero_gate ∙ opened in absurd (omega (arith, e))) in (
        record {
          room = omega (arith, size, both_size);
          gate = subst (λ (l : List ℕ). IsOpen l) (sym one) is.gate;
          content = subst (λ (l : List ℕ). SpellsLarge (body l) 0 r) (sym one) is.written.spells;
          other = λ opened. absurd (shut opened);
        },
        shut,
      )
