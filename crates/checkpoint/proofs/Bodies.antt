-- The bodies of large slots.
use Rattle.std.proofs.Common.{◌≡◌, ◌<◌, ◌≤◌, ◌+◌, ◌-◌, ◌*◌, ℕ, ℤ, zero, suc, List, [], ◌∷◌, ◌++◌, length, take, drop, get_or, replicate, refl, sym, ap, subst, ◌∙◌, arith, slice_set, length-append, lit≤, lit<}
use Rattle.std.proofs.lemmas.List.{drop-drop, drop-replicate, drop-take, drop_at, get_or-take, length-replicate, take-take, take_at}
use Rattle.std.specs.Int.{w64, cast_signed}
use Rattle.std.specs.List.{splice}
use Rattle.byteorder.specs.Endian.{big_from}
use Rattle.byteorder.specs.Numbers.{big_from-take}
use Rattle.saved_values.specs.Saved.{IsSavedList}
use Rattle.checkpoint.specs.Format.{HasFields, IsBody, IsBoth, SpellsEntries, tag_of, value_of}
use Rattle.checkpoint.specs.declared.record.CheckpointRecord.{CheckpointRecord}

-- # A byte that is put into a list

set_take : (k i : ℕ) (xs : List ℕ) (x : ℕ) → k ≤ i → take k (slice_set xs i x) ≡ take k xs
set_take zero i xs x le = refl
set_take (suc k) zero xs x le = absurd (omega (arith, le))
set_take (suc k) (suc i) [] x le = refl
set_take (suc k) (suc i) (y ∷ xs) x le = ap (λ (l : List ℕ). y ∷ l) (set_take k i xs x (omega (arith, le)))

set_drop : (k i : ℕ) (xs : List ℕ) (x : ℕ) → i < k → drop k (slice_set xs i x) ≡ drop k xs
set_drop zero i xs x less = absurd (omega (arith, less))
set_drop (suc k) zero [] x less = refl
set_drop (suc k) zero (y ∷ xs) x less = refl
set_drop (suc k) (suc i) [] x less = refl
set_drop (suc k) (suc i) (y ∷ xs) x less = set_drop k i xs x (omega (arith, less))

set_here : (i : ℕ) (xs : List ℕ) (x : ℕ) → i < length xs → get_or (slice_set xs i x) i 0 ≡ x
set_here i [] x less = absurd (omega (arith, less))
set_here zero (y ∷ xs) x less = refl
set_here (suc i) (y ∷ xs) x less = set_here i xs x (omega (arith, less))

-- # The body of a record

-- the fields are the first 35 bytes
same_number : (i n : ℕ) (a b : List ℕ) → i + n ≤ 35 → take 35 a ≡ take 35 b → big_from i n b ≡ big_from i n a
same_number i n a b within same = sym (big_from-take i n 35 b within) ∙ ap (λ (l : List ℕ). big_from i n l) (sym same)
    ∙ big_from-take i n 35 a within

fields_same : (a b : List ℕ) (s n j e t : ℕ) (v : ℤ) → take 35 a ≡ take 35 b → HasFields a s n j e t v
    → HasFields b s n j e t v
fields_same a b s n j e t v same is = record {
  sequence_at = same_number 0 8 a b (lit≤ tt) same ∙ is.sequence_at;
  size_at = same_number 8 2 a b (lit≤ tt) same ∙ is.size_at;
  job_at = same_number 10 8 a b (lit≤ tt) same ∙ is.job_at;
  epoch_at = same_number 18 8 a b (lit≤ tt) same ∙ is.epoch_at;
  epoch_small = is.epoch_small;
  outcome_at = sym (get_or-take 35 b 26 0 (lit< tt)) ∙ ap (λ (l : List ℕ). get_or l 26 0) (sym same)
      ∙ get_or-take 35 a 26 0 (lit< tt) ∙ is.outcome_at;
  value_at = ap (cast_signed w64) (same_number 27 8 a b (lit≤ tt) same) ∙ is.value_at;
}

pub spelled : (fields before result : List ℕ) (s : ℕ) (r : CheckpointRecord) → length fields ≡ 63
    → HasFields fields s 2101 r.job r.epoch (tag_of r.outcome) (value_of r.outcome) → drop 35 fields ≡ replicate 28 0
    → take 63 before ≡ slice_set fields 35 (length r.saved) → IsSavedList r.saved
    → length result ≡ 2111 → take 63 result ≡ take 63 before → SpellsEntries (drop 63 result) r.saved
    → drop (63 + 32 * length r.saved) result ≡ replicate (32 * (64 - length r.saved)) 0 → IsBody result s r
spelled fields before result s r size is zeros counted list long kept entries unused =
    let n = length r.saved in
    let first : take 63 result ≡ slice_set fields 35 n = kept ∙ counted in
    let same : take 35 fields ≡ take 35 result =
    sym (set_take 35 35 fields n (lit≤ tt)) ∙ ap (λ (l : List ℕ). take 35 l) (sym first)
    ∙ take-take 35 63 result (lit≤ tt) in
    let count : get_or result 35 0 ≡ n =
    sym (get_or-take 63 result 35 0 (lit< tt)) ∙ ap (λ (l : List ℕ). get_or l 35 0) first
    ∙ set_here 35 fields n (omega (arith, size)) in
    let rest : take 27 (drop 36 result) ≡ replicate 27 0 =
    sym (drop-take 36 27 result) ∙ ap (λ (l : List ℕ). drop 36 l) first ∙ set_drop 36 35 fields n (lit< tt)
    ∙ sym (drop-drop 1 35 fields) ∙ ap (λ (l : List ℕ). drop 1 l) zeros in
    record {
      size = long;
      spells = record {
        fields = fields_same fields result s 2101 r.job r.epoch (tag_of r.outcome)
            (value_of r.outcome) same is;
        count_at = count;
        entries = entries;
        listed = list;
      };
      zeros = rest;
      unused = unused;
    }

-- # Both large slots

pub both_is : (bytes both : List ℕ) (r : CheckpointRecord) → IsBody bytes 0 r
    → both ≡ splice (165 ∷ replicate 4223 0) 1 (1 + length bytes) bytes → IsBoth both r
both_is bytes both r is built =
    let size = is.size in
    let zeros : List ℕ = replicate 2112 0 in
    let shape : both ≡ 165 ∷ (bytes ++ zeros) =
    built ∙ ap (λ n. splice (165 ∷ replicate 4223 0) 1 (1 + n) bytes) size
    ∙ ap (λ (l : List ℕ). 165 ∷ (bytes ++ l)) (drop-replicate 2111 4223 0) in
    let whole = length-append bytes zeros in
    let some = length-replicate {A = ℕ} 2112 0 in
    subst (λ (l : List ℕ). IsBoth l r) (sym shape) (record {
      size = omega (arith, whole, some, size);
      gate = refl;
      written = subst (λ (l : List ℕ). IsBody l 0 r) (sym (take_at bytes zeros 2111 size)) is;
      large = drop_at bytes zeros 2111 size;
    })
