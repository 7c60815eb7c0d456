-- A slot is replaced: what is current then.
use Rattle.std.proofs.Common.{◌≡◌, ◌≢◌, ◌⊎◌, inl, inr, ℕ, ◌+◌, ◌≤◌, Bool, true, false, List, [], ◌∷◌, ◌++◌, length, take, drop, get_or, set, refl, sym, ◌∙◌, ap, subst, arith, append_assoc, length-append, add-zero}
use Rattle.std.proofs.lemmas.List.{take_at, drop_at, take-append-le, drop-append-le, length-drop, drop-drop, take-append-drop, get_or-take, get_or-drop, set_at, nil_from_length}
use Rattle.std.proofs.lemmas.Bool.{cases_eq}
use Rattle.checkpoint.proofs.Passing.{one_byte}
use Rattle.std.specs.List.{splice}
use Rattle.std.specs.Prelude.{not}
use Rattle.disk.specs.Crash.{Torn}
use Rattle.disk.specs.Laws.{IsByteKept, IsFree}
use Rattle.checkpoint.specs.Pair.{place, slot, IsOpen, body, Spelling, IsCurrent}
use Rattle.checkpoint.proofs.Passing.{Early, Late}
use Rattle.checkpoint.proofs.Passing.Early.{stays, closes, writes}
use Rattle.checkpoint.proofs.Splices.{slot_in, splice_of, placed}

pub not_not : (b : Bool) → not (not b) ≡ b
not_not true = refl
not_not false = refl

gate_is : (base n : ℕ) (second : Bool) (file : List ℕ)
    → get_or (slot base n second file) 0 0 ≡ get_or file (place base n second) 0
gate_is base n second file =
    get_or-take (1 + n) (drop (place base n second) file) 0 0 (omega arith) ∙ get_or-drop (place base n second) file 0 0
    ∙ ap (λ i. get_or file i 0) (add-zero (place base n second))

-- a write of no bytes
not_torn : (at : ℕ) (d c : List ℕ) → Torn at 0 d c → c ≡ d
not_torn at d c torn =
    torn.same ∙ ap (λ (l : List ℕ). splice d at (at + 0) l) (nil_from_length torn.bytes (omega (arith, torn.within)))
    ∙ ap (λ i. take at d ++ drop i d) (add-zero at) ∙ take-append-drop at d

pub place_within : (base n : ℕ) (target : Bool) (size : ℕ) → base + (1 + n) + (1 + n) ≤ size
    → place base n target + 1 + n ≤ size
place_within base n true size room = omega arith
place_within base n false size room = omega arith

-- what a slot that is replaced leaves as it was
pub record Replaced (base n : ℕ) (target : Bool) (file c bytes : List ℕ) : Type 0 where
  pub here : slot base n target c ≡ bytes
  pub there : slot base n (not target) c ≡ slot base n (not target) file
  pub size : length c ≡ length file
  pub front : take base c ≡ take base file
  pub behind : drop (base + (1 + n) + (1 + n)) c ≡ drop (base + (1 + n) + (1 + n)) file

drop_over : (front x behind : List ℕ) (i j : ℕ) → length front ≡ i → length x ≡ j
    → drop (i + j) (front ++ (x ++ behind)) ≡ behind
drop_over front x behind i j begins size =
    ap (λ (l : List ℕ). drop (i + j) l) (sym (append_assoc front x behind))
    ∙ drop_at (front ++ x) behind (i + j) (omega (arith, begins, size, length-append front x))

inside : (front rest : List ℕ) (i k : ℕ) → i + k ≤ length front
    → take k (drop i (front ++ rest)) ≡ take k (drop i front)
inside front rest i k fits =
    ap (λ (l : List ℕ). take k l) (drop-append-le i front rest (omega arith))
    ∙ take-append-le k (drop i front) rest (omega (arith, length-drop i front))

-- the parts of a file round the slot
front_of : (base n : ℕ) (front old new behind : List ℕ) (target : Bool) → length front ≡ place base n target
    → length old ≡ 1 + n → length new ≡ 1 + n
    → Replaced base n target (front ++ (old ++ behind)) (front ++ (new ++ behind)) new
front_of base n front old new behind false begins size same_size =
    let over_new = drop_over front new behind base (1 + n) begins same_size in
    let over_old = drop_over front old behind base (1 + n) begins size in
    record {
      here = ap (λ (l : List ℕ). take (1 + n) l) (drop_at front (new ++ behind) base begins)
          ∙ take_at new behind (1 + n) same_size;
      there = ap (λ (l : List ℕ). take (1 + n) l) (over_new ∙ sym over_old);
      size = omega (
        arith,
        size,
        same_size,
        length-append front (old ++ behind),
        length-append front (new ++ behind),
        length-append old behind,
        length-append new behind,
      );
      front = take_at front (new ++ behind) base begins ∙ sym (take_at front (old ++ behind) base begins);
      behind = sym (drop-drop (1 + n) (base + (1 + n)) (front ++ (new ++ behind)))
          ∙ ap (λ (l : List ℕ). drop (1 + n) l) (over_new ∙ sym over_old)
          ∙ drop-drop (1 + n) (base + (1 + n)) (front ++ (old ++ behind));
    }
front_of base n front old new behind true begins size same_size =
    let over_new = drop_over front new behind (base + (1 + n)) (1 + n) begins same_size in
    let over_old = drop_over front old behind (base + (1 + n)) (1 + n) begins size in
    record {
      here = ap (λ (l : List ℕ). take (1 + n) l) (drop_at front (new ++ behind) (base + (1 + n)) begins)
          ∙ take_at new behind (1 + n) same_size;
      there = inside front (new ++ behind) base (1 + n) (omega (arith, begins))
          ∙ sym (inside front (old ++ behind) base (1 + n) (omega (arith, begins)));
      size = omega (
        arith,
        size,
        same_size,
        length-append front (old ++ behind),
        length-append front (new ++ behind),
        length-append old behind,
        length-append new behind,
      );
      front = take-append-le base front (new ++ behind) (omega (arith, begins))
          ∙ sym (take-append-le base front (old ++ behind) (omega (arith, begins)));
      behind = over_new ∙ sym over_old;
    }

-- a gate and a body put into a slot
pub replaced : (base n : ℕ) (target : Bool) (file bytes c : List ℕ) (gate : ℕ) → base + (1 + n) + (1 + n) ≤ length file
    → length bytes ≡ n → c ≡ splice file (place base n target) (place base n target + 1 + n) (gate ∷ bytes)
    → Replaced base n target file c (gate ∷ bytes)
replaced base n target file bytes c gate room size same =
    let at = place base n target in
    let within : at + 1 + n ≤ length file = place_within base n target (length file) room in
    let s = slot_in file at n within in
    let is : c ≡ s.front ++ ((gate ∷ bytes) ++ s.behind) = same ∙ placed file at n s gate bytes size in
    let of = front_of base n s.front (s.gate ∷ s.body) (gate ∷ bytes) s.behind target s.begins (omega (arith, s.size))
    (omega (arith, size)) in
    let with_c = subst (λ (l : List ℕ). Replaced base n target (s.front ++ ((s.gate ∷ s.body) ++ s.behind)) l
    (gate ∷ bytes)) (sym is) of in
    subst (λ (l : List ℕ). Replaced base n target l c (gate ∷ bytes)) (sym s.whole) with_c

-- what a file keeps when a slot is replaced
abbrev pub Keeps : ℕ → ℕ → (List ℕ → Type 0) → Type 0
Keeps base n Frame = (target : Bool) (file c bytes : List ℕ) → Frame file → Replaced base n target file c bytes
    → Frame c

-- the file is in its frame, and has this record
abbrev pub Has : {R : Type 0} → Spelling R → ℕ → ℕ → (List ℕ → Type 0) → List ℕ → Bool → ℕ → R → Type 0
Has Spells base n Frame file second sequence r = Frame file × IsCurrent Spells base n file second sequence r

module _ {R : Type 0} (Spells : Spelling R) (base n : ℕ) (Frame : List ℕ → Type 0) (keeps : Keeps base n Frame) where
  -- the current record of a file stands where the other slot is replaced by one that doesn't count
  pub unchanged : (file c bytes : List ℕ) (gate sequence : ℕ) (second : Bool) (r : R)
      → IsCurrent Spells base n file second sequence r → Replaced base n (not second) file c (gate ∷ bytes) → gate ≢ 165
      → IsCurrent Spells base n c second sequence r
  unchanged file c bytes gate sequence second r is by closed =
      let there : slot base n second c ≡ slot base n second file = rw not_not at by.there in
      record {
        room = omega (arith, is.room, by.size);
        gate = ap (λ (l : List ℕ). get_or l 0 0) there ∙ is.gate;
        content = subst (λ (l : List ℕ). Spells (body l) sequence r) (sym there) is.content;
        other = λ opened. absurd (closed (ap (λ (l : List ℕ). get_or l 0 0) (sym by.here) ∙ opened));
      }

  -- and gives way to the one that does
  pub renewed : (file c bytes : List ℕ) (sequence : ℕ) (second : Bool) (r s : R)
      → IsCurrent Spells base n file second sequence r → Replaced base n (not second) file c (165 ∷ bytes)
      → Spells bytes (sequence + 1) s → IsCurrent Spells base n c (not second) (sequence + 1) s
  renewed file c bytes sequence second r s is by says =
      let there : slot base n second c ≡ slot base n second file = rw not_not at by.there in
      record {
        room = omega (arith, is.room, by.size);
        gate = ap (λ (l : List ℕ). get_or l 0 0) by.here;
        content = subst (λ (l : List ℕ). Spells (body l) (sequence + 1) s) (sym by.here) says;
        other = rw not_not (λ opened. (
          sequence,
          r,
          subst (λ (l : List ℕ). Spells (body l) sequence r) (sym there) is.content,
          omega arith,
        ));
      }

  -- a gate that is torn while it is closed
  closed_torn : (file : List ℕ) (left : List ℕ → Type 0) (second : Bool) (sequence : ℕ) (r : R) →
      ((d : List ℕ) → left d → Has Spells base n Frame d second sequence r) →
      (IsByteKept file left (place base n (not second)) ⊎ IsFree left (place base n (not second))) →
      get_or file (place base n (not second)) 0 ≡ 165 →
      (d c : List ℕ) → left d → Torn (place base n (not second)) 1 d c → Has Spells base n Frame c second sequence r
  closed_torn file left second sequence r all law opened d c was torn =
      let at = place base n (not second) in
      let held = all d was in
      let is = held.1 in
      let p = slot_in d at n (place_within base n (not second) (length d) is.room) in
      let torn_to : c ≡ p.front ++ (torn.bytes ++ (p.body ++ p.behind)) =
      torn.same ∙ ap (λ (l : List ℕ). splice l at (at + 1) torn.bytes) p.whole
      ∙ splice_of p.front (p.gate ∷ []) (p.body ++ p.behind) torn.bytes at (at + 1) p.begins
      (omega (arith, p.begins)) in
      let size : length torn.bytes ≡ 1 =
      omega (
        arith,
        torn.within,
        torn.no_shorter,
        ap length p.whole,
        ap length torn_to,
        length-append p.front ((p.gate ∷ p.body) ++ p.behind),
        length-append (p.gate ∷ p.body) p.behind,
        length-append p.front (torn.bytes ++ (p.body ++ p.behind)),
        length-append torn.bytes (p.body ++ p.behind),
        length-append p.body p.behind,
      ) in
      let one = one_byte torn.bytes size in
      let shape : c ≡ p.front ++ ((one.0 ∷ p.body) ++ p.behind) =
      torn_to ∙ ap (λ (l : List ℕ). p.front ++ (l ++ (p.body ++ p.behind))) one.1 in
      elim law [
        | inl kept ↦
            elim (cases_eq one.0 165) [
              | inl e ↦ subst (λ (l : List ℕ). Has Spells base n Frame l second sequence r)
                  (p.whole ∙ ap (λ g. p.front ++ ((g ∷ p.body) ++ p.behind)) (p.is_gate
                  ∙ kept d was (omega (arith, place_within base n (not second) (length d) is.room)) ∙ opened
                  ∙ sym e) ∙ sym shape) held
              | inr differs ↦
                  let by = replaced base n (not second) d p.body c one.0 is.room p.size (shape
                  ∙ sym (placed d at n p one.0 p.body p.size)) in (
                    keeps (not second) d c (one.0 ∷ p.body) held.0 by,
                    unchanged d c p.body one.0 sequence second r is by differs,
                  )
            ]
        | inr any ↦ subst (λ (l : List ℕ). Has Spells base n Frame l second sequence r)
            (ap (λ (l : List ℕ). set l at one.0) p.whole ∙ set_at p.front p.gate (p.body ++ p.behind) one.0 at p.begins
            ∙ sym shape) (all (set d at one.0) (any d one.0 was))
      ]

  -- up to the fifth call the record before is found
  pub before_it : (file bytes : List ℕ) (left : List ℕ → Type 0) (gate second : Bool) (sequence : ℕ) (r : R) →
      left file →
      ((d : List ℕ) → left d → Has Spells base n Frame d second sequence r) →
      (IsByteKept file left (place base n (not second)) ⊎ IsFree left (place base n (not second))) →
      (gate ≡ true → IsOpen (slot base n (not second) file)) →
      (gate ≡ false → ¬ IsOpen (slot base n (not second) file)) →
      length bytes ≡ n →
      (c : List ℕ) → Early (place base n (not second)) gate bytes file left c
      → Has Spells base n Frame c second sequence r
  before_it file bytes left gate second sequence r stands all law open_gate closed_gate size c (stays was) = all c was
  before_it file bytes left true second sequence r stands all law open_gate closed_gate size c (closes d was torn) =
      closed_torn file left second sequence r all law (sym (gate_is base n (not second) file)
      ∙ open_gate refl) d c was torn
  before_it file bytes left false second sequence r stands all law open_gate closed_gate size c (closes d was torn) =
      subst (λ (l : List ℕ). Has Spells base n Frame l second sequence r)
      (sym (not_torn (place base n (not second)) d c torn)) (all d was)
  before_it file bytes left true second sequence r stands all law open_gate closed_gate size c
      (writes any same_size same) =
      let held = all file stands in
      let by = replaced base n (not second) file any c 0 held.1.room (same_size ∙ size) (same
      ∙ ap (λ k. splice file (place base n (not second)) (place base n (not second) + 1 + k) (0 ∷ any)) size) in (
        keeps (not second) file c (0 ∷ any) held.0 by,
        unchanged file c any 0 sequence second r held.1 by (λ (e : 0 ≡ 165). omega (arith, e)),
      )
  before_it file bytes left false second sequence r stands all law open_gate closed_gate size c
      (writes any same_size same) =
      let held = all file stands in
      let gate = get_or file (place base n (not second)) 0 in
      let by = replaced base n (not second) file any c gate held.1.room (same_size ∙ size) (same
      ∙ ap (λ k. splice file (place base n (not second)) (place base n (not second) + 1 + k) (gate ∷ any)) size) in (
        keeps (not second) file c (gate ∷ any) held.0 by,
        unchanged file c any gate sequence second r held.1 by
            (λ e. closed_gate refl (gate_is base n (not second) file ∙ e)),
      )

  -- from then on that one or the next
  pub either_of : (file bytes : List ℕ) (second : Bool) (sequence : ℕ) (r s : R)
      → Has Spells base n Frame file second sequence r → length bytes ≡ n → Spells bytes (sequence + 1) s →
      (c : List ℕ) → Late (place base n (not second)) bytes file c →
      Has Spells base n Frame c second sequence r ⊎ Has Spells base n Frame c (not second) (sequence + 1) s
  either_of file bytes second sequence r s held size says c late =
      let g = late.gate in
      let by = replaced base n (not second) file bytes c g held.1.room size (late.same
      ∙ ap (λ k. splice file (place base n (not second)) (place base n (not second) + 1 + k) (g ∷ bytes)) size) in
      elim (cases_eq g 165) [
        | inl e ↦ inr (
          keeps (not second) file c (g ∷ bytes) held.0 by,
          renewed file c bytes sequence second r s held.1
              (subst (λ x. Replaced base n (not second) file c (x ∷ bytes)) e by) says,
        )
        | inr differs ↦ inl (
          keeps (not second) file c (g ∷ bytes) held.0 by,
          unchanged file c bytes g sequence second r held.1 by differs,
        )
      ]

  -- a commit that ended
  pub committed : (file bytes c : List ℕ) (second : Bool) (sequence : ℕ) (r s : R)
      → Has Spells base n Frame file second sequence r → length bytes ≡ n → Spells bytes (sequence + 1) s
      → c ≡ splice file (place base n (not second)) (place base n (not second) + 1 + length bytes) (165 ∷ bytes)
      → Has Spells base n Frame c (not second) (sequence + 1) s × IsOpen (slot base n second c)
  committed file bytes c second sequence r s held size says same =
      let by = replaced base n (not second) file bytes c 165 held.1.room size (same
      ∙ ap (λ k. splice file (place base n (not second)) (place base n (not second) + 1 + k) (165 ∷ bytes)) size) in
      let there : slot base n second c ≡ slot base n second file = rw not_not at by.there in (
        (keeps (not second) file c (165 ∷ bytes) held.0 by, renewed file c bytes sequence second r s held.1 by says),
        ap (λ (l : List ℕ). get_or l 0 0) there ∙ held.1.gate,
      )
