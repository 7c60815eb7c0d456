-- What a crash leaves of a slot that gets a body.
use Rattle.std.proofs.Common.{◌≡◌, ℕ, ◌+◌, ◌≤◌, inl, inr, Bool, true, false, List, [], ◌∷◌, ◌++◌, length, take, drop, get_or, refl, sym, ◌∙◌, ap, arith, length-append, add-zero}
use Rattle.std.proofs.lemmas.List.{take-append-drop}
use Rattle.std.specs.List.{splice}
use Rattle.std.specs.Prelude.{if◌then◌else◌}
use Rattle.disk.specs.Crash.{Only, Follows, Torn}
use Rattle.checkpoint.specs.Commit.{closing}
use Rattle.checkpoint.proofs.Splices.{Slot, slot_in, splice_of, placed, gate_placed, body_placed}

-- Up to the fifth call. `file` is what was read, `left` what a crash might have left before.
pub data Early (at : ℕ) (gate : Bool) (body file : List ℕ) (left : List ℕ → Type 0) (c : List ℕ) : Type 0 where
  -- nothing was written
  stays : left c → Early at gate body file left c
  -- the gate is being closed
  closes : (d : List ℕ) → left d → Torn at (length (closing gate)) d c → Early at gate body file left c
  -- the gate is closed, and any bytes stand in the body
  writes : (bytes : List ℕ) → length bytes ≡ length body
      → c ≡ splice file at (at + 1 + length body) ((if gate then 0 else get_or file at 0) ∷ bytes)
      → Early at gate body file left c

-- from the fifth call on: the body stands, and any byte in the gate
pub record Late (at : ℕ) (body file c : List ℕ) : Type 0 where
  pub gate : ℕ
  pub same : c ≡ splice file at (at + 1 + length body) (gate ∷ body)

pub closing_passes : (at : ℕ) (gate : Bool) (body file : List ℕ) (old new : List ℕ → Type 0)
    → Follows (Torn at (length (closing gate))) old new → (c : List ℕ) → new c → Early at gate body file old c
closing_passes at gate body file old new follows c left =
    elim (follows c left) [ inl before ↦ stays before | inr from ↦ closes from.0 from.1 from.2 ]

-- the file once the gate is closed
pub is_closed : (file : List ℕ) (at n : ℕ) (slot : Slot file at n) (gate : Bool)
    → splice file at (at + length (closing gate)) (closing gate)
    ≡ slot.front ++ (((if gate then 0 else get_or file at 0) ∷ slot.body) ++ slot.behind)
is_closed file at n slot true =
    ap (λ (l : List ℕ). splice l at (at + 1) (0 ∷ [])) slot.whole
    ∙ gate_placed slot.front slot.body slot.behind slot.gate 0 at slot.begins
is_closed file at n slot false =
    ap (λ i. take at file ++ ([] ++ drop i file)) (add-zero at) ∙ take-append-drop at file ∙ slot.whole
    ∙ ap (λ g. slot.front ++ ((g ∷ slot.body) ++ slot.behind)) slot.is_gate

pub writing_passes : (at : ℕ) (gate : Bool) (body file closed : List ℕ) (before old new : List ℕ → Type 0)
    → at + 1 + length body ≤ length file → closed ≡ splice file at (at + length (closing gate)) (closing gate)
    → Only closed old → Follows (Torn (at + 1) (length body)) old new → (c : List ℕ) → new c
    → Early at gate body file before c
writing_passes at gate body file closed before old new room is only follows c left =
    let slot = slot_in file at (length body) room in
    let g = if gate then 0 else get_or file at 0 in
    elim (follows c left) [
      | inl same ↦ writes slot.body slot.size (only c same ∙ is ∙ is_closed file at (length body) slot gate
          ∙ sym (placed file at (length body) slot g slot.body slot.size))
      | inr from ↦
          let torn = from.2 in
          let shape : from.0 ≡ slot.front ++ ((g ∷ slot.body) ++ slot.behind) =
          only from.0 from.1 ∙ is ∙ is_closed file at (length body) slot gate in
          let same : c ≡ slot.front ++ ((g ∷ torn.bytes) ++ slot.behind) =
          torn.same ∙ ap (λ (l : List ℕ). splice l (at + 1) (at + 1 + length body) torn.bytes) shape
          ∙ body_placed slot.front slot.body slot.behind torn.bytes g at (length body) slot.begins slot.size in
          let size : length torn.bytes ≡ length body =
          omega (
            arith,
            torn.within,
            torn.no_shorter,
            slot.size,
            ap length shape,
            ap length same,
            length-append slot.front ((g ∷ slot.body) ++ slot.behind),
            length-append (g ∷ slot.body) slot.behind,
            length-append slot.front ((g ∷ torn.bytes) ++ slot.behind),
            length-append (g ∷ torn.bytes) slot.behind,
          ) in
          writes torn.bytes size (same ∙ sym (placed file at (length body) slot g torn.bytes size))
    ]

-- the file once the body stands
pub is_written : (at : ℕ) (gate : Bool) (body file closed written : List ℕ) (slot : Slot file at (length body))
    → closed ≡ splice file at (at + length (closing gate)) (closing gate)
    → written ≡ splice closed (at + 1) (at + 1 + length body) body
    → written ≡ slot.front ++ (((if gate then 0 else get_or file at 0) ∷ body) ++ slot.behind)
is_written at gate body file closed written slot is body_is =
    body_is ∙ ap (λ (l : List ℕ). splice l (at + 1) (at + 1 + length body) body) (is
    ∙ is_closed file at (length body) slot gate)
    ∙ body_placed slot.front slot.body slot.behind body (if gate then 0 else get_or file at 0) at
    (length body) slot.begins slot.size

-- neither is shorter
pub closed_room : (at : ℕ) (gate : Bool) (body file closed : List ℕ) → at + 1 + length body ≤ length file
    → closed ≡ splice file at (at + length (closing gate)) (closing gate) → at + 1 + length body ≤ length closed
closed_room at gate body file closed room is =
    let slot = slot_in file at (length body) room in
    let g = if gate then 0 else get_or file at 0 in
    let shape : closed ≡ slot.front ++ ((g ∷ slot.body) ++ slot.behind) =
    is ∙ is_closed file at (length body) slot gate in
    omega (
      arith,
      ap length shape,
      slot.begins,
      slot.size,
      length-append slot.front ((g ∷ slot.body) ++ slot.behind),
      length-append (g ∷ slot.body) slot.behind,
    )

pub written_room : (at : ℕ) (gate : Bool) (body file closed written : List ℕ) → at + 1 + length body ≤ length file
    → closed ≡ splice file at (at + length (closing gate)) (closing gate)
    → written ≡ splice closed (at + 1) (at + 1 + length body) body → at + 1 + length body ≤ length written
written_room at gate body file closed written room is body_is =
    let slot = slot_in file at (length body) room in
    let g = if gate then 0 else get_or file at 0 in
    let shape : written ≡ slot.front ++ ((g ∷ body) ++ slot.behind) =
    is_written at gate body file closed written slot is body_is in
    omega (
      arith,
      ap length shape,
      slot.begins,
      length-append slot.front ((g ∷ body) ++ slot.behind),
      length-append (g ∷ body) slot.behind,
    )

-- one byte
pub one_byte : (bytes : List ℕ) → length bytes ≡ 1 → (b : ℕ) × (bytes ≡ b ∷ [])
one_byte [] size = absurd (omega (arith, size))
one_byte (b ∷ []) size = (b, refl)
one_byte (b ∷ c ∷ bytes) size = absurd (omega (arith, size))

pub opening_passes : (at : ℕ) (gate : Bool) (body file closed written : List ℕ) (old new : List ℕ → Type 0)
    → at + 1 + length body ≤ length file → closed ≡ splice file at (at + length (closing gate)) (closing gate)
    → written ≡ splice closed (at + 1) (at + 1 + length body) body → Only written old → Follows (Torn at 1) old new
    → (c : List ℕ) → new c → Late at body file c
opening_passes at gate body file closed written old new room is body_is only follows c left =
    let slot = slot_in file at (length body) room in
    let g = if gate then 0 else get_or file at 0 in
    let stands : written ≡ slot.front ++ ((g ∷ body) ++ slot.behind) =
    is_written at gate body file closed written slot is body_is in
    elim (follows c left) [
      | inl same ↦ record {
        gate = g;
        same = only c same ∙ stands ∙ sym (placed file at (length body) slot g body refl);
      }
      | inr from ↦
          let torn = from.2 in
          let shape : from.0 ≡ slot.front ++ ((g ∷ body) ++ slot.behind) = only from.0 from.1 ∙ stands in
          let same : c ≡ slot.front ++ (torn.bytes ++ (body ++ slot.behind)) =
          torn.same ∙ ap (λ (l : List ℕ). splice l at (at + 1) torn.bytes) shape
          ∙ splice_of slot.front (g ∷ []) (body ++ slot.behind) torn.bytes at (at + 1) slot.begins
          (omega (arith, slot.begins)) in
          let size : length torn.bytes ≡ 1 =
          omega (
            arith,
            torn.within,
            torn.no_shorter,
            ap length shape,
            ap length same,
            length-append slot.front ((g ∷ body) ++ slot.behind),
            length-append (g ∷ body) slot.behind,
            length-append slot.front (torn.bytes ++ (body ++ slot.behind)),
            length-append torn.bytes (body ++ slot.behind),
            length-append body slot.behind,
          ) in
          let one = one_byte torn.bytes size in
          record {
            gate = one.0;
            same = same ∙ ap (λ (l : List ℕ). slot.front ++ (l ++ (body ++ slot.behind))) one.1
                ∙ sym (placed file at (length body) slot one.0 body refl);
          }
    ]

pub is_published : (at : ℕ) (gate : Bool) (body file closed written opened : List ℕ)
    → at + 1 + length body ≤ length file → closed ≡ splice file at (at + length (closing gate)) (closing gate)
    → written ≡ splice closed (at + 1) (at + 1 + length body) body → opened ≡ splice written at (at + 1) (165 ∷ [])
    → opened ≡ splice file at (at + 1 + length body) (165 ∷ body)
is_published at gate body file closed written opened room is body_is last =
    let slot = slot_in file at (length body) room in
    last ∙ ap (λ (l : List ℕ). splice l at (at + 1) (165 ∷ []))
    (is_written at gate body file closed written slot is body_is)
    ∙ gate_placed slot.front body slot.behind (if gate then 0 else get_or file at 0) 165 at slot.begins
    ∙ sym (placed file at (length body) slot 165 body refl)
