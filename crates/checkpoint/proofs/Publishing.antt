-- What a crash leaves at each moment of the six calls by which a slot gets a body.
use Rattle.std.proofs.Common.{◌≡◌, ℕ, zero, suc, ◌+◌, ◌≤◌, ◌⊎◌, inl, inr, IsTrue, Bool, List, [], ◌∷◌, length, take, Option, ◌∙◌, subst, arith}
use Rattle.std.proofs.lemmas.List.{length-map}
use Rattle.std.specs.List.{splice}
use Rattle.disk.specs.declared.cells.Cell.{Cell}
use Rattle.disk.specs.Crash.{Follows, Torn}
use Rattle.disk.specs.Device.{Device}
use Rattle.disk.specs.File.{CrashLeaves, bytes_of, synced, written_file}
use Rattle.disk.proofs.Crashes.{bytes_of-synced, settled-shrinks, synced-only, synced-shrinks, written-follows}
use Rattle.disk.proofs.Writes.{bytes_of-written}
use Rattle.checkpoint.specs.Calls.{DeviceCall, Stopped, after}
use Rattle.checkpoint.specs.Commit.{closing, publishing}
use Rattle.checkpoint.proofs.Passing.{Early, Late, closed_room, closing_passes, is_published, opening_passes, writing_passes, written_room}
use Rattle.checkpoint.proofs.Passing.Early.{stays}

length-bytes_of : (f : List Cell) → length (bytes_of f) ≡ length f
length-bytes_of f = length-map f (λ (x : Cell). x.byte)

module _ (f : List Cell) (at : ℕ) (gate : Bool) (bytes : List ℕ)
    (room : at + 1 + length bytes ≤ length (bytes_of f)) where
  abbrev begun : List Cell
  begun = written_file f at (closing gate)

  abbrev closed : List Cell
  closed = synced begun

  abbrev filling : List Cell
  filling = written_file closed (at + 1) bytes

  abbrev filled : List Cell
  filled = synced filling

  abbrev opening : List Cell
  opening = written_file filled at (165 ∷ [])

  is_closed : bytes_of closed ≡ splice (bytes_of f) at (at + length (closing gate)) (closing gate)
  is_closed = bytes_of-synced begun ∙ bytes_of-written f at (closing gate)

  is_filled : bytes_of filled ≡ splice (bytes_of closed) (at + 1) (at + 1 + length bytes) bytes
  is_filled = bytes_of-synced filling ∙ bytes_of-written closed (at + 1) bytes

  pub is_opened : bytes_of (synced opening) ≡ splice (bytes_of f) at (at + 1 + length bytes) (165 ∷ bytes)
  is_opened =
      is_published at gate bytes (bytes_of f) (bytes_of closed) (bytes_of filled)
      (bytes_of (synced opening)) room is_closed is_filled
      (bytes_of-synced opening ∙ bytes_of-written filled at (165 ∷ []))

  place : at ≤ length f
  place = omega (arith, room, length-bytes_of f)

  place_closed : at + 1 ≤ length closed
  place_closed = omega (
    arith,
    closed_room at gate bytes (bytes_of f) (bytes_of closed) room is_closed,
    length-bytes_of closed,
  )

  place_filled : at ≤ length filled
  place_filled = omega (
    arith,
    written_room at gate bytes (bytes_of f) (bytes_of closed)
        (bytes_of filled) room is_closed is_filled,
    length-bytes_of filled,
  )

  abbrev IsEarly : List ℕ → Type 0
  IsEarly = Early at gate bytes (bytes_of f) (CrashLeaves f)

  abbrev IsLate : List ℕ → Type 0
  IsLate = Late at bytes (bytes_of f)

  at_one : (new : List ℕ → Type 0) → Follows (Torn at (length (closing gate))) (CrashLeaves f) new → (c : List ℕ)
      → new c → IsEarly c
  at_one new follows = closing_passes at gate bytes (bytes_of f) (CrashLeaves f) new follows

  after_one : (c : List ℕ) → CrashLeaves begun c → IsEarly c
  after_one = at_one (CrashLeaves begun) (written-follows f at (closing gate) place)

  at_three : (new : List ℕ → Type 0) → Follows (Torn (at + 1) (length bytes)) (CrashLeaves closed) new → (c : List ℕ)
      → new c → IsEarly c
  at_three new follows = writing_passes at gate bytes (bytes_of f) (bytes_of closed) (CrashLeaves f)
      (CrashLeaves closed) new room is_closed (synced-only begun) follows

  after_three : (c : List ℕ) → CrashLeaves filling c → IsEarly c
  after_three = at_three (CrashLeaves filling) (written-follows closed (at + 1) bytes place_closed)

  at_five : (new : List ℕ → Type 0) → Follows (Torn at 1) (CrashLeaves filled) new → (c : List ℕ) → new c → IsLate c
  at_five new follows = opening_passes at gate bytes (bytes_of f) (bytes_of closed) (bytes_of filled)
      (CrashLeaves filled) new room is_closed is_filled (synced-only filling) follows

  after_five : (c : List ℕ) → CrashLeaves opening c → IsLate c
  after_five = at_five (CrashLeaves opening) (written-follows filled at (165 ∷ []) place_filled)

module _ (d : Device) (at : ℕ) (gate : Bool) (bytes : List ℕ)
    (room : at + 1 + length bytes ≤ length (bytes_of d.file)) where
  abbrev calls : List DeviceCall
  calls = publishing at gate bytes

  pub early : (k : ℕ) → k ≤ 4 → (c : List ℕ) → CrashLeaves (after d (take k calls)).file c
      → Early at gate bytes (bytes_of d.file) (CrashLeaves d.file) c
  unfolding after
  early zero h c left = stays left
  early (suc zero) h c left = after_one d.file at gate bytes room c left
  early (suc (suc zero)) h c left = after_one d.file at gate bytes room c (synced-shrinks _ c left)
  early (suc (suc (suc zero))) h c left = after_three d.file at gate bytes room c left
  early (suc (suc (suc (suc zero)))) h c left = after_three d.file at gate bytes room c (synced-shrinks _ c left)
  early (suc (suc (suc (suc (suc k))))) h c left = absurd (omega (arith, h))

  pub fifth : (c : List ℕ) → CrashLeaves (after d (take 5 calls)).file c → Late at bytes (bytes_of d.file) c
  unfolding after
  fifth c left = after_five d.file at gate bytes room c left

  pub done : (c : List ℕ) → CrashLeaves (after d calls).file c
      → c ≡ splice (bytes_of d.file) at (at + 1 + length bytes) (165 ∷ bytes)
  unfolding after
  done c left = synced-only _ c left ∙ is_opened d.file at gate bytes room

  pub early_stop : (plan : ℕ → Option (List ℕ)) (new : Device) → Stopped (take 4 calls) plan d new → (c : List ℕ)
      → CrashLeaves new.file c → Early at gate bytes (bytes_of d.file) (CrashLeaves d.file) c
  unfolding Stopped
  early_stop plan new (inl one) c left = at_one d.file at gate bytes room (CrashLeaves new.file) one.torn c left
  early_stop plan new (inr (_, inl two)) c left = after_one d.file at gate bytes room c (two.torn c left)
  early_stop plan new (inr (_, inr (_, inl three))) c left =
      at_three d.file at gate bytes room (CrashLeaves new.file) three.torn c left
  early_stop plan new (inr (_, inr (_, inr (_, inl four)))) c left =
      after_three d.file at gate bytes room c (four.torn c left)
  early_stop plan new (inr (_, inr (_, inr (_, inr rest)))) c left = absurd rest.1

  pub fifth_stop : IsTrue d.can_cut → (plan : ℕ → Option (List ℕ)) (new : Device) → Stopped (take 5 calls) plan d new
      → (c : List ℕ) → CrashLeaves new.file c → Early at gate bytes (bytes_of d.file) (CrashLeaves d.file) c
  unfolding Stopped
  fifth_stop can plan new (inl one) c left = at_one d.file at gate bytes room (CrashLeaves new.file) one.torn c left
  fifth_stop can plan new (inr (_, inl two)) c left = after_one d.file at gate bytes room c (two.torn c left)
  fifth_stop can plan new (inr (_, inr (_, inl three))) c left =
      at_three d.file at gate bytes room (CrashLeaves new.file) three.torn c left
  fifth_stop can plan new (inr (_, inr (_, inr (_, inl four)))) c left =
      after_three d.file at gate bytes room c (four.torn c left)
  fifth_stop can plan new (inr (_, inr (_, inr (_, inr (_, inl five))))) c left =
      after_three d.file at gate bytes room c
      (synced-shrinks _ c (settled-shrinks _ _ c
      (subst (λ (f : List Cell). CrashLeaves f c) (five.failed.settles can) left)))
  fifth_stop can plan new (inr (_, inr (_, inr (_, inr (_, inr rest))))) c left = absurd rest.1

  pub stop : (plan : ℕ → Option (List ℕ)) (new : Device) → Stopped calls plan d new → (c : List ℕ)
      → CrashLeaves new.file c → Early at gate bytes (bytes_of d.file) (CrashLeaves d.file) c
      ⊎ Late at bytes (bytes_of d.file) c
  unfolding Stopped
  stop plan new (inl one) c left = inl (at_one d.file at gate bytes room (CrashLeaves new.file) one.torn c left)
  stop plan new (inr (_, inl two)) c left = inl (after_one d.file at gate bytes room c (two.torn c left))
  stop plan new (inr (_, inr (_, inl three))) c left =
      inl (at_three d.file at gate bytes room (CrashLeaves new.file) three.torn c left)
  stop plan new (inr (_, inr (_, inr (_, inl four)))) c left =
      inl (after_three d.file at gate bytes room c (four.torn c left))
  stop plan new (inr (_, inr (_, inr (_, inr (_, inl five))))) c left =
      inr (at_five d.file at gate bytes room (CrashLeaves new.file) five.torn c left)
  stop plan new (inr (_, inr (_, inr (_, inr (_, inr (_, inl six)))))) c left =
      inr (after_five d.file at gate bytes room c (six.torn c left))
  stop plan new (inr (_, inr (_, inr (_, inr (_, inr (_, inr rest)))))) c left = absurd rest.1
