-- An old store at each moment of its migration.
use Rattle.std.proofs.Common.{◌≡◌, ◌⊎◌, inl, inr, ℕ, zero, suc, ◌+◌, ◌≤◌, Bool, true, false, List, [], ◌∷◌, length, take, get_or, Option, sym, ◌∙◌, ap, subst, arith, lit≤, lit<}
use Rattle.std.proofs.lemmas.Bool.{eqb-true, eqb-false}
use Rattle.std.specs.List.{splice}
use Rattle.std.specs.Prelude.{not}
use Rattle.disk.specs.declared.cells.Cell.{Cell}
use Rattle.disk.specs.Crash.{Follows, Torn}
use Rattle.disk.specs.Device.{Device}
use Rattle.disk.specs.File.{CrashLeaves, bytes_of, synced, written_file}
use Rattle.disk.proofs.Bytes.{kept-or-free}
use Rattle.disk.proofs.Crashes.{bytes_of-synced, crash-leaves-bytes_of, synced-only, written-follows}
use Rattle.disk.proofs.Writes.{bytes_of-written}
use Rattle.std.proofs.lemmas.List.{length-map, take-take, get_or-take}
use Rattle.checkpoint.specs.Calls.{DeviceCall, Write, Sync, Stopped, after}
use Rattle.checkpoint.specs.Commit.{migrating, publishing}
use Rattle.checkpoint.specs.Pair.{IsCurrent, IsOpen, is_open, place, slot}
use Rattle.checkpoint.proofs.Pairs.{Keeps as KeepsFrame, Has, before_it, committed, either_of, place_within}
use Rattle.checkpoint.proofs.Passing.{Early, Late}
use Rattle.checkpoint.proofs.Publishing as moment
use Rattle.checkpoint.specs.Format.{IsBoth, IsMovedBody, IsNew, IsOld, SpellsLarge, SpellsSmall, name}
use Rattle.checkpoint.specs.declared.record.CheckpointRecord.{CheckpointRecord}
use Rattle.checkpoint.specs.declared.record.Entry.TheVariants.{Here, Moved}
use Rattle.checkpoint.proofs.Behind.{same_slots, large_slot, small_slot, behind_front, behind_size, still_old, torn_old, both_written, least}

reads_open : (slot : List ℕ) → is_open slot ≡ true → IsOpen slot
reads_open slot e = eqb-true (get_or slot 0 0) 165 e

reads_closed : (slot : List ℕ) → is_open slot ≡ false → ¬ IsOpen slot
reads_closed slot e = eqb-false (get_or slot 0 0) 165 e

-- what a crash leaves at each moment
pub record Migrates (d : Device) (second : Bool) (sequence : ℕ) (r : CheckpointRecord)
    (calls : List DeviceCall) : Type 0 where
  pub early : (k : ℕ) → k ≤ 6 → (c : List ℕ) → CrashLeaves (after d (take k calls)).file c → IsOld c second sequence r
  pub seventh : (c : List ℕ) → CrashLeaves (after d (take 7 calls)).file c
      → IsOld c second sequence r ⊎ IsNew c false 0 r
  pub stop : (plan : ℕ → Option (List ℕ)) (new : Device) → Stopped calls plan d new → (c : List ℕ)
      → CrashLeaves new.file c → IsOld c second sequence r ⊎ IsNew c false 0 r
  pub done : (c : List ℕ) → CrashLeaves (after d calls).file c → IsNew c false 0 r × (IsOpen (slot 136 2111 true c) → ⊥)

module _ (second : Bool) (sequence : ℕ) (r : CheckpointRecord) where
  -- while the small slots are changed, the large ones stand
  pub record Behind (file : List ℕ) : Type 0 where
    pub size : length file ≡ 4360
    pub named : take 7 file ≡ name
    pub version : get_or file 7 0 ≡ 1
    pub large : IsCurrent SpellsLarge 136 2111 file false 0 r
    pub shut : IsOpen (slot 136 2111 true file) → ⊥

  behind_kept : KeepsFrame 8 63 Behind
  behind_kept target file c bytes is by = record {
    size = by.size ∙ is.size;
    named = sym (take-take 7 8 c (lit≤ tt)) ∙ ap (λ (l : List ℕ). take 7 l) by.front ∙ take-take 7 8 file (lit≤ tt)
        ∙ is.named;
    version = sym (get_or-take 8 c 7 0 (lit< tt)) ∙ ap (λ (l : List ℕ). get_or l 7 0) by.front
        ∙ get_or-take 8 file 7 0 (lit< tt) ∙ is.version;
    large = same_slots SpellsLarge 136 2111 file c false 0 r (large_slot false file c by.behind)
        (large_slot true file c by.behind) (let size = by.size in let whole =
        is.size in omega (arith, size, whole)) is.large;
    shut = λ opened. is.shut (subst IsOpen (large_slot true file c by.behind) opened);
  }

  to_old : (file : List ℕ) → Has SpellsSmall 8 63 Behind file second sequence (Here r) → IsOld file second sequence r
  to_old file has = record {
    most = let size = has.0.size in omega (arith, size);
    named = has.0.named;
    version = has.0.version;
    current = has.1;
  }

  to_new : (file : List ℕ) (s : Bool) (q : ℕ) → Has SpellsSmall 8 63 Behind file s q Moved → IsNew file false 0 r
  to_new file s q has = record {
    front =
        record { size = has.0.size; named = has.0.named; version = has.0.version; second = s; moves = q; moved = has.1 };
    current = has.0.large;
  }

  -- what stands there at the end
  abbrev pub IsMade : List ℕ → Type 0
  IsMade file = IsNew file false 0 r × (IsOpen (slot 136 2111 true file) → ⊥)

  -- the six calls on the small slots
  module _ (d : Device) (gate : Bool) (bytes : List ℕ) (each : (c : List ℕ) → CrashLeaves d.file c
      → Has SpellsSmall 8 63 Behind c second sequence (Here r))
      (is : gate ≡ is_open (slot 8 63 (not second) (bytes_of d.file))) (body_size : length bytes ≡ 63)
      (says : SpellsSmall bytes (sequence + 1) Moved) where
    abbrev file : List ℕ
    file = bytes_of d.file

    abbrev at : ℕ
    at = place 8 63 (not second)

    current : Has SpellsSmall 8 63 Behind file second sequence (Here r)
    current = each file (crash-leaves-bytes_of d.file)

    room : at + 1 + length bytes ≤ length file
    room = let fits = place_within 8 63 (not second) (length file) current.1.room in omega (arith, fits, body_size)

    still : (c : List ℕ) → Early at gate bytes file (CrashLeaves d.file) c → IsOld c second sequence r
    still c early =
        to_old c
        (before_it SpellsSmall 8 63 Behind behind_kept file bytes (CrashLeaves d.file) gate second sequence (Here r)
        (crash-leaves-bytes_of d.file) each
        (kept-or-free d.file at) (λ e. reads_open (slot 8 63 (not second) file) (sym is ∙ e))
        (λ e. reads_closed (slot 8 63 (not second) file) (sym is ∙ e)) body_size c early)

    late : (c : List ℕ) → Late at bytes file c → IsOld c second sequence r ⊎ IsNew c false 0 r
    late c is_late =
        elim (either_of SpellsSmall 8 63 Behind behind_kept file bytes second sequence
        (Here r) Moved current body_size says c is_late) [
          | inl old ↦ inl (to_old c old)
          | inr new ↦ inr (to_new c (not second) (sequence + 1) new)
        ]

    pub small_early : (k : ℕ) → k ≤ 4 → (c : List ℕ) → CrashLeaves (after d (take k (publishing at gate bytes))).file c
        → IsOld c second sequence r
    small_early k h c left = still c (moment.early d at gate bytes room k h c left)

    pub small_fifth : (c : List ℕ) → CrashLeaves (after d (take 5 (publishing at gate bytes))).file c
        → IsOld c second sequence r ⊎ IsNew c false 0 r
    small_fifth c left = late c (moment.fifth d at gate bytes room c left)

    pub small_stop : (plan : ℕ → Option (List ℕ)) (new : Device) → Stopped (publishing at gate bytes) plan d new
        → (c : List ℕ) → CrashLeaves new.file c → IsOld c second sequence r ⊎ IsNew c false 0 r
    small_stop plan new stop c left = elim (moment.stop d at gate bytes room plan new stop c left) [
      | inl early ↦ inl
          (still c early)
      | inr is_late ↦ late c is_late
    ]

    pub small_done : (c : List ℕ) → CrashLeaves (after d (publishing at gate bytes)).file c → IsMade c
    small_done c left = let made = (committed SpellsSmall 8 63 Behind behind_kept file bytes c second sequence
        (Here r) Moved current body_size says (moment.done d at gate bytes room c left)).0 in (
          to_new c (not second)
              (sequence + 1) made,
          made.0.shut,
        )

length-bytes_of : (f : List Cell) → length (bytes_of f) ≡ length f
length-bytes_of f = length-map f (λ (x : Cell). x.byte)

-- the write behind the small slots, and its sync
module _ (d : Device) (second gate : Bool) (sequence : ℕ) (r : CheckpointRecord) (both bytes : List ℕ)
    (each : (c : List ℕ) → CrashLeaves d.file c → IsOld c second sequence r)
    (is : gate ≡ is_open (slot 8 63 (not second) (bytes_of d.file)))
    (written : IsBoth both r)
    (body_size : length bytes ≡ 63)
    (says : SpellsSmall bytes (sequence + 1) Moved) where
  abbrev calls : List DeviceCall
  calls = migrating both second gate bytes

  old : IsOld (bytes_of d.file) second sequence r
  old = each (bytes_of d.file) (crash-leaves-bytes_of d.file)

  long : 136 ≤ length (bytes_of d.file)
  long = least second sequence r (bytes_of d.file) old

  -- a write that is torn
  torn : (new : List ℕ → Type 0) → Follows (Torn 136 (length both)) (CrashLeaves d.file) new → (c : List ℕ) → new c
      → IsOld c second sequence r
  torn new follows c left = elim (follows c left) [
    | inl same ↦ each c same
    | inr from ↦ torn_old second sequence r from.0 c (each from.0 from.1)
        (subst (λ k. Torn 136 k from.0 c) written.size from.2)
  ]

  reaches : 136 ≤ length d.file
  reaches = let known = long in omega (arith, known, length-bytes_of d.file)

  abbrev middle : List Cell
  middle = written_file d.file 136 both

  after_one : (c : List ℕ) → CrashLeaves middle c → IsOld c second sequence r
  after_one = torn (CrashLeaves middle) (written-follows d.file 136 both reaches)

  abbrev second_device : Device
  second_device = after d (take 2 calls)

  abbrev whole : List ℕ
  whole = splice (bytes_of d.file) 136 (136 + 4224) both

  synced_is : bytes_of (synced middle) ≡ whole
  synced_is = bytes_of-synced middle ∙ bytes_of-written d.file 136 both
      ∙ ap (λ k. splice (bytes_of d.file) 136 (136 + k) both) written.size

  stands : Has SpellsSmall 8 63 (Behind second sequence r) whole second sequence (Here r)
  stands =
      let is_old = still_old second sequence r (bytes_of d.file) both (let size =
      written.size in omega (arith, size)) old in (
        record {
          size = behind_size (bytes_of d.file) both long old.most ∙ ap (λ k. 136 + k) written.size;
          named = is_old.named;
          version = is_old.version;
          large = (both_written second sequence r (bytes_of d.file) both long old.most written).0;
          shut = (both_written second sequence r (bytes_of d.file) both long old.most written).1;
        },
        is_old.current,
      )

  then_only : (c : List ℕ) → CrashLeaves (synced middle) c
      → Has SpellsSmall 8 63 (Behind second sequence r) c second sequence (Here r)
  then_only c left = subst (λ (l : List ℕ). Has SpellsSmall 8 63 (Behind second sequence r) l second sequence (Here r))
      (sym (synced-only middle c left ∙ synced_is)) stands

  gate_then : gate ≡ is_open (slot 8 63 (not second) (bytes_of (synced middle)))
  gate_then = is ∙ ap is_open (sym (ap (λ (l : List ℕ). slot 8 63 (not second) l) synced_is
      ∙ small_slot (not second) (bytes_of d.file) whole (behind_front (bytes_of d.file) both long)))

  early : (k : ℕ) → k ≤ 6 → (c : List ℕ) → CrashLeaves (after d (take k calls)).file c → IsOld c second sequence r
  unfolding after
  early zero h c left = each c left
  early (suc zero) h c left = after_one c left
  early (suc (suc k)) h c left = small_early second sequence r second_device gate bytes then_only gate_then body_size
      says k (omega (arith, h)) c left

  seventh : (c : List ℕ) → CrashLeaves (after d (take 7 calls)).file c → IsOld c second sequence r ⊎ IsNew c false 0 r
  unfolding after
  seventh c left = small_fifth second sequence r second_device gate bytes then_only gate_then body_size says c left

  stop : (plan : ℕ → Option (List ℕ)) (new : Device) → Stopped calls plan d new → (c : List ℕ) → CrashLeaves new.file c
      → IsOld c second sequence r ⊎ IsNew c false 0 r
  unfolding Stopped after
  stop plan new (inl one) c left = inl (torn (CrashLeaves new.file) one.torn c left)
  stop plan new (inr (_, inl two)) c left = inl (after_one c (two.torn c left))
  stop plan new (inr (_, inr (_, rest))) c left =
      small_stop second sequence r second_device gate bytes then_only gate_then body_size says
      (λ i. plan (suc (suc i))) new rest c left

  done : (c : List ℕ) → CrashLeaves (after d calls).file c → IsMade second sequence r c
  unfolding after
  done c left = small_done second sequence r second_device gate bytes then_only gate_then body_size says c left

  pub migrates : Migrates d second sequence r calls
  migrates = record { early = early; seventh = seventh; stop = stop; done = λ c left. done c left }

-- what is read of it at the end, where it is read so
module _ (d : Device) (second gate : Bool) (sequence : ℕ) (r : CheckpointRecord) (both bytes : List ℕ)
    (old : IsOld (bytes_of d.file) second sequence r) (written : IsBoth both r)
    (small : IsMovedBody bytes (sequence + 1) r.job r.epoch) where
  abbrev then : Device
  then = after d (Write 136 both ∷ Sync ∷ [])

  abbrev put : List ℕ
  put = splice (bytes_of d.file) 136 (136 + 4224) both

  put_is : bytes_of then.file ≡ put
  unfolding after
  put_is = bytes_of-synced (written_file d.file 136 both) ∙ bytes_of-written d.file 136 both
      ∙ ap (λ k. splice (bytes_of d.file) 136 (136 + k) both) written.size

  put_stands : Has SpellsSmall 8 63 (Behind second sequence r) put second sequence (Here r)
  put_stands =
      let far = least second sequence r (bytes_of d.file) old in
      let is_old = still_old second sequence r (bytes_of d.file) both (let size =
      written.size in omega (arith, size)) old in
      let large = both_written second sequence r (bytes_of d.file) both far old.most written in (
        record {
          size = behind_size (bytes_of d.file) both far old.most ∙ ap (λ k. 136 + k) written.size;
          named = is_old.named;
          version = is_old.version;
          large = large.0;
          shut = large.1;
        },
        is_old.current,
      )

  pub made_reads : IsMade second sequence r (bytes_of (after d (migrating both second gate bytes)).file)
  unfolding after
  made_reads =
      let at = place 8 63 (not second) in
      let fits = place_within 8 63 (not second) (length put) put_stands.1.room in
      let size = small.size in
      let long = ap (λ (l : List ℕ). length l) put_is in
      let room : at + 1 + length bytes ≤ length (bytes_of then.file) = omega (arith, fits, size, long) in
      let last = moment.done then at gate bytes room (bytes_of (after then (publishing at gate bytes)).file)
      (crash-leaves-bytes_of _) in
      let same = last ∙ ap (λ (l : List ℕ). splice l at (at + 1 + length bytes) (165 ∷ bytes)) put_is in
      let made = (committed SpellsSmall 8 63 (Behind second sequence r) (behind_kept second sequence r) put bytes
      (bytes_of (after d (migrating both second gate bytes)).file) second sequence (Here r) Moved put_stands size
      (record { job = r.job; epoch = r.epoch; fields = small.fields }) same).0 in (
        to_new second sequence r (bytes_of (after d (migrating both second gate bytes)).file) (not second)
            (sequence + 1) made,
        made.0.shut,
      )
