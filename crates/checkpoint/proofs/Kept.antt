-- A commit and an opening at any moment.
use Rattle.std.proofs.Common.{◌≡◌, ◌⊎◌, inl, inr, ℕ, zero, suc, ◌+◌, ◌≤◌, Bool, true, false, List, ◌∷◌, ◌++◌, length, take, get_or, Option, refl, sym, ap, subst, arith}
use Rattle.std.proofs.lemmas.Bool.{cases_lt, eqb-true, eqb-false}
use Rattle.std.specs.List.{splice}
use Rattle.std.specs.Prelude.{not}
use Rattle.disk.specs.Device.{Device, passed}
use Rattle.disk.specs.File.{CrashLeaves, bytes_of}
use Rattle.disk.proofs.Bytes.{kept-or-free}
use Rattle.disk.proofs.Crashes.{crash-leaves-bytes_of}
use Rattle.checkpoint.specs.Calls.{DeviceCall, Stopped, after}
use Rattle.checkpoint.specs.Commit.{IsCommit, IsMigration, IsOpening, is_new, is_old, opening, publishing}
use Rattle.checkpoint.specs.Format.{HasMoved, IsBody, IsNew, IsOld, IsStore, SpellsLarge}
use Rattle.checkpoint.specs.Moments.{KeepsAt, Moments, Openings, ReadsAsNew}
use Rattle.checkpoint.specs.Pair.{is_open, place, slot, IsOpen}
use Rattle.checkpoint.specs.Store.{KeepsRecord, ReadsAsStore}
use Rattle.checkpoint.specs.declared.record.CheckpointRecord.{CheckpointRecord}
use Rattle.checkpoint.specs.declared.record.SlotId.{SlotId}
use Rattle.checkpoint.specs.declared.record.SlotId.TheVariants.{Small, Large}
use Rattle.checkpoint.proofs.Behind.{moved_kept}
use Rattle.checkpoint.proofs.Migrating.{Migrates, migrates}
use Rattle.checkpoint.proofs.Opened.{kept_new}
use Rattle.checkpoint.proofs.Pairs.{Keeps as KeepsFrame, Has, before_it, committed, either_of, place_within}
use Rattle.checkpoint.proofs.Passing.{Early, Late}
use Rattle.checkpoint.proofs.Publishing as moment
use Rattle.checkpoint.proofs.Reading.{one_store}

-- # A commit

framed : KeepsFrame 136 2111 HasMoved
framed target file c bytes is by = moved_kept file c by.size by.front is

from_new : (file : List ℕ) (second : Bool) (sequence : ℕ) (r : CheckpointRecord) → IsNew file second sequence r
    → Has SpellsLarge 136 2111 HasMoved file second sequence r
from_new file second sequence r is = (is.front, is.current)

to_new : (file : List ℕ) (second : Bool) (sequence : ℕ) (r : CheckpointRecord)
    → Has SpellsLarge 136 2111 HasMoved file second sequence r → IsNew file second sequence r
to_new file second sequence r has = record { front = has.0; current = has.1 }

-- a slot that was replaced, and opened
pub replaced_store : (file c bytes : List ℕ) (second : Bool) (sequence : ℕ) (r next : CheckpointRecord)
    → IsNew file second sequence r → IsBody bytes (sequence + 1) next
    → c ≡ splice file (place 136 2111 (not second)) (place 136 2111 (not second) + 1 + length bytes) (165 ∷ bytes)
    → IsNew c (not second) (sequence + 1) next × IsOpen (slot 136 2111 second c)
replaced_store file c bytes second sequence r next is body same =
    let made = committed SpellsLarge 136 2111 HasMoved framed file bytes c second sequence r next
    (from_new file second sequence r is) body.size body.spells same in
    (to_new c (not second) (sequence + 1) next made.0, made.1)

reads_open : (slot : List ℕ) → is_open slot ≡ true → IsOpen slot
reads_open slot e = eqb-true (get_or slot 0 0) 165 e

reads_closed : (slot : List ℕ) → is_open slot ≡ false → ¬ IsOpen slot
reads_closed slot e = eqb-false (get_or slot 0 0) 165 e

module _ (d : Device) (second : Bool) (sequence : ℕ) (before next : CheckpointRecord) (bytes : List ℕ)
    (each : (c : List ℕ) → CrashLeaves d.file c
    → IsNew c second sequence before) (body : IsBody bytes (sequence + 1) next) where
  abbrev file : List ℕ
  file = bytes_of d.file

  abbrev at : ℕ
  at = place 136 2111 (not second)

  abbrev gate : Bool
  gate = is_open (slot 136 2111 (not second) file)

  current : IsNew file second sequence before
  current = each file (crash-leaves-bytes_of d.file)

  room : at + 1 + length bytes ≤ length file
  room = let fits = place_within 136 2111 (not second) (length file) current.current.room in let size =
      body.size in omega (arith, fits, size)

  early : (c : List ℕ) → Early at gate bytes file (CrashLeaves d.file) c → IsNew c second sequence before
  early c is =
      to_new c second sequence before
      (before_it SpellsLarge 136 2111 HasMoved framed file bytes (CrashLeaves d.file) gate second sequence before
      (crash-leaves-bytes_of d.file) (λ x was. from_new x second sequence before (each x was))
      (kept-or-free d.file at) (reads_open (slot 136 2111 (not second) file))
      (reads_closed (slot 136 2111 (not second) file)) body.size c is)

  late : (c : List ℕ) → Late at bytes file c → ReadsAsNew c sequence before ⊎ ReadsAsNew c (sequence + 1) next
  late c is =
      elim (either_of SpellsLarge 136 2111 HasMoved framed file bytes second sequence before next
      (from_new file second sequence before current) body.size body.spells c is) [
        | inl old ↦ inl (second, to_new c second sequence before old)
        | inr new ↦ inr (not second, to_new c (not second) (sequence + 1) next new)
      ]

  done : (c : List ℕ) → c ≡ splice file at (at + 1 + length bytes) (165 ∷ bytes)
      → IsNew c (not second) (sequence + 1) next
  done c same = (replaced_store file c bytes second sequence before next current body same).0

  publishes : Moments d sequence before next (publishing at gate bytes)
  publishes = record {
    early = λ k h. record { second = second; each = λ c left. early c (moment.early d at gate bytes room k h c left) };
    early_stop = λ plan new stop. record {
      second = second;
      each = λ c left. early c (moment.early_stop d at gate bytes room plan new stop c left);
    };
    fifth_stop = λ can plan new stop. record {
      second = second;
      each = λ c left. early c (moment.fifth_stop d at gate bytes room can plan new stop c left);
    };
    fifth = λ c left. late c (moment.fifth d at gate bytes room c left);
    stop = λ plan new stop c left. elim (moment.stop d at gate bytes room plan new stop c left) [
      | inl is ↦ inl
          (second, early c is)
      | inr is ↦ late c is
    ];
    done = record { second = not second; each = λ c left. done c (moment.done d at gate bytes room c left) };
  }

-- the slot in which what is kept stands is the one that is read
pub kept_in : (d : Device) (at : SlotId) (sequence : ℕ) (r : CheckpointRecord) → IsStore (bytes_of d.file) at sequence r
    → KeepsRecord d.file sequence r → (c : List ℕ) → CrashLeaves d.file c → IsStore c at sequence r
kept_in d at sequence r store keeps c left =
    let same = one_store (bytes_of d.file) keeps.slot at sequence sequence r r
    (keeps.each (bytes_of d.file) (crash-leaves-bytes_of d.file)) store in
    subst (λ (x : SlotId). IsStore c x sequence r) same.0 (keeps.each c left)

pub before_or_after : (d : Device) (sequence : ℕ) (before next : CheckpointRecord) (calls : List DeviceCall)
    → KeepsRecord d.file sequence before → IsCommit (bytes_of d.file) sequence before next calls
    → Moments d sequence before next calls
before_or_after d sequence before next calls keeps commit =
    subst (λ (l : List DeviceCall). Moments d sequence before next l) (sym commit.same)
    (publishes d commit.second sequence before next commit.bytes
    (kept_in d (Large commit.second) sequence before commit.current keeps) commit.body)

-- # An opening

module _ (d : Device) (n : ℕ) (r : CheckpointRecord) (keeps : KeepsRecord d.file n r) where
  -- what is kept is read as it
  still : (m : ℕ) (c : List ℕ) → CrashLeaves d.file c → ReadsAsStore c n r ⊎ ReadsAsStore c m r
  still m c left = inl (keeps.slot, keeps.each c left)

  at_once : (second : Bool) → IsNew (bytes_of d.file) second n r → Openings d n r n opening
  unfolding after Stopped
  at_once second new = record { kept = kept; stop = stop; done = kept_new d.file second n n r r new keeps }
    where
      kept : (k : ℕ) → k ≤ 1 → KeepsAt (after d (take k opening)).file n n r
      kept zero h c left = still n c left
      kept (suc zero) h c left = still n c left
      kept (suc (suc k)) h c left = absurd (omega (arith, h))

      stop : (plan : ℕ → Option (List ℕ)) (new : Device) → Stopped opening plan d new → KeepsAt new.file n n r
      stop plan new (inl fails) c left = still n c (fails.torn c left)
      stop plan new (inr rest) c left = absurd rest.1

  module _ (second : Bool) (moves : List DeviceCall) (is : IsMigration (bytes_of d.file) second n r moves) where
    abbrev read : Device
    read = passed d d.file

    each : (c : List ℕ) → CrashLeaves d.file c → IsOld c second n r
    each c left = kept_in d (Small second) n r is.current keeps c left

    moved : Migrates read second n r moves
    moved =
        subst (λ (l : List DeviceCall). Migrates read second n r l) (sym is.same)
        (migrates read second (is_open (slot 8 63 (not second) (bytes_of d.file))) n r is.both is.bytes each refl
        is.large is.small.size (record { job = r.job; epoch = r.epoch; fields = is.small.fields }))

    eight : length moves ≡ 8
    eight = ap (λ (l : List DeviceCall). length l) is.same

    either : (c : List ℕ) → IsOld c second n r ⊎ IsNew c false 0 r → ReadsAsStore c n r ⊎ ReadsAsStore c 0 r
    either c (inl old) = inl (Small second, old)
    either c (inr new) = inr (Large false, new)

    all_calls : take 8 moves ≡ moves
    all_calls = subst (λ (l : List DeviceCall). take 8 l ≡ l) (sym is.same) refl

    after_moves : (k : ℕ) → k ≤ 8 → KeepsAt (after read (take k moves)).file n 0 r
    after_moves k few c left = elim (cases_lt k 7) [
      | inl early ↦ inl (Small second, moved.early k (omega (arith, early)) c left)
      | inr late ↦ elim (cases_lt k 8) [
        | inl less ↦ (let e : k ≡ 7 = omega (arith, late, less) in either c
            (moved.seventh c (subst (λ j. CrashLeaves (after read (take j moves)).file c) e left)))
        | inr more ↦ (let e : k ≡ 8 = omega (arith, few, more) in inr (
          Large false,
          (moved.done c (subst (λ (l : List DeviceCall). CrashLeaves (after read l).file c) all_calls
              (subst (λ j. CrashLeaves (after read (take j moves)).file c) e left))).0,
        ))
      ]
    ]

    migrated : Openings d n r 0 (opening ++ moves)
    unfolding after Stopped
    migrated = record {
      kept = kept;
      stop = stop;
      done = record { second = false; each = λ c left. (moved.done c left).0 };
    }
      where
        kept : (k : ℕ) → k ≤ length (opening ++ moves) → KeepsAt (after d (take k (opening ++ moves))).file n 0 r
        kept zero h c left = still 0 c left
        kept (suc k) h c left = after_moves k (let size = eight in omega (arith, h, size)) c left

        stop : (plan : ℕ → Option (List ℕ)) (new : Device) → Stopped (opening ++ moves) plan d new
            → KeepsAt new.file n 0 r
        stop plan new (inl fails) c left = still 0 c (fails.torn c left)
        stop plan new (inr rest) c left = either c (moved.stop (λ i. plan (suc i)) new rest.1 c left)

    -- what stands behind is closed then
    pub made_shut : (c : List ℕ) → CrashLeaves (after read moves).file c
        → IsNew c false 0 r × (IsOpen (slot 136 2111 true c) → ⊥)
    made_shut = moved.done

pub kept_all_along : (d : Device) (sequence : ℕ) (r : CheckpointRecord) (opened : ℕ) (calls : List DeviceCall)
    → KeepsRecord d.file sequence r → IsOpening (bytes_of d.file) sequence r opened calls
    → Openings d sequence r opened calls
kept_all_along d sequence r opened calls keeps (is_new second new same are) =
    subst (λ (l : List DeviceCall). Openings d sequence r opened l) (sym are)
    (subst (λ m. Openings d sequence r m opening) (sym same) (at_once d sequence r keeps second new))
kept_all_along d sequence r opened calls keeps (is_old second moves migration same are) =
    subst (λ (l : List DeviceCall). Openings d sequence r opened l) (sym are)
    (subst (λ m. Openings d sequence r m (opening ++ moves)) (sym same)
    (migrated d sequence r keeps second moves migration))
