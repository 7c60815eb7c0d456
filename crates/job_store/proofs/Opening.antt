-- What is opened of a disk that was made, or that was there.
use Rattle.std.proofs.Common.{◌≡◌, ◌≢◌, ◌⊎◌, inl, inr, ℕ, ◌-◌, ◌^◌, ◌==◌, true, false, List, [], ◌∷◌, length, take, Option, Result, Ok, Err, IfOk, IfErr, refl, sym, ap, subst, ◌∙◌}
use Rattle.disk.specs.Crash.{Only}
use Rattle.disk.specs.Device.{Device}
use Rattle.disk.specs.File.{CrashLeaves, bytes_of}
use Rattle.disk.proofs.Crashes.{crash-leaves-bytes_of}
use Rattle.checkpoint.specs.Calls.{Passed, after}
use Rattle.checkpoint.specs.Commit.{is_new, is_old, opening}
use Rattle.checkpoint.specs.Format.{IsFormatted, IsStore, fresh}
use Rattle.checkpoint.specs.Store.{IsRefused, IsSpentOld, KeepsNew, KeepsRecord, Opened, ReadsAsStore}
use Rattle.checkpoint.specs.declared.record.CheckpointRecord.{CheckpointRecord}
use Rattle.checkpoint.specs.declared.record.StoreError.{StoreError}
use Rattle.checkpoint.specs.declared.record.StoreError.TheVariants.{Device as DeviceError, Spent}
use Rattle.checkpoint.specs.declared.record.SlotId.TheVariants.{Small, Large}
use Rattle.checkpoint.proofs.Reading.{one_store}
use Rattle.checkpoint.proofs.Reopened.{IsOpenedBy, IsRefusal, opening_reads}

-- # A store that was made

-- whatever a crash leaves of it has the record of a job that has just begun
pub made_keeps : (d : Device) (job : ℕ) → ((c : List ℕ) → CrashLeaves d.file c → IsFormatted c job)
    → KeepsRecord d.file 0 (fresh job)
made_keeps d job left = record { slot = Large false; each = λ c leaves. (left c leaves).store }

pub made_reads : (d : Device) (job : ℕ) → ((c : List ℕ) → CrashLeaves d.file c → IsFormatted c job)
    → ReadsAsStore (bytes_of d.file) 0 (fresh job)
made_reads d job left = (Large false, (left (bytes_of d.file) (crash-leaves-bytes_of d.file)).store)

abbrev pub StaysKept : {D : Type 0} → (D → Device) → Device → Opened D → Type 0
StaysKept device d s = (n : ℕ) (r : CheckpointRecord) → KeepsRecord d.file n r
    → KeepsNew (device s.disk).file s.sequence s.«record» × (s.«record» ≡ r)

abbrev pub IsOpened : {D : Type 0} → (D → Device) → ℕ → Opened D → Type 0
IsOpened device job s = (s.ended ≡ false) × ReadsAsStore (bytes_of (device s.disk).file) s.sequence s.«record»
    × (s.«record».job ≡ job)

pub opened_made : {D : Type 0} (device : D → Device) (d : Device) (job : ℕ) (r : Result (Opened D) (StoreError × D))
    → KeepsRecord d.file 0 (fresh job) →
    IfOk r (IsOpened device job) → IfOk r (StaysKept device d)
    → IfOk r (λ s. (s.ended ≡ false) × (s.«record» ≡ fresh job))
opened_made device d job (Ok s) keeps opened stays = (opened.0, (stays 0 (fresh job) keeps).1)
opened_made device d job (Err e) keeps opened stays = tt

pub opened_keeps : {D : Type 0} (device : D → Device) (d : Device) (job : ℕ) (r : Result (Opened D) (StoreError × D))
    → KeepsRecord d.file 0 (fresh job) →
    IfOk r (StaysKept device d) → IfOk r (λ s. KeepsNew (device s.disk).file s.sequence s.«record»)
opened_keeps device d job (Ok s) keeps stays = (stays 0 (fresh job) keeps).0
opened_keeps device d job (Err e) keeps stays = tt

pub refused_made : {D : Type 0} (device : D → Device) (d : Device) (plan : ℕ
    → Option (List ℕ)) (job : ℕ) (r : Result (Opened D) (StoreError × D))
    → ((c : List ℕ) → CrashLeaves d.file c → IsFormatted c job) →
    IfErr r (IsRefusal device d plan job)
    → IfErr r (λ e. (n : ℕ) (x : CheckpointRecord) → ReadsAsStore (bytes_of d.file) n x → x.job ≡ job
    → (e.0 ≡ DeviceError) ⊎ (e.0 ≡ Spent)) → IfErr r (λ e. e.0 ≡ DeviceError)
refused_made device d plan job (Ok s) left refused alone = tt
refused_made device d plan job (Err e) left refused alone = elim (alone 0 (fresh job) (made_reads d job left) refl) [
  | inl is ↦ is
  | inr is ↦ (
      let old : IsSpentOld (bytes_of d.file) job =
      (subst (λ (x : StoreError). (x ≢ DeviceError
      → IsRefused x (bytes_of d.file) job × Passed opening plan d (device e.1))) is refused (λ no. cc)).0 in
      let same : Large false ≡ Small old.second =
      (one_store (bytes_of d.file) (Large false) (Small old.second) 0 (2 ^ 64 - 1) (fresh job) old.found
      (left (bytes_of d.file) (crash-leaves-bytes_of d.file)).store old.old).0 in
      cc)
]

-- and its sequence counts from 0
pub made_counts : {D : Type 0} (device : D → Device) (planned : D → ℕ → Option (List ℕ)) (d : Device) (plan : ℕ
    → Option (List ℕ)) (job : ℕ) (r : Result (Opened D) (StoreError × D))
    → ((c : List ℕ) → CrashLeaves d.file c → IsFormatted c job) →
    IfOk r (IsOpenedBy device d plan planned) → IfOk r (λ s. s.sequence ≡ 0)
made_counts device planned d plan job (Ok s) left by = elim (by.2) [
  | is_new second new counts only ↦
      counts ∙ sym (one_store (bytes_of d.file) (Large false) (Large second) 0 by.0 (fresh job) s.«record»
      (left (bytes_of d.file) (crash-leaves-bytes_of d.file)).store new).1
  | is_old second moves moving counts only ↦ counts
]
made_counts device planned d plan job (Err e) left by = tt

-- # A file that was there

-- where its first byte isn't there, it is empty
pub none_first : (bytes first : List ℕ) (n : ℕ) → first ≡ take 1 bytes → n ≡ length first → true ≡ n == 0 → bytes ≡ []
none_first [] first n is long none = refl
none_first (b ∷ bytes) first n is long none = let one : n ≡ 1 = long ∙ ap length is in let no : true ≡ (1 == 0) =
    rw one at none in cc

pub found_made : {D : Type 0} (bytes : List ℕ) (r : Result (Opened D) (StoreError × D)) → bytes ≡ []
    → IfOk r (λ s. bytes ≢ [] → (n : ℕ) × ReadsAsStore bytes n s.«record»)
found_made bytes (Ok s) none = λ some. absurd (some none)
found_made bytes (Err e) none = tt

-- what is opened was read
module _ {D : Type 0} (device : D → Device) (planned : D → ℕ → Option (List ℕ)) (before d : Device) (plan : ℕ
    → Option (List ℕ)) (same : d.file ≡ before.file) where
  read_before : (s : Opened D) → IsOpenedBy device d plan planned s
      → (n : ℕ) × ReadsAsStore (bytes_of d.file) n s.«record»
  read_before s by = (by.0, opening_reads (bytes_of d.file) by.0 s.sequence s.«record» by.1 by.2)

  pub opened_found : (r : Result (Opened D) (StoreError × D)) → IfOk r (IsOpenedBy device d plan planned)
      → IfOk r (λ s. bytes_of before.file ≢ [] → (n : ℕ) × ReadsAsStore (bytes_of before.file) n s.«record»)
  opened_found (Ok s) by = λ some. rw same at (read_before s by)
  opened_found (Err e) by = tt

  keeps_only : (n : ℕ) (r : CheckpointRecord) → Only (bytes_of d.file) (CrashLeaves d.file)
      → ReadsAsStore (bytes_of d.file) n r → KeepsRecord d.file n r
  keeps_only n r only reads = record {
    slot = reads.0;
    each = λ c left. subst (λ (l : List ℕ). IsStore l reads.0 n r) (sym (only c left)) reads.1;
  }

  pub found_keeps : (r : Result (Opened D) (StoreError × D)) → IfOk r (IsOpenedBy device d plan planned)
      → IfOk r (StaysKept device d) → IfOk r (λ s. Only (bytes_of before.file) (CrashLeaves before.file)
      → KeepsNew (device s.disk).file s.sequence s.«record»)
  found_keeps (Ok s) by stays = λ only. (let read =
      read_before s by in (stays read.0 s.«record» (keeps_only read.0 s.«record» (rw same only) read.1)).0)
  found_keeps (Err e) by stays = tt

refused_same : (d new before : Device) (plan : ℕ → Option (List ℕ)) → d.file ≡ before.file → Passed opening plan d new
    → new.file ≡ before.file
unfolding after
refused_same d new before plan same passed = ap (λ (x : Device). x.file) passed.made ∙ same

pub refused_found : {D : Type 0} (device : D → Device) (before d : Device) (plan : ℕ
    → Option (List ℕ)) (job : ℕ) (r : Result (Opened D) (StoreError × D)) → d.file ≡ before.file →
    IfErr r (λ e. e.0 ≢ DeviceError → IsRefused e.0 (bytes_of d.file) job × Passed opening plan d (device e.1)) →
    IfErr r (λ e. e.0 ≢ DeviceError → (device e.1).file ≡ before.file)
refused_found device before d plan job (Ok s) same refused = tt
refused_found device before d plan job (Err e) same refused =
    λ other. refused_same d (device e.1) before plan same (refused other).1

-- a store whose sequence has begun was read, and no more
abbrev pub IsCounted : {D : Type 0} → (D → Device) → Device → Opened D → Type 0
IsCounted device before s = (s.sequence ≡ 0)
    ⊎ (ReadsAsStore (bytes_of before.file) s.sequence s.«record» × ((device s.disk).file ≡ before.file))

pub new_counted : {D : Type 0} (device : D → Device) (before : Device) (r : Result (Opened D) (StoreError × D))
    → IfOk r (λ s. s.sequence ≡ 0) → IfOk r (IsCounted device before)
new_counted device before (Ok s) none = inl none
new_counted device before (Err e) none = tt

pub opened_counted : {D : Type 0} (device : D → Device) (planned : D → ℕ
    → Option (List ℕ)) (before d : Device) (plan : ℕ → Option (List ℕ)) → d.file ≡ before.file
    → (r : Result (Opened D) (StoreError × D)) →
    IfOk r (IsOpenedBy device d plan planned) → IfOk r (IsCounted device before)
opened_counted device planned before d plan same (Ok s) by = elim (by.2) [
  | is_new second new counts only ↦ (
      let reads : ReadsAsStore (bytes_of d.file) s.sequence s.«record» =
      subst (λ n. ReadsAsStore (bytes_of d.file) n s.«record») (sym counts) (Large second, new) in
      let passed : Passed opening plan d (device s.disk) = subst (λ cs. Passed cs plan d (device s.disk)) only by.3 in
      inr (
        subst (λ f. ReadsAsStore (bytes_of f) s.sequence s.«record») same reads,
        refused_same d (device s.disk) before plan same passed,
      ))
  | is_old second moves moving counts only ↦ inl counts
]
opened_counted device planned before d plan same (Err e) by = tt
