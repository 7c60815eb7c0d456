-- An opening of what a commit left.
use Rattle.std.proofs.Common.{◌≡◌, ◌≢◌, ◌⊎◌, inl, inr, ℕ, ◌+◌, suc, true, false, IsTrue, List, [], ◌∷◌, ◌++◌, length, Option, Result, Ok, Err, IfOk, IfErr, refl, sym, ◌∙◌, ap, subst}
use Rattle.disk.specs.Crash.{Only}
use Rattle.std.specs.Prelude.{not}
use Rattle.disk.specs.Device.{Arming, Device, Unarmed, armed_bytes, called, crashed, passed}
use Rattle.disk.specs.File.{CrashLeaves, bytes_of}
use Rattle.disk.proofs.Bytes.{crash-leaves-settled}
use Rattle.disk.proofs.Crashes.{crash-leaves-bytes_of, settled-only, synced-only}
use Rattle.checkpoint.specs.Calls.{DeviceCall, Passed, Stopped, after, changed}
use Rattle.checkpoint.specs.Pair.{is_open, slot}
use Rattle.checkpoint.specs.Commit.{IsOpening, is_new, is_old, migrating, opening}
use Rattle.checkpoint.specs.Format.{IsNew}
use Rattle.checkpoint.specs.Moments.{KeepsEither, ReadsAsNew}
use Rattle.checkpoint.specs.Store.{IsRefused, KeepsNew, KeepsRecord, Opened, ReadsAsStore}
use Rattle.checkpoint.specs.declared.record.CheckpointRecord.{CheckpointRecord}
use Rattle.checkpoint.specs.declared.record.StoreError.{StoreError}
use Rattle.checkpoint.specs.declared.record.StoreError.TheVariants.{Device as DeviceError, Spent, JobMismatch, Damaged, Version}
use Rattle.checkpoint.specs.declared.record.SlotId.TheVariants.{Small, Large}
use Rattle.checkpoint.proofs.Opened.{new_kept, one_reading, refused_own}
use Rattle.checkpoint.proofs.Reading.{one_store}

-- after a crash a read gives what it left
pub crash_reads : (old new : Device) → (IsTrue old.can_cut → new ≡ crashed old) → (old.can_cut ≡ false → new ≡ old)
    → CrashLeaves old.file (bytes_of new.file)
crash_reads old new cut uncut =
    (elim (old.can_cut) as (λ b. old.can_cut ≡ b → CrashLeaves old.file (bytes_of new.file)) [
      | true ↦ λ e. subst (λ (d : Device). CrashLeaves old.file (bytes_of d.file)) (sym (cut e))
          (crash-leaves-settled old.file (armed_bytes old.arming))
      | false ↦ λ e. subst (λ (d : Device). CrashLeaves old.file (bytes_of d.file)) (sym (uncut e))
          (crash-leaves-bytes_of old.file)
    ])
    refl

keeps_only : (d : Device) (sequence : ℕ) (r : CheckpointRecord) → Only (bytes_of d.file) (CrashLeaves d.file)
    → ReadsAsNew (bytes_of d.file) sequence r → KeepsNew d.file sequence r
keeps_only d sequence r only reads =
    record {
      second = reads.0;
      each = λ c left.
          subst (λ (l : List ℕ). IsNew l reads.0 sequence r) (sym (only c left)) reads.1;
    }

-- one of two records is kept on a device that was crashed
pub crash_keeps : (old new : Device) (sequence : ℕ) (before next : CheckpointRecord) → new ≡ crashed old
    → KeepsEither old.file sequence before next
    → KeepsNew new.file sequence before ⊎ KeepsNew new.file (sequence + 1) next
crash_keeps old new sequence before next is either =
    let only : Only (bytes_of new.file) (CrashLeaves new.file) =
    subst (λ (d : Device). Only (bytes_of d.file) (CrashLeaves d.file)) (sym is)
    (settled-only old.file (armed_bytes old.arming)) in
    let left : CrashLeaves old.file (bytes_of new.file) =
    subst (λ (d : Device). CrashLeaves old.file (bytes_of d.file)) (sym is)
    (crash-leaves-settled old.file (armed_bytes old.arming)) in
    elim (either (bytes_of new.file) left) [
      | inl reads ↦ inl (keeps_only new sequence before only reads)
      | inr reads ↦ inr (keeps_only new (sequence + 1) next only reads)
    ]

-- what is opened was read
abbrev pub IsOpenedBy : {D : Type 0} → (D → Device) → Device → (ℕ → Option (List ℕ)) → (D → ℕ → Option (List ℕ))
    → Opened D → Type 0
IsOpenedBy device d plan planned s =
    (n : ℕ) × (calls : List DeviceCall) × IsOpening (bytes_of d.file) n s.«record» s.sequence calls
    × Passed calls plan d (device s.disk) × ((i : ℕ) → planned s.disk i ≡ plan (i + length calls))

pub opening_reads : (file : List ℕ) (n m : ℕ) (r : CheckpointRecord) (calls : List DeviceCall)
    → IsOpening file n r m calls → ReadsAsStore file n r
opening_reads file n m r calls (is_new second new same are) = (Large second, new)
opening_reads file n m r calls (is_old second moves migration same are) = (Small second, migration.current)

as_store : (file : List ℕ) (n : ℕ) (r : CheckpointRecord) → ReadsAsNew file n r → ReadsAsStore file n r
as_store file n r reads = (Large reads.0, reads.1)

module _ {D : Type 0} (device : D → Device) (planned : D → ℕ → Option (List ℕ)) (d : Device) (plan : ℕ
    → Option (List ℕ)) where
  pub opened_either : (r : Result (Opened D) (StoreError × D)) (sequence : ℕ) (before next : CheckpointRecord) →
      IfOk r (IsOpenedBy device d plan planned)
      → ReadsAsNew (bytes_of d.file) sequence before ⊎ ReadsAsNew (bytes_of d.file) (sequence + 1) next →
      IfOk r (λ s. (s.«record» ≡ before) ⊎ (s.«record» ≡ next))
  opened_either (Ok s) sequence before next by (inl reads) =
      inl (one_reading (bytes_of d.file) by.0 sequence s.«record» before
      (opening_reads (bytes_of d.file) by.0 s.sequence s.«record» by.1 by.2)
      (as_store (bytes_of d.file) sequence before reads)).1
  opened_either (Ok s) sequence before next by (inr reads) =
      inr (one_reading (bytes_of d.file) by.0 (sequence + 1) s.«record» next
      (opening_reads (bytes_of d.file) by.0 s.sequence s.«record» by.1 by.2)
      (as_store (bytes_of d.file) (sequence + 1) next reads)).1
  opened_either (Err e) sequence before next by either = tt

  pub opened_one : (r : Result (Opened D) (StoreError × D)) (sequence : ℕ) (next : CheckpointRecord) →
      IfOk r (IsOpenedBy device d plan planned) → ReadsAsNew (bytes_of d.file) sequence next
      → IfOk r (λ s. s.«record» ≡ next)
  opened_one (Ok s) sequence next by reads =
      (one_reading (bytes_of d.file) by.0 sequence s.«record» next
      (opening_reads (bytes_of d.file) by.0 s.sequence s.«record» by.1 by.2)
      (as_store (bytes_of d.file) sequence next reads)).1
  opened_one (Err e) sequence next by reads = tt

-- what is opened after a crash isn't armed, and keeps what is read
abbrev pub IsUnarmed : Device → Type 0
IsUnarmed d = (d.arming ≡ Unarmed) × Only (bytes_of d.file) (CrashLeaves d.file)

-- whatever the calls by which it was opened
still_unarmed : (d : Device) (n m : ℕ) (r : CheckpointRecord) (calls : List DeviceCall) → IsUnarmed d
    → IsOpening (bytes_of d.file) n r m calls → IsUnarmed (after d calls)
unfolding after
still_unarmed d n m r calls is (is_new second new same are) =
    let read : IsUnarmed (after d opening) = (ap called is.0, is.1) in
    subst (λ (l : List DeviceCall). IsUnarmed (after d l)) (sym are) read
still_unarmed d n m r calls is (is_old second moves migration same are) =
    let all : calls ≡ opening ++ migrating migration.both second
    (is_open (slot 8 63 (not second) (bytes_of d.file))) migration.bytes =
    are ∙ ap (λ (l : List DeviceCall). opening ++ l) migration.same in
    let last : IsUnarmed (after d (opening
    ++ migrating migration.both second (is_open (slot 8 63 (not second) (bytes_of d.file))) migration.bytes)) =
    (eight_called d.arming is.0, λ c left. synced-only _ c left) in
    subst (λ (l : List DeviceCall). IsUnarmed (after d l)) (sym all) last
  where
    eight_called : (a : Arming) → a ≡ Unarmed
        → called (called (called (called (called (called (called (called (called a)))))))) ≡ Unarmed
    eight_called a e = ap (λ x. called (called (called (called (called (called (called (called (called x))))))))) e

pub opened_crashed : {D : Type 0} (device : D → Device) (planned : D → ℕ
    → Option (List ℕ)) (r : Result (Opened D) (StoreError × D)) (old new : Device) (plan : ℕ → Option (List ℕ)) →
    new ≡ crashed old → IfOk r (IsOpenedBy device new plan planned) → IfOk r (λ s. IsUnarmed (device s.disk))
opened_crashed device planned (Ok s) old new plan is by =
    let there : IsUnarmed new = subst IsUnarmed (sym is) (refl, settled-only old.file (armed_bytes old.arming)) in
    subst IsUnarmed (sym by.3.made) (still_unarmed new by.0 s.sequence s.«record» by.1 there by.2)
opened_crashed device planned (Err e) old new plan is by = tt

abbrev pub IsRefusal : {D : Type 0} → (D → Device) → Device → (ℕ → Option (List ℕ)) → ℕ → StoreError × D → Type 0
IsRefusal device d plan job e = e.0 ≢ DeviceError
    → IsRefused e.0 (bytes_of d.file) job × Passed opening plan d (device e.1)

-- one of several calls of it failed
stopped_unarmed : (calls : List DeviceCall) (plan : ℕ → Option (List ℕ)) (d new : Device) → d.arming ≡ Unarmed
    → Stopped calls plan d new → new.arming ≡ Unarmed
unfolding Stopped
stopped_unarmed [] plan d new is stop = absurd stop
stopped_unarmed (call ∷ calls) plan d new is (inl fails) = fails.failed.one_call ∙ ap called is
stopped_unarmed (call ∷ calls) plan d new is (inr rest) =
    stopped_unarmed calls (λ i. plan (suc i)) (passed d (changed d.file call)) new (ap called is) rest.1

abbrev pub IsStopping : {D : Type 0} → (D → Device) → Device → (ℕ → Option (List ℕ)) → StoreError × D → Type 0
IsStopping device d plan e = e.0 ≡ DeviceError
    → Stopped opening plan d (device e.1)
    ⊎ ((n m : ℕ) × (r : CheckpointRecord) × (calls : List DeviceCall) × IsOpening (bytes_of d.file) n r m calls
    × Stopped calls plan d (device e.1))

-- nor is what is given back
module _ (old new given : Device) (plan : ℕ → Option (List ℕ)) (is : new ≡ crashed old) where
  crashed_unarmed : new.arming ≡ Unarmed
  crashed_unarmed = ap (λ (d : Device). d.arming) is

  by_read : Passed opening plan new given → given.arming ≡ Unarmed
  unfolding after
  by_read passed = ap (λ (d : Device). d.arming) passed.made ∙ ap called crashed_unarmed

  unarmed_by : (e : StoreError) → (e ≢ DeviceError → Passed opening plan new given)
      → (e ≡ DeviceError → Stopped opening plan new given
      ⊎ ((n m : ℕ) × (r : CheckpointRecord) × (calls : List DeviceCall) × IsOpening (bytes_of new.file) n r m calls
      × Stopped calls plan new given)) → given.arming ≡ Unarmed
  unarmed_by DeviceError refused stopped = elim (stopped refl) as (λ s. given.arming ≡ Unarmed) [
    | inl stop ↦ stopped_unarmed opening plan new given crashed_unarmed stop
    | inr stop ↦ stopped_unarmed stop.3 plan new given crashed_unarmed stop.5
  ]
  unarmed_by Spent refused stopped = by_read (refused (λ e. cc))
  unarmed_by JobMismatch refused stopped = by_read (refused (λ e. cc))
  unarmed_by Damaged refused stopped = by_read (refused (λ e. cc))
  unarmed_by Version refused stopped = by_read (refused (λ e. cc))

pub back_crashed : {D : Type 0} (device : D
    → Device) (r : Result (Opened D) (StoreError × D)) (old new : Device) (plan : ℕ → Option (List ℕ)) (job : ℕ) →
    new ≡ crashed old → IfErr r (IsRefusal device new plan job) → IfErr r (IsStopping device new plan)
    → IfErr r (λ e. (device e.1).arming ≡ Unarmed)
back_crashed device (Ok s) old new plan job is refused stopped = tt
back_crashed device (Err e) old new plan job is refused stopped =
    unarmed_by old new (device e.1) plan is e.0 (λ n. (refused n).1) stopped

abbrev pub IsOpenedAgain : {D : Type 0} → (D → Device) → Device → Opened D → Type 0
IsOpenedAgain device d s = (n : ℕ) (r : CheckpointRecord) → KeepsRecord d.file n r
    → KeepsNew (device s.disk).file s.sequence s.«record» × (s.«record» ≡ r)

pub opened_kept : {D : Type 0} (device : D
    → Device) (r : Result (Opened D) (StoreError × D)) (d : Device) (n m : ℕ) (before next : CheckpointRecord) →
    IfOk r (IsOpenedAgain device d) → KeepsNew d.file n before ⊎ KeepsNew d.file m next
    → IfOk r (λ s. KeepsNew (device s.disk).file s.sequence s.«record»)
opened_kept device (Ok s) d n m before next kept (inl keeps) = (kept n before (new_kept keeps)).0
opened_kept device (Ok s) d n m before next kept (inr keeps) = (kept m next (new_kept keeps)).0
opened_kept device (Err e) d n m before next kept keeps = tt

-- a store of the newer form isn't refused for its sequence
device_alone : (e : StoreError) (file : List ℕ) (job n : ℕ) (s : CheckpointRecord) → s.job ≡ job → ReadsAsNew file n s
    → (e ≢ DeviceError → IsRefused e file job) → e ≡ DeviceError
device_alone e file job n s mine reads says = elim (refused_own e file job n s mine (as_store file n s reads) says) [
  | inl is ↦ is
  | inr is ↦ by_spent e is says
]
  where
    by_spent : (x : StoreError) → x ≡ Spent → (x ≢ DeviceError → IsRefused x file job) → x ≡ DeviceError
    by_spent x spent told =
        let old = subst (λ (y : StoreError). (y ≢ DeviceError → IsRefused y file job)) spent told (λ e. cc) in
        let same = (one_store file (Large reads.0) (Small old.second) n _ s old.found reads.1 old.old).0 in
        cc

pub refused_alone : {D : Type 0} (device : D → Device) (r : Result (Opened D) (StoreError × D)) (d : Device) (plan : ℕ
    → Option (List ℕ)) (job sequence : ℕ) (before next : CheckpointRecord) →
    IfErr r (IsRefusal device d plan job) → before.job ≡ job → next.job ≡ job
    → ReadsAsNew (bytes_of d.file) sequence before ⊎ ReadsAsNew (bytes_of d.file) (sequence + 1) next →
    IfErr r (λ e. e.0 ≡ DeviceError)
refused_alone device (Ok s) d plan job sequence before next says mine ours either = tt
refused_alone device (Err e) d plan job sequence before next says mine ours (inl reads) =
    device_alone e.0 (bytes_of d.file) job sequence before mine reads (λ n. (says n).0)
refused_alone device (Err e) d plan job sequence before next says mine ours (inr reads) =
    device_alone e.0 (bytes_of d.file) job (sequence + 1) next ours reads (λ n. (says n).0)
