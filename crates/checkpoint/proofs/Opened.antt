-- What the bytes read tell of the file.
use Rattle.std.proofs.Common.{◌≡◌, ◌≢◌, ◌⊎◌, inl, inr, refl, ℕ, ◌≤◌, ◌-◌, ◌^◌, Bool, List, length, take, get_or, sym, ◌∙◌, ap, subst, arith, lit≤, lit<}
use Rattle.std.proofs.lemmas.List.{take_all, take-take, get_or-take, length-take}
use Rattle.disk.specs.declared.cells.Cell.{Cell}
use Rattle.disk.specs.File.{CrashLeaves, bytes_of}
use Rattle.disk.proofs.Crashes.{crash-leaves-bytes_of}
use Rattle.checkpoint.specs.Format.{IsNew, IsOld, IsStore}
use Rattle.checkpoint.specs.Store.{IsHeld, IsNamed, IsRefused, KeepsNew, KeepsRecord, ReadsAsStore}
use Rattle.checkpoint.specs.declared.record.CheckpointRecord.{CheckpointRecord}
use Rattle.checkpoint.specs.declared.record.SlotId.{SlotId}
use Rattle.checkpoint.specs.declared.record.SlotId.TheVariants.{Small, Large}
use Rattle.checkpoint.specs.declared.record.StoreError.{StoreError}
use Rattle.checkpoint.specs.declared.record.StoreError.TheVariants.{Spent, JobMismatch, Damaged, Device, Version}
use Rattle.checkpoint.proofs.Reading.{most_of, one_store, version_of}

-- one byte more than a store has was to be read
whole : (file : List ℕ) → length (take 4361 file) ≤ 4360 → take 4361 file ≡ file
whole file most = take_all 4361 file (omega (arith, most, length-take 4361 file))

store_read : (file bytes : List ℕ) (at : SlotId) (n : ℕ) (r : CheckpointRecord) → bytes ≡ take 4361 file
    → IsStore bytes at n r → bytes ≡ file
store_read file bytes at n r is store = let most =
    most_of bytes at n r store in is ∙ whole file (let size =
    ap (λ (l : List ℕ). length l) is in omega (arith, size, most))

pub held_read : (file bytes : List ℕ) (at : SlotId) (n : ℕ) (r : CheckpointRecord) (gate : Bool)
    → bytes ≡ take 4361 file → IsHeld bytes at n r gate → IsHeld file at n r gate
held_read file bytes at n r gate is held =
    subst (λ (l : List ℕ). IsHeld l at n r gate) (store_read file bytes at n r is held.store) held

named : (file : List ℕ) → IsNamed (take 4361 file) → IsNamed file
named file is = (omega (arith, is.0, length-take 4361 file), sym (take-take 7 4361 file (lit≤ tt)) ∙ is.1)

named_read : (file : List ℕ) → IsNamed file → IsNamed (take 4361 file)
named_read file is = (omega (arith, is.0, length-take 4361 file), take-take 7 4361 file (lit≤ tt) ∙ is.1)

version : (file : List ℕ) → get_or (take 4361 file) 7 0 ≡ get_or file 7 0
version file = get_or-take 4361 file 7 0 (lit< tt)

-- a store is read whole
all_read : (file : List ℕ) (at : SlotId) (n : ℕ) (r : CheckpointRecord) → IsStore file at n r → take 4361 file ≡ file
all_read file at n r is = let most = most_of file at n r is in take_all 4361 file (omega (arith, most))

pub refused_read : (e : StoreError) (file bytes : List ℕ) (job : ℕ) → bytes ≡ take 4361 file → IsRefused e bytes job
    → IsRefused e file job
refused_read Version file bytes job is says =
    let said = subst (λ (l : List ℕ). IsRefused Version l job) is says in
    (named file said.0, λ e. said.1 (version file ∙ e))
refused_read Damaged file bytes job is says =
    let said = subst (λ (l : List ℕ). IsRefused Damaged l job) is says in (
      (λ x. said.0 (named_read file x.0, λ e. x.1 (sym (version file) ∙ e))),
      (λ n r reads. said.1 n r (
        reads.0,
        subst (λ (l : List ℕ). IsStore l reads.0 n r)
            (sym (all_read file reads.0 n r reads.1)) reads.1,
      )),
    )
refused_read JobMismatch file bytes job is says =
    let reads = says.2 in (
      says.0,
      says.1,
      (
        reads.0,
        subst (λ (l : List ℕ). IsStore l reads.0 says.0 says.1)
            (store_read file bytes reads.0 says.0 says.1 is reads.1) reads.1,
      ),
      says.3,
    )
refused_read Spent file bytes job is says = record {
  second = says.second;
  found = says.found;
  old = subst (λ (l : List ℕ). IsOld l says.second (2 ^ 64 - 1) says.found)
      (store_read file bytes (Small says.second) (2 ^ 64 - 1) says.found is says.old) says.old;
  own = says.own;
}
refused_read Device file bytes job is says = absurd says

-- no such refusal comes of the device
pub not_by_device : (e : StoreError) (file : List ℕ) (job : ℕ) → IsRefused e file job → e ≡ Device → ⊥
not_by_device e file job says is = subst (λ x. IsRefused x file job) is says

-- what is read is what is kept
pub one_kept : (f : List Cell) (at : SlotId) (n m : ℕ) (r s : CheckpointRecord) → IsStore (bytes_of f) at n r
    → KeepsRecord f m s → (n ≡ m) × (r ≡ s)
one_kept f at n m r s store keeps =
    let same = one_store (bytes_of f) at keeps.slot n m r s store (keeps.each (bytes_of f) (crash-leaves-bytes_of f)) in
    (same.1, same.2)

pub kept_read : (f : List Cell) (at : SlotId) (n m : ℕ) (r s : CheckpointRecord) → IsStore (bytes_of f) at n r
    → KeepsRecord f m s → KeepsRecord f n r × (r ≡ s)
kept_read f at n m r s store keeps =
    let same = one_kept f at n m r s store keeps in
    (subst (λ x. KeepsRecord f x r) (sym same.0) (subst (λ x. KeepsRecord f m x) (sym same.1) keeps), same.1)

-- a store of the newer form is one
pub new_kept : {f : List Cell} {n : ℕ} {r : CheckpointRecord} → KeepsNew f n r → KeepsRecord f n r
new_kept keeps = record { slot = Large keeps.second; each = keeps.each }

-- and what is kept where such a one is read is one of the newer form
pub kept_new : (f : List Cell) (second : Bool) (n m : ℕ) (r s : CheckpointRecord) → IsNew (bytes_of f) second n r
    → KeepsRecord f m s → KeepsNew f m s
kept_new f second n m r s new keeps = by_slot keeps.slot keeps.each
  where
    by_slot : (at : SlotId) → ((c : List ℕ) → CrashLeaves f c → IsStore c at m s) → KeepsNew f m s
    by_slot (Large other) each = record { second = other; each = each }
    by_slot (Small other) each =
        let same = one_store (bytes_of f) (Large second) (Small other) n m r s new
        (each (bytes_of f) (crash-leaves-bytes_of f)) in
        let no : Large second ≡ Small other = same.0 in
        cc

-- two readings of one file
pub one_reading : (file : List ℕ) (n m : ℕ) (r s : CheckpointRecord) → ReadsAsStore file n r → ReadsAsStore file m s
    → (n ≡ m) × (r ≡ s)
one_reading file n m r s x y = let same = one_store file x.0 y.0 n m r s x.1 y.1 in (same.1, same.2)

-- a store of this job is refused by the device alone, or since its sequence is spent
pub refused_own : (e : StoreError) (file : List ℕ) (job n : ℕ) (s : CheckpointRecord) → s.job ≡ job
    → ReadsAsStore file n s → (e ≢ Device → IsRefused e file job) → (e ≡ Device) ⊎ (e ≡ Spent)
refused_own Device file job n s mine reads says = inl refl
refused_own Spent file job n s mine reads says = inr refl
refused_own Damaged file job n s mine reads says = absurd ((says (λ (e : Damaged ≡ Device). cc)).1 n s reads)
refused_own Version file job n s mine reads says =
    absurd ((says (λ (e : Version ≡ Device). cc)).1 (version_of file reads.0 n s reads.1))
refused_own JobMismatch file job n s mine reads says =
    let other = says (λ (e : JobMismatch ≡ Device). cc) in
    absurd (other.3 (ap (λ (x : CheckpointRecord). x.job) (one_reading file other.0 n other.1 s other.2 reads).1
    ∙ mine))
