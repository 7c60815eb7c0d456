-- What a disk keeps over calls that pass and that fail, and over a crash.
use Rattle.std.proofs.Common.{◌≡◌, ◌+◌, ◌-◌, ◌<◌, ◌≤◌, ℕ, suc, zero, List, [], ◌∷◌, ◌++◌, length, take, ◌⊎◌, inl, inr, ⊎_elim, refl, sym, subst, ap, arith}
use Rattle.std.proofs.Math.Seq.{take-append-add}
use Rattle.std.proofs.lemmas.Bool.{cases_lt}
use Rattle.std.proofs.lemmas.List.{length-append, take-append-le}
use Rattle.disk.specs.declared.cells.Cell.{Cell}
use Rattle.disk.specs.Device.{Device, passed}
use Rattle.disk.specs.File.{CrashLeaves, bytes_of, settled_file}
use Rattle.disk.proofs.Crashes.{crash-leaves-bytes_of, settled-only, settled-shrinks}
use Rattle.checkpoint.specs.Calls.{DeviceCall, after, changed}
use Rattle.checkpoint.specs.Commit.{IsCommit, IsOpening, opening}
use Rattle.checkpoint.specs.Format.{IsStore}
use Rattle.checkpoint.specs.Moments.{KeepsEither, Moments, Openings}
use Rattle.checkpoint.specs.Store.{KeepsRecord, ReadsAsStore}
use Rattle.checkpoint.specs.declared.record.CheckpointRecord.{CheckpointRecord}
use Rattle.checkpoint.specs.declared.record.SlotId.TheVariants.{Large}
use Rattle.checkpoint.proofs.Kept.{before_or_after, kept_all_along}
use Rattle.checkpoint.proofs.Opened.{new_kept}
use Rattle.table_laws.proofs.Lists.{same_or}
use Rattle.world_steps.specs.Houses.{halted, made}

-- what isn't synced settles
pub settled_keeps : (f : List Cell) (bytes : List ℕ) (n : ℕ) (r : CheckpointRecord) → KeepsRecord f n r
    → KeepsRecord (settled_file f bytes) n r
settled_keeps f bytes n r k = record { slot = k.slot; each = λ c m. k.each c (settled-shrinks f bytes c m) }

-- a file of which a crash leaves one content alone keeps what that reads as
one_content : (f : List Cell) (n : ℕ) (r : CheckpointRecord) → ((c : List ℕ) → CrashLeaves f c → c ≡ bytes_of f)
    → ReadsAsStore (bytes_of f) n r → KeepsRecord f n r
one_content f n r only reads = record {
  slot = reads.0;
  each = λ c m. subst (λ (l : List ℕ). IsStore l reads.0 n r) (sym (only c m)) reads.1;
}

-- so settling decides between two readings
settled_one : (f : List Cell) (bytes : List ℕ) (n m : ℕ) (r s : CheckpointRecord)
    → ((c : List ℕ) → CrashLeaves f c → ReadsAsStore c n r ⊎ ReadsAsStore c m s)
    → KeepsRecord (settled_file f bytes) n r ⊎ KeepsRecord (settled_file f bytes) m s
settled_one f bytes n m r s either =
    ⊎_elim
    (λ x. inl (one_content (settled_file f bytes) n r (settled-only f bytes) x))
    (λ x. inr (one_content (settled_file f bytes) m s (settled-only f bytes) x))
    (either (bytes_of (settled_file f bytes))
    (settled-shrinks f bytes (bytes_of (settled_file f bytes)) (crash-leaves-bytes_of (settled_file f bytes))))

-- and between two records
settled_decides : (f : List Cell) (bytes : List ℕ) (n : ℕ) (r s : CheckpointRecord) → KeepsEither f n r s
    → KeepsRecord (settled_file f bytes) n r ⊎ KeepsRecord (settled_file f bytes) (n + 1) s
settled_decides f bytes n r s either =
    settled_one f bytes n (n + 1) r s (λ c left.
    ⊎_elim (λ x. inl (Large x.0, x.1)) (λ x. inr (Large x.0, x.1)) (either c left))

module _ (d : Device) (n : ℕ) (r s : CheckpointRecord) (calls : List DeviceCall) (keeps : KeepsRecord d.file n r)
    (commit : IsCommit (bytes_of d.file) n r s calls) where
  moments : Moments d n r s calls
  moments = before_or_after d n r s calls keeps commit

  six : length calls ≡ 6
  six = ap length commit.same

  -- a commit of which all calls passed
  pub committed : KeepsRecord (made d calls).file (n + 1) s
  committed = new_kept moments.done

  -- one of which a call failed
  pub cut_off : (k : ℕ) (bytes : List ℕ) → k < length calls
      → KeepsRecord (halted d calls k bytes).file n r ⊎ KeepsRecord (halted d calls k bytes).file (n + 1) s
  cut_off k bytes within = ⊎_elim
      (λ (last : k ≡ 5). rw last (settled_decides (after d (take 5 calls)).file bytes n r s moments.fifth))
      (λ (other : k ≡ 5 → ⊥). let early : k ≤ 4 =
      grind (arith, within, six, other) in inl
      (settled_keeps (after d (take k calls)).file bytes n r (new_kept (moments.early k early))))
      (same_or k 5)

module _ (d : Device) (n : ℕ) (r : CheckpointRecord) (keeps : KeepsRecord d.file n r) where
  -- an opening that reads, and no more
  pub read_keeps : KeepsRecord (made d opening).file n r
  unfolding after
  read_keeps = keeps

  pub read_fails : (bytes : List ℕ) (k : ℕ) → k < length opening → KeepsRecord (halted d opening k bytes).file n r
  unfolding after
  read_fails bytes zero within = settled_keeps d.file bytes n r keeps
  read_fails bytes (suc k) within = absurd (omega (arith, within))

-- calls behind others
after-append : (d : Device) (calls more : List DeviceCall) → after d (calls ++ more) ≡ after (after d calls) more
unfolding after
after-append d [] more = refl
after-append d (call ∷ calls) more = after-append (passed d (changed d.file call)) calls more

-- an opening of a store
module _ (d : Device) (n : ℕ) (r : CheckpointRecord) (keeps : KeepsRecord d.file n r) (counts : ℕ)
    (opens : List DeviceCall) (is : IsOpening (bytes_of d.file) n r counts opens) where
  openings : Openings d n r counts opens
  openings = kept_all_along d n r counts opens keeps is

  -- it keeps the record, of some sequence
  abbrev Keeps : List Cell → CheckpointRecord → Type 0
  Keeps f s = (m : ℕ) × KeepsRecord f m s

  half_settled : (k : ℕ) (bytes : List ℕ) → k ≤ length opens
      → Keeps (settled_file (after d (take k opens)).file bytes) r
  half_settled k bytes within =
      ⊎_elim (λ old. (n, old)) (λ new. (counts, new))
      (settled_one (after d (take k opens)).file bytes n counts r r (openings.kept k within))

  pub opens_cut_off : (k : ℕ) (bytes : List ℕ) → k < length opens → Keeps (halted d opens k bytes).file r
  opens_cut_off k bytes within = half_settled k bytes (omega (arith, within))

  -- a record is committed behind it
  module _ (s : CheckpointRecord) (calls : List DeviceCall)
      (commit : IsCommit (bytes_of (after d opens).file) counts r s calls) where
    then_kept : KeepsRecord (after d opens).file counts r
    then_kept = new_kept openings.done

    pub opening_committed : KeepsRecord (made d (opens ++ calls)).file (counts + 1) s
    opening_committed =
        subst (λ (x : Device). KeepsRecord x.file (counts + 1) s) (sym (after-append d opens calls))
        (committed (after d opens) counts r s calls then_kept commit)

    behind : (j : ℕ) (bytes : List ℕ) → j < length calls
        → Keeps (settled_file (after d (take (length opens + j) (opens ++ calls))).file bytes) r
        ⊎ KeepsRecord (settled_file (after d (take (length opens + j) (opens ++ calls))).file bytes) (counts + 1) s
    behind j bytes within =
        subst (λ (l : List DeviceCall). Keeps (settled_file (after d l).file bytes) r
        ⊎ KeepsRecord (settled_file (after d l).file bytes) (counts + 1) s) (sym (take-append-add opens calls j))
        (subst (λ (x : Device). Keeps (settled_file x.file bytes) r
        ⊎ KeepsRecord (settled_file x.file bytes) (counts + 1) s) (sym (after-append d opens (take j calls)))
        (⊎_elim (λ old. inl (counts, old)) (λ new. inr new)
        (cut_off (after d opens) counts r s calls then_kept commit j bytes within)))

    pub opening_cut_off : (k : ℕ) (bytes : List ℕ) → k < length (opens ++ calls)
        → Keeps (halted d (opens ++ calls) k bytes).file r
        ⊎ KeepsRecord (halted d (opens ++ calls) k bytes).file (counts + 1) s
    opening_cut_off k bytes within = ⊎_elim
        (λ (early : k < length opens). inl
        (subst (λ (l : List DeviceCall). Keeps (settled_file (after d l).file bytes) r)
        (sym (take-append-le k opens calls (omega (arith, early)))) (half_settled k bytes (omega (arith, early)))))
        (λ (late : length opens ≤ k). (
        let both = length-append opens calls in
        let rest : k - length opens < length calls = omega (arith, late, within, both) in
        let same : length opens + (k - length opens) ≡ k = omega (arith, late) in
        subst (λ j. Keeps (settled_file (after d (take j (opens ++ calls))).file bytes) r
        ⊎ KeepsRecord (settled_file (after d (take j (opens ++ calls))).file bytes) (counts + 1) s) same
        (behind (k - length opens) bytes rest)))
        (cases_lt k (length opens))
