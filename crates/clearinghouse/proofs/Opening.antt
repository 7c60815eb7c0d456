-- An opening of a clearinghouse over a disk.
use Rattle.std.proofs.Common.{◌≡◌, ◌≢◌, ◌↔◌, ◌⊎◌, inl, inr, ◌+◌, ◌-◌, ◌<◌, ◌^◌, ℕ, Bool, true, false, ◌&&◌, nat_lt, List, [], ◌++◌, length, Option, None, Some, Result, Ok, Err, IfErr, IfOk, refl, sym, ap, ◌∙◌, subst, cond, arith}
use Rattle.std.proofs.lemmas.Bool.{le-ltb, lt-ltb}
use Rattle.std.specs.Prelude.{IsErrOf}
use Rattle.disk.specs.Device.{Device}
use Rattle.disk.specs.File.{bytes_of}
use Rattle.checkpoint.specs.Calls.{DeviceCall, Passed, Stopped as HasStopped, after}
use Rattle.checkpoint.specs.Commit.{IsCommit, IsOpening, is_new, is_old, next_of, opening}
use Rattle.checkpoint.specs.Moments.{KeepsEither}
use Rattle.checkpoint.specs.Store.{IsRefused, IsSpent, IsSpentOld, KeepsContent, KeepsNew, KeepsRecord, LookedAt, Opened, ReadsAsStore}
use Rattle.checkpoint.specs.declared.record.SlotId.TheVariants.{Small, Large}
use Rattle.checkpoint.specs.declared.record.CheckpointRecord.{CheckpointRecord as Stored}
use Rattle.checkpoint.specs.declared.record.StoreError.{StoreError}
use Rattle.checkpoint.specs.declared.record.StoreError.TheVariants as store_error
use Rattle.checkpoint.proofs.Chains.{both_later, passed_both, read_file, stop_later}
use Rattle.serial_meaning.specs.Job.{JobOf}
use Rattle.clearinghouse.specs.Calls.{can_begin, next_epoch}
use Rattle.clearinghouse.specs.Errors.{error_of_store}
use Rattle.clearinghouse.specs.House.{HouseOf, Kept, Open, opened}
use Rattle.clearinghouse.specs.Meeting.{IsFoundFor, IsLast, IsOpen, IsOpened, IsRefusedOver, KeepsOneOf, Openable, kept_in, record_of}
use Rattle.clearinghouse.specs.declared.error.HouseError.TheVariants as error
use Rattle.clearinghouse.proofs.Keeping.{opened_house}

-- what a commit answers
abbrev pub IsErr : StoreError → StoreError → Type 0
IsErr e f = IsErrOf {T = Unit {0}} (Err e) f

-- a commit is refused by the device, or where none can be counted
pub refused_alone : (e : StoreError) → IsErr e store_error.Spent ⊎ IsErr e store_error.Device
    → (error_of_store e ≡ error.Device) ⊎ (error_of_store e ≡ error.Spent)
refused_alone e (inl by) = let is : e ≡ store_error.Spent = cc in inr (ap error_of_store is)
refused_alone e (inr by) = let is : e ≡ store_error.Device = cc in inl (ap error_of_store is)

-- what passed isn't refused
pub not_refused : {done : Unit {0}} (e : StoreError) → ¬ IsErrOf (Ok done) e
not_refused e is = cc

-- of the two it is one
not_both : (e : StoreError) → e ≡ store_error.Device → ¬ IsErr e store_error.Spent
not_both e device spent = cc

-- no epoch follows
pub no_epoch : (sequence : ℕ) (r : Stored) → None ≡ cond (nat_lt (r.epoch + 1) (2 ^ 63)) (Some (r.epoch + 1)) None
    → can_begin (kept_in sequence r) ≡ false
no_epoch sequence r none = by_test (nat_lt (r.epoch + 1) (2 ^ 63)) none
  where
    by_test : (b : Bool) → None ≡ cond b (Some (r.epoch + 1)) None → (b && nat_lt (sequence + 1) (2 ^ 64)) ≡ false
    by_test true e = cc
    by_test false e = refl

-- this one does
pub an_epoch : (epoch next : ℕ) → Some next ≡ cond (nat_lt (epoch + 1) (2 ^ 63)) (Some (epoch + 1)) None
    → next ≡ epoch + 1
an_epoch epoch next some = by_test (nat_lt (epoch + 1) (2 ^ 63)) some
  where
    by_test : (b : Bool) → Some next ≡ cond b (Some (epoch + 1)) None → next ≡ epoch + 1
    by_test true e = cc
    by_test false e = cc

-- no commit follows
pub no_commit : (sequence : ℕ) (r : Stored) → sequence ≡ 2 ^ 64 - 1 → can_begin (kept_in sequence r) ≡ false
no_commit sequence r is = by_test (nat_lt (r.epoch + 1) (2 ^ 63))
  where
    spent : nat_lt (sequence + 1) (2 ^ 64) ≡ false
    spent = le-ltb (sequence + 1) (2 ^ 64) (omega arith)

    by_test : (b : Bool) → (b && nat_lt (sequence + 1) (2 ^ 64)) ≡ false
    by_test true = spent
    by_test false = refl

-- an epoch and a commit follow
pub both_left : (sequence next : ℕ) (r : Stored)
    → Some next ≡ cond (nat_lt (r.epoch + 1) (2 ^ 63)) (Some (r.epoch + 1)) None → sequence < 2 ^ 64
    → sequence ≢ 2 ^ 64 - 1 → can_begin (kept_in sequence r) ≡ true
both_left sequence next r some fits left = by_test (nat_lt (r.epoch + 1) (2 ^ 63)) some
  where
    counted : nat_lt (sequence + 1) (2 ^ 64) ≡ true
    counted = lt-ltb (sequence + 1) (2 ^ 64) (omega arith)

    by_test : (b : Bool) → Some next ≡ cond b (Some (r.epoch + 1)) None → (b && nat_lt (sequence + 1) (2 ^ 64)) ≡ true
    by_test true e = counted
    by_test false e = cc

-- what an answer tells, applied
pub ok_applied : {T E : Type 0} {P Q : T → Type 0} (r : Result T E) → ((x : T) → P x → Q x) → IfOk r P → IfOk r Q
ok_applied (Ok x) f p = f x p
ok_applied (Err e) f p = tt

pub err_applied : {T E : Type 0} {P Q : E → Type 0} (r : Result T E) → ((x : E) → P x → Q x) → IfErr r P → IfErr r Q
err_applied (Ok x) f p = tt
err_applied (Err e) f p = f e p

-- what the store refuses is told so
pub told_alone : (e : StoreError) → (e ≡ store_error.Device) ⊎ (e ≡ store_error.Spent)
    → (error_of_store e ≡ error.Device) ⊎ (error_of_store e ≡ error.Spent)
told_alone e (inl is) = inl (ap error_of_store is)
told_alone e (inr is) = inr (ap error_of_store is)

-- what is kept is what a crash leaves
pub kept_content : (d : Device) (n : ℕ) (r : Stored) → KeepsRecord d.file n r → KeepsContent d.file r
kept_content d n r keeps c left = (n, (keeps.slot, keeps.each c left))

pub as_content : (d : Device) (r other : Stored) → KeepsContent d.file r → KeepsOneOf d.file r other
as_content d r other keeps c left = let is = keeps c left in (is.0, inl is.1)

pub as_either : (d : Device) (n : ℕ) (r other : Stored) → KeepsEither d.file n r other → KeepsOneOf d.file r other
as_either d n r other keeps c left = elim (keeps c left) [
  | inl old ↦ (n, inl (Large old.0, old.1))
  | inr new_one ↦ (n + 1, inr (Large new_one.0, new_one.1))
]

module _ {D : Type 0} (device : D → Device) (planned : D → ℕ → Option (List ℕ)) (job : JobOf) (disk : D) where
  -- a store of the older form whose sequence is spent
  spent_old : (number : ℕ) → number ≡ job.number → IsSpentOld (bytes_of (device disk).file) number
      → IsLast device planned job disk
  spent_old number same is = record {
    sequence = 2 ^ 64 - 1;
    found = is.found;
    reads = (Small is.second, is.old);
    own = is.own ∙ same;
    last = no_commit (2 ^ 64 - 1) is.found refl;
  }

  -- a refusal of the store, as it is told
  pub refused_store : (e : StoreError) (left : D)
      → (e ≢ store_error.Device → IsRefused e (bytes_of (device disk).file) job.number
      × Passed opening (planned disk) (device disk) (device left))
      → (e ≡ store_error.Device → HasStopped opening (planned disk) (device disk) (device left))
      → IsRefusedOver device planned (error_of_store e) job disk left
  refused_store store_error.Spent left says stops = let said =
      says (λ (e : store_error.Spent ≡ store_error.Device). cc) in (spent_old job.number refl said.0, said.1)
  refused_store store_error.JobMismatch left says stops =
      says (λ (e : store_error.JobMismatch ≡ store_error.Device). cc)
  refused_store store_error.Damaged left says stops = says (λ (e : store_error.Damaged ≡ store_error.Device). cc)
  refused_store store_error.Device left says stops = inl (stops refl)
  refused_store store_error.Version left says stops = says (λ (e : store_error.Version ≡ store_error.Device). cc)

  -- a store that was read
  module _ (s : LookedAt D) (number : ℕ)
      (found : ReadsAsStore (bytes_of (device disk).file) s.sequence s.«record» × (s.«record».job ≡ number))
      (own : number ≡ job.number) (read : Passed opening (planned disk) (device disk) (device s.disk)) (plan : (i : ℕ)
      → planned s.disk i ≡ planned disk (i + length opening)) where
    same : (device s.disk).file ≡ (device disk).file
    same = read_file (planned disk) (device disk) (device s.disk) read

    -- no epoch is left
    pub last_epoch : None ≡ cond (nat_lt (s.«record».epoch + 1) (2 ^ 63)) (Some (s.«record».epoch + 1)) None
        → (left : D) → left ≡ s.disk → IsRefusedOver device planned error.Spent job disk left
    last_epoch none left is = (
      record {
        sequence = s.sequence;
        found = s.«record»;
        reads = found.0;
        own = found.1 ∙ own;
        last = no_epoch s.sequence s.«record» none;
      },
      subst (λ x. Passed opening (planned disk) (device disk) (device x)) (sym is) read,
    )

    module _ (epoch : ℕ) (some : Some epoch
        ≡ cond (nat_lt (s.«record».epoch + 1) (2 ^ 63)) (Some (s.«record».epoch + 1)) None)
        (fits : s.sequence < 2 ^ 64) where
      -- its calls, behind the read
      not_spent : (m : ℕ) (calls : List DeviceCall)
          → IsOpening (bytes_of (device disk).file) s.sequence s.«record» m (opening ++ calls) → (m ≡ 2 ^ 64 - 1 → ⊥)
          → can_begin (kept_in s.sequence s.«record») ≡ true
      not_spent m calls (is_new second new counts are) left =
          both_left s.sequence epoch s.«record» some fits (λ e. left (counts ∙ e))
      not_spent m calls (is_old second moves migration counts are) left =
          both_left s.sequence epoch s.«record» some fits migration.left

      is_spent : (m : ℕ) (calls : List DeviceCall) (left : D)
          → IsOpening (bytes_of (device disk).file) s.sequence s.«record» m (opening ++ calls)
          → Passed (opening ++ calls) (planned disk) (device disk) (device left) → m ≡ 2 ^ 64 - 1
          → (can_begin (kept_in s.sequence s.«record») ≡ false)
          × Passed opening (planned disk) (device disk) (device left)
      is_spent m calls left (is_new second new counts are) passed e = (
        no_commit s.sequence s.«record» (sym counts ∙ e),
        subst (λ l. Passed l (planned disk) (device disk) (device left)) are passed,
      )
      is_spent m calls left (is_old second moves migration counts are) passed e = let no : 0 ≡ 2 ^ 64 - 1 =
          sym counts ∙ e in absurd (omega (arith, no))

      -- a call by which it is opened fails
      stops_old : (m : ℕ) (calls : List DeviceCall) (plan : ℕ → Option (List ℕ)) (d e : Device)
          → IsOpening (bytes_of (device disk).file) s.sequence s.«record» m (opening ++ calls)
          → HasStopped calls plan d e → can_begin (kept_in s.sequence s.«record») ≡ true
      unfolding HasStopped
      stops_old m calls plan d e (is_old second moves migration counts are) stopped =
          both_left s.sequence epoch s.«record» some fits migration.left
      stops_old m calls plan d e (is_new second new counts are) stopped =
          let none : calls ≡ [] = cc in
          absurd (subst (λ l. HasStopped l plan d e) none stopped)

      -- so it isn't opened
      pub not_opened : (e : StoreError) (left : D) → (e ≡ store_error.Spent) ⊎ (e ≡ store_error.Device) →
          (e ≡ store_error.Spent → IsRefused store_error.Spent (bytes_of (device s.disk).file) s.«record».job
          × (left ≡ s.disk)) →
          (e ≡ store_error.Device → (m : ℕ) × (calls : List DeviceCall)
          × IsOpening (bytes_of (device s.disk).file) s.sequence s.«record» m (opening ++ calls)
          × HasStopped calls (planned s.disk) (device s.disk) (device left)) →
          IsRefusedOver device planned (error_of_store e) job disk left
      not_opened e left (inl is) spent stopped =
          let said = spent is in
          let old : IsSpentOld (bytes_of (device disk).file) s.«record».job =
          subst (λ f. IsSpentOld (bytes_of f) s.«record».job) same said.0 in
          subst (λ x. IsRefusedOver device planned (error_of_store x) job disk left) (sym is) (
            spent_old s.«record».job (found.1 ∙ own) old,
            subst (λ x. Passed opening (planned disk) (device disk) (device x)) (sym said.1) read,
          )
      not_opened e left (inr is) spent stopped =
          let stop = stopped is in
          let opens : IsOpening (bytes_of (device disk).file) s.sequence s.«record» stop.0 (opening ++ stop.1) =
          subst (λ f. IsOpening (bytes_of f) s.sequence s.«record» stop.0 (opening ++ stop.1)) same stop.2 in
          let all = stop_later opening stop.1 (planned disk) (planned s.disk) (device disk) (device s.disk)
          (device left) read plan stop.3 in
          subst (λ x. IsRefusedOver device planned (error_of_store x) job disk left) (sym is) (inr (record {
            way = record {
              sequence = s.sequence;
              found = s.«record»;
              reads = found.0;
              own = found.1 ∙ own;
              begins = stops_old stop.0 stop.1 (planned s.disk) (device s.disk) (device left) opens stop.3;
              counts = stop.0;
              opens = opening ++ stop.1;
              opening = opens;
            };
            calls = inl all;
          }))

      -- or it is
      pub is_found : (new : Opened D) →
          ((n : ℕ) (r : Stored) → KeepsRecord (device disk).file n r
          → KeepsRecord (device s.disk).file s.sequence s.«record» × (s.«record» ≡ r)) →
          (new.ended ≡ false) × (new.«record» ≡ s.«record»)
          × ReadsAsStore (bytes_of (device new.disk).file) new.sequence new.«record» →
          ((calls : List DeviceCall) × IsOpening (bytes_of (device s.disk).file) s.sequence s.«record» new.sequence
          (opening ++ calls) × Passed calls (planned s.disk) (device s.disk) (device new.disk)
          × ((i : ℕ) → planned new.disk i ≡ planned s.disk (i + length calls))) →
          (KeepsRecord (device s.disk).file s.sequence s.«record»
          → KeepsNew (device new.disk).file new.sequence new.«record») →
          IsFoundFor device planned job disk new epoch
      is_found new keeps opened made kept =
          let back = sym opened.1 in
          let opens : IsOpening (bytes_of (device disk).file) s.sequence s.«record» new.sequence (opening ++ made.0) =
          subst (λ f. IsOpening (bytes_of f) s.sequence s.«record» new.sequence (opening ++ made.0)) same made.1 in
          let passed = passed_both opening made.0 (planned disk) (planned s.disk) (device disk) (device s.disk)
          (device new.disk) read plan made.2 in
          record {
            sequence = s.sequence;
            going = opened.0;
            reads = subst (λ (r : Stored). ReadsAsStore (bytes_of (device disk).file) s.sequence r) back found.0;
            own = ap (λ (r : Stored). r.job) opened.1 ∙ found.1 ∙ own;
            next = an_epoch s.«record».epoch epoch some ∙ ap (λ (r : Stored). r.epoch + 1) back;
            begins = λ left. subst (λ (r : Stored). can_begin (kept_in s.sequence r) ≡ true) back
                (not_spent new.sequence made.0 opens left);
            spent = λ e. (let is = is_spent new.sequence made.0 new.disk opens passed e in (
              subst
                  (λ (r : Stored). can_begin (kept_in s.sequence r) ≡ false) back is.0,
              is.1,
            ));
            opens = opening ++ made.0;
            opening = subst (λ (r : Stored). IsOpening (bytes_of (device disk).file) s.sequence r new.sequence
                (opening ++ made.0)) back opens;
            calls = passed;
            plan = λ i. made.3 i ∙ plan (i + length made.0) ∙ ap (planned disk) (omega arith);
            kept = λ n r k. (let was = keeps n r k in (kept was.0, opened.1 ∙ was.1));
          }

  -- the commit of its next epoch
  module _ (s : Opened D) (epoch : ℕ) (found : IsFoundFor device planned job disk s epoch) where
    abbrev way_of : can_begin (kept_in found.sequence s.«record») ≡ true → Openable job (device disk)
    way_of begins = record {
      sequence = found.sequence;
      found = s.«record»;
      reads = found.reads;
      own = found.own;
      begins = begins;
      counts = s.sequence;
      opens = found.opens;
      opening = found.opening;
    }

    abbrev next : Stored
    next = record_of job (next_epoch (kept_in s.sequence s.«record»))

    -- what is committed is of the next epoch
    pub next_is : (kept : Stored) (at : ℕ) → kept ≡ s.«record» → at ≡ epoch → next_of s.«record» at kept.outcome ≡ next
    next_is kept at same_kept same_at = cc (same_kept, same_at, found.next, found.own)

    behind : device s.disk ≡ after (device disk) found.opens
    behind = found.calls.made

    module _ (new : Opened D) (told : Stored) (same_next : told ≡ next) where
      -- the calls of its commit, over the file as it is opened
      commits : (calls : List DeviceCall) → IsCommit (bytes_of (device s.disk).file) s.sequence s.«record» told calls
          → IsCommit (bytes_of (after (device disk) found.opens).file) s.sequence s.«record» next calls
      commits calls is = subst (λ (d : Device). IsCommit (bytes_of d.file) s.sequence s.«record» next calls) behind
          (subst (λ n. IsCommit (bytes_of (device s.disk).file) s.sequence s.«record» n calls) same_next is)

      -- what is stored after it
      now_stored : new ≡ record { disk = new.disk; «record» = told; sequence = s.sequence + 1; ended = false }
          → new ≡ record { disk = new.disk; «record» = next; sequence = s.sequence + 1; ended = false }
      now_stored stored = stored ∙ ap (λ r. record {
        disk = new.disk;
        «record» = r;
        sequence = s.sequence + 1;
        ended = false;
      }) same_next

      -- a commit passed
      pub is_opened : (limit : ℕ) (h : HouseOf) → h ≡ opened limit (next_epoch (kept_in s.sequence s.«record»)) →
          new ≡ record { disk = new.disk; «record» = told; sequence = s.sequence + 1; ended = false } →
          ((calls : List DeviceCall) × IsCommit (bytes_of (device s.disk).file) s.sequence s.«record» told calls
          × Passed calls (planned s.disk) (device s.disk) (device new.disk)) →
          ((i : ℕ) → planned new.disk i ≡ planned s.disk (i + 6)) →
          (KeepsNew (device s.disk).file s.sequence s.«record»
          → KeepsNew (device new.disk).file new.sequence new.«record») →
          (IsSpent s → ⊥) →
          IsOpened device planned job limit disk (record { job = job; state = Open h; store = new })
      is_opened limit h is stored made plan kept unspent = record {
        way = way_of (found.begins (λ e. unspent (found.going, e)));
        house = ap (λ x. record { job = job; state = Open x; store = new }) is;
        stored = now_stored stored;
        calls = (
          made.0,
          commits made.0 made.1,
          passed_both found.opens made.0 (planned disk) (planned s.disk) (device disk) (device s.disk)
              (device new.disk) found.calls found.plan made.2,
        );
        plan = both_later (planned disk) (planned s.disk) (planned new.disk) (length found.opens) 6 found.plan plan;
        kept = λ keeps. kept (found.kept found.sequence s.«record» keeps).0;
      }

      -- why a commit didn't pass
      pub is_refused : (e : StoreError) (left : D) → left ≡ new.disk →
          IsErr e store_error.Spent ⊎ IsErr e store_error.Device →
          (IsErr e store_error.Spent ↔ IsSpent s) →
          (IsErr e store_error.Spent → new ≡ s) →
          (IsErr e store_error.Device → s.ended ≡ false
          → (calls : List DeviceCall) × IsCommit (bytes_of (device s.disk).file) s.sequence s.«record» told calls
          × HasStopped calls (planned s.disk) (device s.disk) (device new.disk)) →
          IsRefusedOver device planned (error_of_store e) job disk left
      is_refused e left same_left (inl by) spent unchanged stopped =
          let is : e ≡ store_error.Spent = cc in
          let last = found.spent (spent.0 by).1 in
          let same_disk : s.disk ≡ left = sym (same_left ∙ ap (λ (x : Opened D). x.disk) (unchanged by)) in
          subst (λ x. IsRefusedOver device planned (error_of_store x) job disk left) (sym is) (
            record {
              sequence = found.sequence;
              found = s.«record»;
              reads = found.reads;
              own = found.own;
              last = last.0;
            },
            subst (λ x. Passed opening (planned disk) (device disk) (device x)) same_disk last.1,
          )
      is_refused e left same_left (inr by) spent unchanged stopped =
          let is : e ≡ store_error.Device = cc in
          let unspent : s.sequence ≡ 2 ^ 64 - 1 → ⊥ = λ all. not_both e is (spent.1 (found.going, all)) in
          let stop = stopped by found.going in
          let all = stop_later found.opens stop.0 (planned disk) (planned s.disk) (device disk) (device s.disk)
          (device new.disk) found.calls found.plan stop.2 in
          subst (λ x. IsRefusedOver device planned (error_of_store x) job disk left) (sym is) (inr (record {
            way = way_of (found.begins unspent);
            calls = inr (
              stop.0,
              commits stop.0 stop.1,
              subst (λ x. HasStopped (found.opens ++ stop.0) (planned disk) (device disk) (device x))
                  (sym same_left) all,
            );
          }))

    -- what is kept where a commit failed
    pub still_either : (new : Opened D) (told : Stored) (left : D) → told ≡ next → left ≡ new.disk
        → (KeepsNew (device s.disk).file s.sequence s.«record»
        → KeepsEither (device new.disk).file s.sequence s.«record» told) → (n : ℕ) (r : Stored)
        → KeepsRecord (device disk).file n r → KeepsOneOf (device left).file r (next_of r (r.epoch + 1) r.outcome)
    still_either new told left same_next same_left either n r keeps =
        let was = found.kept n r keeps in
        let is : told ≡ next_of r (r.epoch + 1) r.outcome = cc (same_next, found.own, was.1) in
        let said : KeepsOneOf (device new.disk).file s.«record» told =
        as_either (device new.disk) s.sequence s.«record» told (either was.0) in
        subst (λ (x : D). KeepsOneOf (device x).file r (next_of r (r.epoch + 1) r.outcome)) (sym same_left)
        (subst (λ (x : Stored). KeepsOneOf (device new.disk).file r x) is
        (subst (λ (x : Stored). KeepsOneOf (device new.disk).file x told) was.1 said))

-- what holds of one that is opened
pub is_open : {D : Type 0} (job : JobOf) (s new : Opened D) (limit at sequence : ℕ) (kept : Stored) (h : HouseOf)
    → s.«record».job ≡ job.number → kept ≡ s.«record» → sequence ≡ s.sequence →
    h ≡ opened limit (record { sequence = sequence + 1; epoch = at; outcome = kept.outcome; saved = kept.saved }) →
    new ≡ record {
      disk = new.disk;
      «record» = next_of s.«record» at kept.outcome;
      sequence = s.sequence + 1;
      ended = false;
    } → IsOpen job new h
is_open job s new limit at sequence kept h own same_kept same_sequence is stored =
    let k : Kept = record { sequence = sequence + 1; epoch = at; outcome = kept.outcome; saved = kept.saved } in
    let told : next_of s.«record» at kept.outcome ≡ record_of job k = cc (own, same_kept) in
    let all : new ≡ record new { «record» = record_of job k; sequence = sequence + 1; ended = false } =
    stored ∙ ap (λ r. record { disk = new.disk; «record» = r; sequence = s.sequence + 1; ended = false }) told
    ∙ ap (λ n. record { disk = new.disk; «record» = record_of job k; sequence = n + 1; ended = false })
    (sym same_sequence) in
    subst (λ x. IsOpen job new x) (sym is) (record { house = opened_house limit k; stored = all })
