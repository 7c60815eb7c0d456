-- What recovery does to a content: another host, another holder of a record, or a record whose
-- frame is ready again.
use Rattle.std.proofs.Common.{◌≡◌, ℕ, ◌+◌, List, [], ◌∷◌, ◌++◌, length, map, Option, Some, None, IsTrue, inl, inr, refl, sym, ap, subst, ◌∙◌, is_some, cond, arith}
use Rattle.std.proofs.lemmas.List.{length-map}
use Rattle.std.proofs.lemmas.List.Sums.{sum_by-append, sum_by-cons}
use Rattle.ids.specs.Names.{Grant}
use Rattle.ids.specs.Named.{changed_of, item_in}
use Rattle.ids.specs.Naming.{name_of_frame, name_of_grant, name_of_record}
use Rattle.ids.specs.Ordered.{AreInOrder}
use Rattle.ids.specs.declared.work.Record.{Record}
use Rattle.task_tree.specs.declared.tree.Program.{Program}
use Rattle.kind_check.specs.Total.{arity_of}
use Rattle.frames.specs.Frames.{frame_in, put_frame}
use Rattle.victim_records.specs.Records.{record_in, with_holder, without_record}
use Rattle.sub_rules.specs.declared.change.Readied.{Readied}
use Rattle.sub_rules.specs.declared.content.Content.{Content}
use Rattle.sub_rules.specs.Content.{Ready, ready_in}
use Rattle.sub_rules.specs.Changes.{frame_of, readied, readied_in, redone, with_parent, with_thief}
use Rattle.sub_rules.specs.Readiness.{TellsReady, is_readied, times_listed}
use Rattle.sub_rules.proofs.Sums.{all_filtered, all_found, all_put, found_name, sum_put_new}
use Rattle.sub_rules.proofs.Slots.{none_missing}
use Rattle.sub_rules.proofs.Numbers.{absent}
use Rattle.sub_rules.proofs.Departures.{RecordLeaves, record_leaves}
use Rattle.sub_rules.proofs.Grants.{redone_sound}
use Rattle.sub_rules.proofs.Contents.{parent_sound, thief_sound}
use Rattle.sub_rules.proofs.Listings.{listed, listed_none, times_sum}
use Rattle.subcomputation.specs.Fitting.{Fits, frame_fits, is_arity, record_fits}
use Rattle.subcomputation.specs.Subs.{SubOf, with_content}
use Rattle.subcomputation.specs.Told.{HasNoOthers}
use Rattle.subcomputation.proofs.Others.{none_left, put_other}
use Rattle.subcomputation.proofs.Fitting.{parent_fits, thief_fits}
use Rattle.recovery.specs.Told.{IsWhole}
use Rattle.recovery.proofs.NamedLists.{put_order, told_apart, without_order}

-- ready frames stay or are told, records stay or go, and what fitted fits
pub record Grows (before after : Content) (told : List Readied) : Type 0 where
  pub adds : (r : Readied) → times_listed r (readied_in after.frames)
      ≡ times_listed r told + times_listed r (readied_in before.frames)
  pub records : HasNoOthers before.records after.records
  pub fits : (p : Program) → Fits p before → Fits p after

-- a content that stays
pub stays : (c : Content) → Grows c c []
stays c = record { adds = λ r. omega arith; records = λ g none. none; fits = λ p fits. fits }

-- a change after another
pub grows_on : (a b c : Content) (told again : List Readied) → Grows a b told
    → Grows b c again → Grows a c (told ++ again)
grows_on a b c told again first second = record {
  adds = λ r. (let one = first.adds r in let two =
      second.adds r in omega (arith, sum_by-append (is_readied r) told again));
  records = λ g none. second.records g (first.records g none);
  fits = λ p fits. second.fits p (first.fits p fits);
}

-- a content that grew tells what became ready
pub tells : (before after : Content) (told : List Readied) → AreInOrder name_of_frame after.frames
    → Grows before after told → TellsReady before after told
tells before after told order grows = record {
  each = λ r. by_ready r (ready_in r.frame after) refl;
  unready = λ r none. (let sums = grows.adds r in let nothing = listed_none after r order none in omega arith);
}
  where
    by_ready : (r : Readied) (o : Option Ready) → ready_in r.frame after ≡ o
        → times_listed r (readied_in after.frames)
        ≡ cond (is_some o) (times_listed r told + times_listed r (readied_in before.frames)) 0
    by_ready r None none = listed_none after r order none
    by_ready r (Some x) there = grows.adds r

-- another host waits for the outcome
pub parent_grows : (host : ℕ) (c : Content) → Grows c (with_parent host c) []
parent_grows host c = record {
  adds = λ r. omega arith;
  records = λ g none. none;
  fits = λ p fits. parent_fits p host c fits;
}

-- it stays whole
pub parent_whole : (host : ℕ) (s : SubOf) → IsWhole s → IsWhole (with_content s (with_parent host s.content))
parent_whole host s whole = record {
  sound = parent_sound host s.content whole.sound;
  frames = whole.frames;
  records = whole.records;
}

-- another worker holds a record
pub thief_grows : (g : Grant) (holder : ℕ) (c : Content) → Grows c (with_thief g holder c) []
thief_grows g holder c = record {
  adds = λ r. omega arith;
  records = by_found (record_in g c.records) refl;
  fits = λ p fits. thief_fits p g holder c fits;
}
  where
    by_found : (o : Option Record) → record_in g c.records ≡ o
        → HasNoOthers c.records (changed_of name_of_record (with_holder holder) c.records o)
    by_found None there = λ h none. none
    by_found (Some x) there = λ h none. elim (told_apart (name_of_grant h) (name_of_grant g)) [
      | inl same ↦ let here : record_in h c.records ≡ Some x =
          ap (λ n. item_in name_of_record n c.records) same ∙ there in absurd cc
      | inr other ↦ put_other name_of_record (name_of_grant h) (with_holder holder x) c.records
          (λ is. other (is ∙ sym (found_name name_of_record (name_of_grant g) x c.records there))) ∙ none
    ]

-- it stays whole too
pub thief_whole : (g : Grant) (holder : ℕ) (s : SubOf) → IsWhole s
    → IsWhole (with_content s (with_thief g holder s.content))
thief_whole g holder s whole = record {
  sound = thief_sound g holder s.content whole.records whole.sound;
  frames = whole.frames;
  records = by_found (record_in g s.content.records);
}
  where
    by_found : (o : Option Record) → AreInOrder
        name_of_record (changed_of name_of_record (with_holder holder) s.content.records o)
    by_found None = whole.records
    by_found (Some x) = put_order name_of_record (with_holder holder x) s.content.records whole.records

-- the frame of a record is listed once more
again_listed : (r : Readied) (x : Record) → listed r (frame_of x) ≡ is_readied r (readied (frame_of x))
again_listed r x = rw (none_missing x.task.numbers) refl

-- a record's frame is there again, and fits
redone_fits : (p : Program) (x : Record) (c : Content) → record_in x.grant c.records ≡ Some x → Fits p c
    → Fits p (redone x c)
redone_fits p x c there fits =
    let here : IsTrue (record_fits p x) =
    all_found name_of_record (λ y. IsTrue (record_fits p y))
    (name_of_grant x.grant) x c.records fits.records there in
    let same : length x.task.numbers ≡ length (map Some x.task.numbers) = sym (length-map x.task.numbers Some) in
    let again : IsTrue (frame_fits p (frame_of x)) =
    subst (λ k. IsTrue (is_arity (arity_of p x.task.thread) k)) same here in
    record {
      task = fits.task;
      frames = all_put name_of_frame (λ f. IsTrue (frame_fits p f)) (frame_of x) c.frames again fits.frames;
      records = all_filtered (λ y. IsTrue (record_fits p y)) _ c.records fits.records;
    }

module _ (x : Record) (s : SubOf) (whole : IsWhole s) (there : record_in x.grant s.content.records ≡ Some x) where
  -- a record that leaves, whose value lacks its debtor
  leaves : RecordLeaves s.content x (without_record x.grant s.content.records)
  leaves = record_leaves s.content x whole.sound whole.frames whole.records there

  -- no frame has its number
  new : frame_in x.frame s.content.frames ≡ None
  new = let none = leaves.free.none in absent x.frame s.content.frames (omega arith)

  -- a record is closed and its frame is ready again
  pub redone_grows : Grows s.content (redone x s.content) (readied (frame_of x) ∷ [])
  redone_grows = record {
    adds = λ r. (
        let more = sum_put_new name_of_frame (listed r) (frame_of x) s.content.frames new in
        omega (
          arith,
          times_sum r s.content.frames,
          times_sum r (put_frame (frame_of x) s.content.frames),
          again_listed r x,
          sum_by-cons (is_readied r) (readied (frame_of x)) [],
        ));
    records = λ g none. none_left name_of_record (name_of_grant g) (name_of_grant x.grant) s.content.records none;
    fits = λ p fits. redone_fits p x s.content there fits;
  }

  -- what it leaves is whole
  pub redone_whole : IsWhole (with_content s (redone x s.content))
  redone_whole = record {
    sound = redone_sound (record s.content {
      records = without_record x.grant s.content.records;
    }) x leaves.lacks leaves.free;
    frames = put_order name_of_frame (frame_of x) s.content.frames whole.frames;
    records = without_order name_of_record (name_of_grant x.grant) s.content.records whole.records;
  }
