-- Each content that is kept has tables that show it.
use Rattle.std.proofs.Common.{◌≡◌, ◌≢◌, ℕ, List, [], Option, Some, None, ◌⊎◌, inl, inr, refl, sym, ap, ◌∙◌, arith}
use Rattle.std.specs.List.{slice_get}
use Rattle.ids.specs.Names.{Grant}
use Rattle.ids.specs.Naming.{name_of_frame, name_of_grant, name_of_record}
use Rattle.ids.specs.declared.work.Frame.{Frame}
use Rattle.ids.specs.declared.work.Record.{Record}
use Rattle.frames.specs.Frames.{frame_in}
use Rattle.victim_records.specs.Records.{record_in, without_record}
use Rattle.sub_rules.specs.declared.content.Content.{Content}
use Rattle.sub_rules.specs.Debts.{IsSound, is_numbered, is_stolen}
use Rattle.sub_rules.proofs.Sums.{sum_left}
use Rattle.sub_rules.proofs.Numbers.{numbered_itself, stolen_itself}
use Rattle.sub_rules.proofs.Departures.{frame_number}
use Rattle.agreement_laws.proofs.Finding.{same_or_other, stays, part_of_sum}
use Rattle.table_laws.specs.Content as tables
use Rattle.table_laws.specs.Content.{Content as Tables}
use Rattle.table_laws.proofs.Lists.{one_found}
use Rattle.content_laws.specs.Shown.{return_of, slot_of, task_of, outcome_of, IsUnused, Shows}
use Rattle.content_laws.specs.Moved.{IsKept}
use Rattle.content_laws.proofs.Apart.{own_number}
use Rattle.content_laws.proofs.Records.{Stolen, NoneStolen, stolen_or}

-- in a sound content, a record's number is that of no frame
stolen_unframed : (c : Content) (g : Grant) (x : Record) (n : ℕ) (f : Frame) → IsSound c
    → record_in g c.records ≡ Some x → frame_in n c.frames ≡ Some f → x.frame ≢ n
stolen_unframed c g x n f sound at there same =
    let number : n ≡ f.number = frame_number n f c.frames there in
    let once = sound.once n in
    let stolen = part_of_sum name_of_record (is_stolen n) (name_of_grant g) x c.records at in
    let numbered = part_of_sum name_of_frame (is_numbered n) (n, 0) f c.frames there in
    let one : is_stolen n x ≡ 1 = ap (λ (k : ℕ). is_stolen k x) (sym same) ∙ stolen_itself x in
    let two : is_numbered n f ≡ 1 = ap (λ (k : ℕ). is_numbered k f) number ∙ numbered_itself f in
    omega arith

-- and of one record only
stolen_once : (c : Content) (g h : Grant) (x y : Record) → IsKept c → record_in g c.records ≡ Some x
    → record_in h c.records ≡ Some y → x.frame ≡ y.frame → x ≡ y
stolen_once c g h x y kept here there same = by_name (same_or_other (name_of_grant g) (name_of_grant h))
  where
    by_name : (name_of_grant g ≡ name_of_grant h) ⊎ (name_of_grant g ≢ name_of_grant h) → x ≡ y
    by_name (inl one) = let found : record_in h c.records ≡ Some x = rw one at here in one_found found there
    by_name (inr other) =
        let once = kept.sound.once y.frame in
        let left : record_in g (without_record h c.records) ≡ Some x =
        stays name_of_record (name_of_grant g) (name_of_grant h) c.records other ∙ here in
        let sums = sum_left name_of_record (is_stolen y.frame) (name_of_grant h) y c.records kept.records there in
        let part = part_of_sum name_of_record (is_stolen y.frame) (name_of_grant g) x
        (without_record h c.records) left in
        let one : is_stolen y.frame x ≡ 1 = ap (λ (k : ℕ). is_stolen k x) (sym same) ∙ stolen_itself x in
        let two = stolen_itself y in
        absurd (omega arith)

-- what stands under a number
data Entry : Type 0 where
  Framed : Frame → Entry
  Recorded : Record → Entry
  Nothing : Entry

-- what a table has of it
abbrev returns_at : Entry → Option tables.Return
returns_at (Framed f) = Some (return_of f.returns)
returns_at (Recorded x) = Some (return_of x.returns)
returns_at Nothing = None

-- its place
abbrev place_at : Entry → List ℕ
place_at (Framed f) = f.place
place_at (Recorded x) = x.task.place
place_at Nothing = []

-- its thread
abbrev thread_at : Entry → ℕ
thread_at (Framed f) = f.thread
thread_at (Recorded x) = x.task.thread
thread_at Nothing = 0

-- its slots
abbrev slot_at : ℕ → Entry → tables.Slot
slot_at j (Framed f) = slot_of (slice_get f.slots j)
slot_at j (Recorded x) = tables.given x.task.numbers j
slot_at j Nothing = tables.Absent

-- its grant
abbrev grant_at : Entry → Option Grant
grant_at (Framed f) = None
grant_at (Recorded x) = Some x.grant
grant_at Nothing = None

-- a frame if there is one, else a record
abbrev entry_of : {records : List Record} {n : ℕ} → Option Frame → (Stolen records n) ⊎ (NoneStolen records n) → Entry
entry_of (Some f) stolen = Framed f
entry_of None (inl s) = Recorded s.record_is
entry_of None (inr none) = Nothing

module _ (c : Content) (kept : IsKept c) where
  -- what stands under a number of the content
  abbrev entry : ℕ → Entry
  entry n = entry_of (frame_in n c.frames) (stolen_or n c.records kept.records)

  -- the tables that are read off
  abbrev read : Tables
  read = record {
    host = c.parent;
    task = task_of c.task;
    next = c.next;
    place = λ n. place_at (entry n);
    thread = λ n. thread_at (entry n);
    returns = λ n. returns_at (entry n);
    slots = λ n j. slot_at j (entry n);
    granted = λ n. grant_at (entry n);
    outcome = outcome_of c.progress;
  }

  -- under a frame's number stands the frame
  framed : (n : ℕ) (f : Frame) → frame_in n c.frames ≡ Some f → entry n ≡ Framed f
  framed n f there = ap (λ (o : Option Frame). entry_of o (stolen_or n c.records kept.records)) there

  -- a record's number has no frame
  unframed : (n : ℕ) (x : Record) (g : Grant) → record_in g c.records ≡ Some x → x.frame ≡ n
      → frame_in n c.frames ≡ None
  unframed n x g there same = by_found (frame_in n c.frames) refl
    where
      by_found : (o : Option Frame) → frame_in n c.frames ≡ o → frame_in n c.frames ≡ None
      by_found None is = is
      by_found (Some f) is = absurd (stolen_unframed c g x n f kept.sound there is same)

  -- under a record's number stands the record
  recorded : (g : Grant) (x : Record) → record_in g c.records ≡ Some x → entry x.frame ≡ Recorded x
  recorded g x there = ap (λ (o : Option Frame). entry_of o (stolen_or x.frame c.records kept.records))
      (unframed x.frame x g there refl) ∙ by_record (stolen_or x.frame c.records kept.records)
    where
      by_record : (s : (Stolen c.records x.frame) ⊎ (NoneStolen c.records x.frame)) → entry_of None s ≡ Recorded x
      by_record (inl s) = ap Recorded (stolen_once c s.grant g s.record_is x kept s.there there s.number)
      by_record (inr none) = absurd (none g x there refl)

  -- and nothing under others
  nothing : (n : ℕ) → IsUnused c n → entry n ≡ Nothing
  nothing n u = ap (λ (o : Option Frame). entry_of o (stolen_or n c.records kept.records)) u.frame
      ∙ by_record (stolen_or n c.records kept.records)
    where
      by_record : (s : (Stolen c.records n) ⊎ (NoneStolen c.records n)) → entry_of None s ≡ Nothing
      by_record (inl s) = absurd (u.record_of s.grant s.record_is s.there s.number)
      by_record (inr none) = refl

  -- so the content is shown
  read_shown : Shows read c
  read_shown = record {
    host = refl;
    task = refl;
    next = refl;
    outcome = refl;
    frames = λ n f at. (
        let is = framed f.number f (own_number n f c.frames at) in
        record {
          returns = ap returns_at is;
          place = ap place_at is;
          thread = ap thread_at is;
          slots = λ j. ap (slot_at j) is;
          unstolen = ap grant_at is;
        });
    records = λ g x at. (
        let is = recorded g x at in
        record {
          returns = ap returns_at is;
          holds = record { place = ap place_at is; thread = ap thread_at is; numbers = λ j. ap (slot_at j) is };
          stolen = ap grant_at is;
        });
    unused = λ n u. (
        let is = nothing n u in
        record { returns = ap returns_at is; slots = λ j. ap (slot_at j) is; unstolen = ap grant_at is });
  }

  -- by some tables
  pub content_shown : (t : Tables) × Shows t c
  content_shown = (read, read_shown)
