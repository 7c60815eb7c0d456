-- A ready frame is granted away, and a record is a frame again.
use Rattle.std.proofs.Common.{◌≡◌, ◌≢◌, ℕ, ℤ, List, [], ◌∷◌, Option, Some, None, ◌⊎◌, inl, inr, refl, sym, ap, ◌∙◌}
use Rattle.ids.specs.Names.{Grant}
use Rattle.ids.specs.Named.{Name}
use Rattle.ids.specs.Naming.{name_of_frame, name_of_grant, name_of_record}
use Rattle.ids.specs.Slots.{numbers_in}
use Rattle.ids.specs.declared.work.Frame.{Frame}
use Rattle.ids.specs.declared.work.Record.{Record}
use Rattle.ids.proofs.Replacing.{put_is_found}
use Rattle.serial_meaning.proofs.FrameLaws.{bound_at}
use Rattle.frames.specs.Frames.{frame_in, put_frame}
use Rattle.victim_records.specs.Records.{record_in}
use Rattle.sub_rules.specs.declared.content.Content.{Content}
use Rattle.sub_rules.specs.Content.{Ready, ready, ready_in, task_of as task_in}
use Rattle.sub_rules.specs.Changes.{record_of, granted_out, frame_of, redone}
use Rattle.sub_rules.proofs.Departures.{frame_number}
use Rattle.agreement_laws.proofs.Finding.{same_or_other, stays, left, put_stays, put_or_there}
use Rattle.table_laws.specs.Tables.{◌∈◌, put}
use Rattle.table_laws.specs.Content.{Content as Tables, HoldsTask, regrant}
use Rattle.table_laws.specs.View.{Sub, View}
use Rattle.table_laws.specs.Facts.{Live, RecordOf}
use Rattle.table_laws.specs.Guards.{MayAnswer, MaySteal}
use Rattle.table_laws.specs.Meaning.{Meaning}
use Rattle.table_laws.specs.Causes.{Stays, redoes}
use Rattle.table_laws.specs.Acts.{grants}
use Rattle.table_laws.proofs.Lists.{same_or, none_some, one_found}
use Rattle.table_laws.proofs.Entries.{put_here, put_other}
use Rattle.content_laws.specs.Shown.{return_of, task_of, IsUnused, ShowsFrame, ShowsRecord, ShowsNothing, Shows}
use Rattle.content_laws.specs.Moved.{IsKept, IsMove, IsGrantMove, next_grant}
use Rattle.content_laws.proofs.Rows.{given_row, full_row}
use Rattle.content_laws.proofs.Apart.{own_number, other_name, same_name, stolen_apart, records_apart}
use Rattle.content_laws.proofs.Records.{granted_there, record_shown}
use Rattle.content_laws.proofs.Telling.{settles_none, moved}
use Rattle.content_laws.proofs.Leaving.{unused_before}
use Rattle.content_laws.proofs.Beginning.{task_begins}

-- an entry whose grant stays
frame_stays : (t : Tables) (n : ℕ) (k : Option Grant) (f : Frame) → put t.granted n k f.number ≡ None → ShowsFrame t f
    → ShowsFrame (regrant t n k) f
frame_stays t n k f unstolen shown = record {
  returns = shown.returns;
  place = shown.place;
  thread = shown.thread;
  slots = shown.slots;
  unstolen = unstolen;
}

-- so do records of other numbers
record_stays : (t : Tables) (n : ℕ) (k : Option Grant) (x : Record) → x.frame ≢ n → ShowsRecord t x
    → ShowsRecord (regrant t n k) x
record_stays t n k x other shown = record {
  returns = shown.returns;
  holds = record { place = shown.holds.place; thread = shown.holds.thread; numbers = shown.holds.numbers };
  stolen = put_other t.granted n x.frame k other ∙ shown.stolen;
}

-- and numbers that show nothing
nothing_stays : (t : Tables) (n : ℕ) (k : Option Grant) (m : ℕ) → m ≢ n → ShowsNothing t m
    → ShowsNothing (regrant t n k) m
nothing_stays t n k m other shown = record {
  returns = shown.returns;
  slots = shown.slots;
  unstolen = put_other t.granted n m k other ∙ shown.unstolen;
}

-- the frame of a record that is closed is there again
module _ (t : Tables) (c : Content) (r : Record) (shows : Shows t c)
    (there : record_in r.grant c.records ≡ Some r) where
  -- its own frame is shown
  again_shown : ShowsFrame (regrant t r.frame None) (frame_of r)
  again_shown =
      let shown = shows.records r.grant r there in
      record {
        returns = shown.returns;
        place = shown.holds.place;
        thread = shown.holds.thread;
        slots = λ j. shown.holds.numbers j ∙ sym (given_row r.task.numbers j);
        unstolen = put_here t.granted r.frame None;
      }

  -- and so are the others
  other_frame : (m : ℕ) (f : Frame) → frame_in m c.frames ≡ Some f → ShowsFrame (regrant t r.frame None) f
  other_frame m f was =
      let shown = shows.frames m f was in
      let other : f.number ≢ r.frame = λ same. stolen_apart t f r shown (shows.records r.grant r there) (sym same) in
      frame_stays t r.frame None f (put_other t.granted r.frame f.number None other ∙ shown.unstolen) shown

  -- and the content
  pub redone_shown : Shows (regrant t r.frame None) (redone r c)
  redone_shown = record {
    host = shows.host;
    task = shows.task;
    next = shows.next;
    outcome = shows.outcome;
    frames = λ m f at. by_name m f (put_or_there name_of_frame (m, 0) (frame_of r) f c.frames at);
    records = λ g x at. (
        let was = left name_of_record (name_of_grant g) (name_of_grant r.grant) x c.records at in
        record_stays t r.frame None x (records_apart t c g r.grant x r shows was.1 there was.0)
        (shows.records g x was.1));
    unused = λ m u. (
        let other : m ≢ r.frame = λ same. (let here : frame_in m (put_frame (frame_of r) c.frames) ≡ Some (frame_of r) =
        rw same (put_is_found name_of_frame (frame_of r) c.frames) in none_some u.frame here) in
        nothing_stays t r.frame None m other (shows.unused m (record {
          frame = sym (put_stays name_of_frame (m, 0) (frame_of r) c.frames (other_name m r.frame other)) ∙ u.frame;
          record_of = unused_before c r m other there u.record_of;
        })));
  }
    where
      by_name : (m : ℕ) (f : Frame) → (((◌≡◌ {A = Name} (m, 0) (r.frame, 0)) × (f ≡ frame_of r))
          ⊎ ((◌≢◌ {A = Name} (m, 0) (r.frame, 0)) × (frame_in m c.frames ≡ Some f)))
          → ShowsFrame (regrant t r.frame None) f
      by_name m f (inl new) = rw (new.1) again_shown
      by_name m f (inr was) = other_frame m f was.1

  -- nothing else changes
  pub redo_stays : Stays t (regrant t r.frame None)
  redo_stays = record {
    fewer = λ n k at. by_number n k (same_or n r.frame) at;
    returns = λ n. refl;
    work = λ n. record { place = refl; thread = refl; slots = λ j. refl };
    next = refl;
    outcome = refl;
  }
    where
      by_number : (n : ℕ) (k : Grant) → (n ≡ r.frame) ⊎ (n ≢ r.frame) → put t.granted r.frame None n ≡ Some k
          → t.granted n ≡ Some k
      by_number n k (inl same) at = absurd (none_some (put_here t.granted r.frame None) (rw same at at))
      by_number n k (inr other) at = sym (put_other t.granted r.frame n None other) ∙ at

-- a record that leaves is settled by tables in which its number is no record's, and no grant is new
pub record_settled : (t d : Tables) (c : Content) (r : Record) → IsKept c → Shows t c
    → record_in r.grant c.records ≡ Some r → d.granted r.frame ≡ None
    → ((n : ℕ) (k : Grant) → d.granted n ≡ Some k → t.granted n ≡ Some k) → RecordOf d r.grant → ⊥
record_settled t d c r kept shows there gone fewer at =
    let was = granted_there t c at.number r.grant kept shows (fewer at.number r.grant at.is) in
    let same : was.0 ≡ r = one_found was.1 there in
    let number : r.frame ≡ at.number = ap (λ (x : Record). x.frame) (sym same) ∙ was.2 in
    none_some gone (rw (← number) at at.is)

-- a ready frame that is found stands under its number
pub record IsReady (c : Content) (r : Ready) : Type 0 where
  pub there : frame_in r.frame.number c.frames ≡ Some r.frame
  pub full : numbers_in r.frame.slots ≡ Some r.numbers

-- a frame and the numbers in its slots
abbrev full_frame : Frame → List ℤ → Ready
full_frame f numbers = record { frame = f; numbers = numbers }

-- one that is made is that of its frame
ready_made : (c : Content) (f : Frame) (numbers : List ℤ) (r : Ready) → IsReady c (full_frame f numbers)
    → Some (full_frame f numbers) ≡ Some r → IsReady c r
ready_made c f numbers r is made = let same : full_frame f numbers ≡ r = cc in rw same at is

-- so is one that is ready
pub ready_found : (n : ℕ) (c : Content) (r : Ready) → ready_in n c ≡ Some r → IsReady c r
ready_found n c r is =
    let b = bound_at (frame_in n c.frames) ready r is in
    let b2 = bound_at (numbers_in b.first.slots) (λ (numbers : List ℤ). Some (full_frame b.first numbers)) r b.next in
    ready_made c b.first b2.first r (record { there = own_number n b.first c.frames b.is; full = b2.is }) b2.next

-- a record stands in the place of a ready frame
module _ (t : Tables) (c : Content) (g : Grant) (thief : ℕ) (r : Ready) (shows : Shows t c) (is : IsReady c r)
    (new : record_in g c.records ≡ None) where
  -- it holds its task
  frame_holds : HoldsTask t r.frame.number (task_of (task_in r))
  frame_holds =
      let shown = shows.frames r.frame.number r.frame is.there in
      record {
        place = shown.place;
        thread = shown.thread;
        numbers = λ j. shown.slots j ∙ full_row r.frame.slots r.numbers j is.full;
      }

  -- so it may be granted
  pub may_steal : MaySteal t r.frame.number (task_of (task_in r))
  may_steal =
      let shown = shows.frames r.frame.number r.frame is.there in
      record {
        frame = record { returns = return_of r.frame.returns; there = shown.returns; unstolen = shown.unstolen };
        holds = frame_holds;
      }

  -- its record is shown
  opened_shown : ShowsRecord (regrant t r.frame.number (Some g)) (record_of g thief r)
  opened_shown = record {
    returns = (shows.frames r.frame.number r.frame is.there).returns;
    holds = record { place = frame_holds.place; thread = frame_holds.thread; numbers = frame_holds.numbers };
    stolen = put_here t.granted r.frame.number (Some g);
  }

  -- and so is the content
  pub granted_shown : Shows (regrant t r.frame.number (Some g)) (granted_out g thief r c)
  granted_shown = record {
    host = shows.host;
    task = shows.task;
    next = shows.next;
    outcome = shows.outcome;
    frames = λ m f at. (
        let was = left name_of_frame (m, 0) (r.frame.number, 0) f c.frames at in
        let shown = shows.frames m f was.1 in
        let other : f.number ≢ r.frame.number =
        λ same. was.0 (same_name m r.frame.number (frame_number m f c.frames was.1 ∙ same)) in
        frame_stays t r.frame.number (Some g) f (put_other t.granted r.frame.number f.number (Some g) other
        ∙ shown.unstolen) shown);
    records = λ h x at. by_name h x (put_or_there name_of_record (name_of_grant h)
        (record_of g thief r) x c.records at);
    unused = unused;
  }
    where
      by_name : (h : Grant) (x : Record) →
          (((name_of_grant h ≡ name_of_grant g) × (x ≡ record_of g thief r))
          ⊎ ((name_of_grant h ≢ name_of_grant g) × (record_in h c.records ≡ Some x)))
          → ShowsRecord (regrant t r.frame.number (Some g)) x
      by_name h x (inl opened) = rw (opened.1) opened_shown
      by_name h x (inr was) =
          let shown = shows.records h x was.1 in
          record_stays t r.frame.number (Some g) x
          (stolen_apart t r.frame x (shows.frames r.frame.number r.frame is.there) shown) shown

      unused : (m : ℕ) → IsUnused (granted_out g thief r c) m → ShowsNothing (regrant t r.frame.number (Some g)) m
      unused m u = nothing_stays t r.frame.number (Some g) m other
          (shows.unused m (record {
            frame =
                sym (stays name_of_frame (m, 0) (r.frame.number, 0) c.frames (other_name m r.frame.number other))
                ∙ u.frame;
            record_of = old;
          }))
        where
          other : m ≢ r.frame.number
          other same = u.record_of g (record_of g thief r) (put_is_found name_of_record (record_of g thief r) c.records)
              (sym same)

          old : (h : Grant) (x : Record) → record_in h c.records ≡ Some x → x.frame ≡ m → ⊥
          old h x at same = by_grant (same_or_other (name_of_grant h) (name_of_grant g))
            where
              by_grant : (name_of_grant h ≡ name_of_grant g) ⊎ (name_of_grant h ≢ name_of_grant g) → ⊥
              by_grant (inl one) = none_some new (rw one at at)
              by_grant (inr apart) = u.record_of h x
                  (put_stays name_of_record (name_of_grant h) (record_of g thief r) c.records apart ∙ at) same

-- a redo is a move
pub redo_moves : (m : Meaning) (v : View) (i : ℕ) (g : Grant) (s : Sub) (c : Content) (r : Record) → Live v i g s
    → IsKept c → Shows s.content c → record_in r.grant c.records ≡ Some r
    → IsMove m v i g s (redone r c) None (r.grant ∷ [])
redo_moves m v i g s c r live kept shows there =
    let stays = redo_stays s.content c r shows there in
    moved m v i g s c (redone r c) None (r.grant ∷ []) (regrant s.content r.frame None) live shows
    (redone_shown s.content c r shows there) refl refl (redoes stays refl) (record { had = had; lost = lost })
  where
    had : (k : Grant) → k ∈ (r.grant ∷ []) → RecordOf s.content k
    had k (inl same) = rw same (record_shown s.content c r.grant r shows there)
    had k (inr none) = absurd none

    lost : (k : Grant) → k ∈ (r.grant ∷ []) → RecordOf (regrant s.content r.frame None) k → ⊥
    lost k (inl same) at = record_settled s.content (regrant s.content r.frame None) c r kept shows there
        (put_here s.content.granted r.frame None) (redo_stays s.content c r shows there).fewer (rw same at at)
    lost k (inr none) at = absurd none

-- a Grant is a move
pub grant_moves : (v : View) (i : ℕ) (g : Grant) (s : Sub) (thief seq n : ℕ) (c : Content) (r : Ready) → Live v i g s
    → MayAnswer v i thief seq → Shows s.content c → ready_in n c ≡ Some r → record_in (next_grant v i) c.records ≡ None
    → IsGrantMove v i g s thief seq r (granted_out (next_grant v i) thief r c)
grant_moves v i g s thief seq n c r live may shows is new =
    let found = ready_found n c r is in
    let k = next_grant v i in
    let begun = task_begins i (task_in r) in
    record {
      begun = begun;
      move = grants i g s r.frame.number thief seq begun.content live may begun.begins
          (rw begun.task_is (may_steal s.content c k thief r shows found new));
      right = λ m. tt;
      shown = granted_shown s.content c k thief r shows found new;
    }

-- so is a Result that is told again
pub again_moves : (m : Meaning) (v : View) (i : ℕ) (g : Grant) (s : Sub) (c : Content) → Live v i g s
    → Shows s.content c → IsMove m v i g s c None []
again_moves m v i g s c live shows =
    let stays : Stays s.content s.content = record {
      fewer = λ n k at. at;
      returns = λ n. refl;
      work = λ n. record { place = refl; thread = refl; slots = λ j. refl };
      next = refl;
      outcome = refl;
    } in
    moved m v i g s c c None [] s.content live shows shows refl refl (redoes stays refl)
    (settles_none s.content s.content)
