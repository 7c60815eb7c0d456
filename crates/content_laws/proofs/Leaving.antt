-- A frame or a record leaves a content, and its number shows nothing.
use Rattle.std.proofs.Common.{◌≡◌, ◌≢◌, ℕ, Some, None, ◌⊎◌, inl, inr, sym, ap, ◌∙◌}
use Rattle.ids.specs.Names.{Grant}
use Rattle.ids.specs.Naming.{name_of_frame, name_of_grant, name_of_record}
use Rattle.ids.specs.declared.work.Frame.{Frame}
use Rattle.ids.specs.declared.work.Record.{Record}
use Rattle.frames.specs.Frames.{frame_in, without_frame}
use Rattle.victim_records.specs.Records.{record_in, without_record}
use Rattle.sub_rules.specs.declared.content.Content.{Content}
use Rattle.sub_rules.proofs.Departures.{frame_number}
use Rattle.agreement_laws.proofs.Finding.{same_or_other, stays, left}
use Rattle.table_laws.specs.Tables.{put, put_row}
use Rattle.table_laws.specs.Content.{Content as Tables, Absent}
use Rattle.table_laws.proofs.Lists.{same_or, one_found}
use Rattle.table_laws.proofs.Entries.{put_here, put_other, row_here, row_other}
use Rattle.content_laws.specs.Shown.{IsUnused, ShowsFrame, ShowsRecord, ShowsNothing, Shows}
use Rattle.content_laws.proofs.Apart.{other_name, same_name, stolen_apart, records_apart}

-- nothing stands under number n any more
abbrev pub cleared : Tables → ℕ → Tables
cleared t n = record t {
  returns = put t.returns n None;
  granted = put t.granted n None;
  slots = put_row t.slots n (λ j. Absent);
}

-- frames, records and numbers elsewhere stay
frame_stays : (t : Tables) (n : ℕ) (f : Frame) → f.number ≢ n → ShowsFrame t f → ShowsFrame (cleared t n) f
frame_stays t n f other shown = record {
  returns = put_other t.returns n f.number None other ∙ shown.returns;
  place = shown.place;
  thread = shown.thread;
  slots = λ j. row_other t.slots n f.number j (λ l. Absent) other ∙ shown.slots j;
  unstolen = put_other t.granted n f.number None other ∙ shown.unstolen;
}

-- so do records of other numbers
record_stays : (t : Tables) (n : ℕ) (x : Record) → x.frame ≢ n → ShowsRecord t x → ShowsRecord (cleared t n) x
record_stays t n x other shown = record {
  returns = put_other t.returns n x.frame None other ∙ shown.returns;
  holds = record {
    place = shown.holds.place;
    thread = shown.holds.thread;
    numbers = λ j. row_other t.slots n x.frame j (λ l. Absent) other ∙ shown.holds.numbers j;
  };
  stolen = put_other t.granted n x.frame None other ∙ shown.stolen;
}

-- nothing stands under n
nothing_there : (t : Tables) (n : ℕ) → ShowsNothing (cleared t n) n
nothing_there t n = record {
  returns = put_here t.returns n None;
  slots = λ j. row_here t.slots n j (λ l. Absent);
  unstolen = put_here t.granted n None;
}

-- nor where nothing stood
nothing_stays : (t : Tables) (n m : ℕ) → m ≢ n → ShowsNothing t m → ShowsNothing (cleared t n) m
nothing_stays t n m other shown = record {
  returns = put_other t.returns n m None other ∙ shown.returns;
  slots = λ j. row_other t.slots n m j (λ l. Absent) other ∙ shown.slots j;
  unstolen = put_other t.granted n m None other ∙ shown.unstolen;
}

-- so the content is shown that a frame left
pub frame_cleared : (t : Tables) (c : Content) (f : Frame) → Shows t c → frame_in f.number c.frames ≡ Some f
    → Shows (cleared t f.number) (record c { frames = without_frame f.number c.frames })
frame_cleared t c f shows there = record {
  host = shows.host;
  task = shows.task;
  next = shows.next;
  outcome = shows.outcome;
  frames = λ m g at. (
      let was = left name_of_frame (m, 0) (f.number, 0) g c.frames at in
      let other : g.number ≢ f.number = λ same. was.0 (same_name m f.number (frame_number m g c.frames was.1 ∙ same)) in
      frame_stays t f.number g other (shows.frames m g was.1));
  records = λ g x at. record_stays t f.number x
      (stolen_apart t f x (shows.frames f.number f there) (shows.records g x at)) (shows.records g x at);
  unused = unused;
}
  where
    unused : (m : ℕ) → IsUnused (record c { frames = without_frame f.number c.frames }) m
        → ShowsNothing (cleared t f.number) m
    unused m u = by_number (same_or m f.number)
      where
        by_number : (m ≡ f.number) ⊎ (m ≢ f.number) → ShowsNothing (cleared t f.number) m
        by_number (inl same) = rw same (nothing_there t f.number)
        by_number (inr other) = nothing_stays t f.number m other (shows.unused m (record {
          frame = sym (stays name_of_frame (m, 0) (f.number, 0) c.frames (other_name m f.number other)) ∙ u.frame;
          record_of = u.record_of;
        }))

-- a number that only the record of r had isn't that of another
pub unused_before : (c : Content) (r : Record) (m : ℕ) → m ≢ r.frame → record_in r.grant c.records ≡ Some r
    → ((g : Grant) (x : Record) → record_in g (without_record r.grant c.records) ≡ Some x → x.frame ≡ m → ⊥)
    → (g : Grant) (x : Record) → record_in g c.records ≡ Some x → x.frame ≡ m → ⊥
unused_before c r m other there unused g x at same = by_name (same_or_other (name_of_grant g) (name_of_grant r.grant))
  where
    by_name : (name_of_grant g ≡ name_of_grant r.grant) ⊎ (name_of_grant g ≢ name_of_grant r.grant) → ⊥
    by_name (inl one) =
        let found : record_in r.grant c.records ≡ Some x = rw one at at in
        let is : x ≡ r = one_found found there in
        other (sym same ∙ ap (λ (y : Record). y.frame) is)
    by_name (inr apart) = unused g x (stays name_of_record (name_of_grant g) (name_of_grant r.grant) c.records apart
        ∙ at) same

-- and the one that a record left
pub record_cleared : (t : Tables) (c : Content) (r : Record) → Shows t c → record_in r.grant c.records ≡ Some r
    → Shows (cleared t r.frame) (record c { records = without_record r.grant c.records })
record_cleared t c r shows there = record {
  host = shows.host;
  task = shows.task;
  next = shows.next;
  outcome = shows.outcome;
  frames = λ m g at. frame_stays t r.frame g
      (λ same. stolen_apart t g r (shows.frames m g at) (shows.records r.grant r there) (sym same))
      (shows.frames m g at);
  records = λ g x at. (
      let was = left name_of_record (name_of_grant g) (name_of_grant r.grant) x c.records at in
      record_stays t r.frame x (records_apart t c g r.grant x r shows was.1 there was.0) (shows.records g x was.1));
  unused = unused;
}
  where
    unused : (m : ℕ) → IsUnused (record c { records = without_record r.grant c.records }) m
        → ShowsNothing (cleared t r.frame) m
    unused m u = by_number (same_or m r.frame)
      where
        by_number : (m ≡ r.frame) ⊎ (m ≢ r.frame) → ShowsNothing (cleared t r.frame) m
        by_number (inl same) = rw same (nothing_there t r.frame)
        by_number (inr other) = nothing_stays t r.frame m other (shows.unused m (record {
          frame = u.frame;
          record_of = unused_before c r m other there u.record_of;
        }))
