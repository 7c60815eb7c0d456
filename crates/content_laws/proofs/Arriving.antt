-- A value comes to where it is awaited, in tables as in the content that they show.
use Rattle.std.proofs.Common.{◌≡◌, ◌≢◌, ℕ, ℤ, List, Option, Some, None, IsTrue, ◌⊎◌, ◌&&◌, nat_eq, if◌then◌else◌, inl, inr, refl, sym, ap, ◌∙◌}
use Rattle.std.specs.List.{slice_get}
use Rattle.ids.specs.Names.{Grant}
use Rattle.ids.specs.Named.{Name}
use Rattle.ids.specs.Naming.{name_of_frame}
use Rattle.ids.specs.declared.outcome.Outcome.{Outcome}
use Rattle.ids.specs.declared.outcome.Outcome.TheVariants.{Value}
use Rattle.ids.specs.declared.returns.Return.{Return}
use Rattle.ids.specs.declared.returns.Return.TheVariants.{Whole, Local}
use Rattle.ids.specs.declared.work.Frame.{Frame}
use Rattle.ids.specs.declared.work.Record.{Record}
use Rattle.ids.proofs.Replacing.{put_is_found}
use Rattle.frames.specs.Frames.{frame_in, put_frame, with_slot, is_vacant, is_empty_of}
use Rattle.sub_rules.specs.declared.content.Content.{Content}
use Rattle.sub_rules.specs.Changes.{ends, arrives, filled, filled_in}
use Rattle.sub_rules.specs.Leaving.{LacksDebtor}
use Rattle.sub_rules.proofs.Departures.{frame_number}
use Rattle.sub_rules.proofs.Arrivals.{awaited}
use Rattle.agreement_laws.proofs.Finding.{put_stays, put_or_there}
use Rattle.table_laws.specs.Tables.{◌∈◌, put_at, put_row}
use Rattle.table_laws.specs.Content as tables
use Rattle.table_laws.specs.Content.{Content as Tables, Absent, Full, Fill}
use Rattle.table_laws.specs.Facts.{RecordOf}
use Rattle.table_laws.specs.Causes.{Ends, Filled, Arrives}
use Rattle.table_laws.proofs.Lists.{same_or, none_some}
use Rattle.table_laws.proofs.Entries.{put_here, put_other, row_here, row_other, at_here, at_other_row, at_other_slot}
use Rattle.content_laws.specs.Shown.{return_of, slot_of, outcome_number, ShowsFrame, ShowsRecord, ShowsNothing, Shows}
use Rattle.content_laws.specs.Moved.{fill_of, grants_of_records}
use Rattle.content_laws.proofs.Rows.{filled_here, filled_other}
use Rattle.content_laws.proofs.Apart.{own_number, other_name, same_name, stolen_apart}
use Rattle.content_laws.proofs.Telling.{Settles, settles_none}
use Rattle.content_laws.proofs.Leaving.{cleared}

-- nothing is left
abbrev pub ended : Tables → Option ℤ → Tables
ended t o = record t { returns = λ n. None; granted = λ n. None; slots = λ n j. Absent; outcome = Some o }

-- they show the content that ended
pub end_shown : (t : Tables) (c : Content) (o : Outcome) → Shows t c
    → Shows (ended t (outcome_number o)) (ends o c).after
end_shown t c o shows = record {
  host = shows.host;
  task = shows.task;
  next = shows.next;
  outcome = refl;
  frames = λ n f at. absurd (none_some refl at);
  records = λ g r at. absurd (none_some refl at);
  unused = λ n u. record { returns = refl; slots = λ j. refl; unstolen = refl };
}

-- and are what a move asks of an end
pub all_ends : (t : Tables) (o : Option ℤ) → Ends t (ended t o) o None
all_ends t o = record {
  outcome = refl;
  none = λ n. refl;
  unrecorded = λ n. refl;
  bare = λ n j. refl;
  next = refl;
  unfilled = refl;
}

-- slot j of frame f is filled
abbrev pub filled_at : Tables → ℕ → ℕ → ℤ → Tables
filled_at t f j v = record t { slots = put_at t.slots f j (Full v) }

module _ (t : Tables) (c : Content) (h : Frame) (j : ℕ) (v : ℤ) (shows : Shows t c)
    (there : frame_in h.number c.frames ≡ Some h) (empty : IsTrue (is_vacant (slice_get h.slots j))) where
  -- the frame with the filled slot
  parent_shown : ShowsFrame (filled_at t h.number j v) (with_slot j v h)
  parent_shown = record {
    returns = (shows.frames h.number h there).returns;
    place = (shows.frames h.number h there).place;
    thread = (shows.frames h.number h there).thread;
    slots = λ l. by_slot l (same_or l j);
    unstolen = (shows.frames h.number h there).unstolen;
  }
    where
      by_slot : (l : ℕ) → (l ≡ j) ⊎ (l ≢ j)
          → put_at t.slots h.number j (Full v) h.number l ≡ slot_of (slice_get (with_slot j v h).slots l)
      by_slot l (inl same) = rw same (at_here t.slots h.number j (Full v) ∙ sym (filled_here h.slots j v empty))
      by_slot l (inr other) = at_other_slot t.slots h.number j l (Full v) other
          ∙ (shows.frames h.number h there).slots l ∙ sym (filled_other h.slots l j v other)

  -- frames, records and numbers elsewhere stay
  other_frame : (f : Frame) → f.number ≢ h.number → ShowsFrame t f → ShowsFrame (filled_at t h.number j v) f
  other_frame f other shown = record {
    returns = shown.returns;
    place = shown.place;
    thread = shown.thread;
    slots = λ l. at_other_row t.slots h.number j f.number l (Full v) other ∙ shown.slots l;
    unstolen = shown.unstolen;
  }

  -- so do records of other numbers
  other_record : (x : Record) → x.frame ≢ h.number → ShowsRecord t x → ShowsRecord (filled_at t h.number j v) x
  other_record x other shown = record {
    returns = shown.returns;
    holds = record {
      place = shown.holds.place;
      thread = shown.holds.thread;
      numbers = λ l. at_other_row t.slots h.number j x.frame l (Full v) other ∙ shown.holds.numbers l;
    };
    stolen = shown.stolen;
  }

  -- and numbers that show nothing
  other_number : (m : ℕ) → m ≢ h.number → ShowsNothing t m → ShowsNothing (filled_at t h.number j v) m
  other_number m other shown = record {
    returns = shown.returns;
    slots = λ l. at_other_row t.slots h.number j m l (Full v) other ∙ shown.slots l;
    unstolen = shown.unstolen;
  }

  -- so the content with the filled slot is shown
  pub fill_shown : Shows (filled_at t h.number j v) (filled j v c h).after
  fill_shown = record {
    host = shows.host;
    task = shows.task;
    next = shows.next;
    outcome = shows.outcome;
    frames = λ m f at. by_name m f (put_or_there name_of_frame (m, 0) (with_slot j v h) f c.frames at);
    records = λ g x at. other_record x (stolen_apart t h x (shows.frames h.number h there) (shows.records g x at))
        (shows.records g x at);
    unused = λ m u. (
        let other : m ≢ h.number = λ same.
        (let here : frame_in m (put_frame (with_slot j v h) c.frames) ≡ Some (with_slot j v h) =
        rw same (put_is_found name_of_frame (with_slot j v h) c.frames) in none_some u.frame here) in
        other_number m other (shows.unused m (record {
          frame = sym (put_stays name_of_frame (m, 0) (with_slot j v h) c.frames (other_name m h.number other))
              ∙ u.frame;
          record_of = u.record_of;
        })));
  }
    where
      by_name : (m : ℕ) (f : Frame) → (((◌≡◌ {A = Name} (m, 0) (h.number, 0)) × (f ≡ with_slot j v h))
          ⊎ ((◌≢◌ {A = Name} (m, 0) (h.number, 0)) × (frame_in m c.frames ≡ Some f)))
          → ShowsFrame (filled_at t h.number j v) f
      by_name m f (inl new) = rw (new.1) parent_shown
      by_name m f (inr was) = other_frame f
          (λ same. was.0 (same_name m h.number (frame_number m f c.frames was.1 ∙ same))) (shows.frames m f was.1)

-- the value of number n, which is gone, fills a slot of a frame
pub fills : (g : Grant) (t : Tables) (n j : ℕ) (v : ℤ) (h : Frame) → h.number ≢ n → t.granted h.number ≡ None
    → t.place h.number ≡ h.place → t.outcome ≡ None
    → Filled g t (filled_at (cleared t n) h.number j v) n h.number j v
    (Some (record { grant = g; frame = h.number; slot = j; place = h.place; value = v }))
fills g t n j v h apart unstolen place active = record {
  frame = unstolen;
  gone = put_here t.returns n None;
  ungranted = put_here t.granted n None;
  bare = λ l. at_other_row (put_row t.slots n (λ k. Absent)) h.number j n l (Full v) (λ same. apart (sym same))
      ∙ row_here t.slots n l (λ k. Absent);
  kept = λ k other. put_other t.returns n k None other;
  granted = λ k other. put_other t.granted n k None other;
  slots = λ k l other. ap (λ s. if nat_eq k h.number && nat_eq l j then Full v else s)
      (row_other t.slots n k l (λ i. Absent) other);
  places = λ k. refl;
  threads = λ k. refl;
  next = refl;
  active = active;
  is = rw place refl;
}

-- tables after a value came
pub record Arrived (g : Grant) (t : Tables) (n : ℕ) (r : Return) (v : ℤ) (c : Content) : Type 0 where
  pub content : Tables
  pub shown : Shows content (arrives r v c).after
  pub comes : Arrives g t content n (return_of r) v (fill_of g (arrives r v c).fill)
  pub settles : Settles t content (grants_of_records (arrives r v c).dropped)

-- where it is awaited: the whole, or an empty slot of a frame
abbrev pub IsAwaited : Return → List Frame → Type 0
IsAwaited Whole frames = Unit {0}
IsAwaited (Local f j) frames = IsTrue (is_empty_of (frame_in f frames) j)

-- the value of number n comes to c, where nothing stands under n any more
pub value_arrives : (g : Grant) (t : Tables) (n : ℕ) (r : Return) (v : ℤ) (c : Content) → Shows (cleared t n) c
    → t.outcome ≡ None → ((k : Grant) → k ∈ grants_of_records c.records → RecordOf t k) → IsAwaited r c.frames
    → Arrived g t n r v c
value_arrives g t n Whole v c shows active had awaited = record {
  content = ended (cleared t n) (Some v);
  shown = end_shown (cleared t n) c (Value v) shows;
  comes = record {
    outcome = refl;
    none = λ m. refl;
    unrecorded = λ m. refl;
    bare = λ m j. refl;
    next = refl;
    unfilled = refl;
  };
  settles = record { had = had; lost = λ k at there. none_some refl there.is };
}
value_arrives g t n (Local f j) v c shows active had awaited = by_found (frame_in f c.frames) refl awaited
  where
    at_frame : (h : Frame) → frame_in f c.frames ≡ Some h → IsTrue (is_vacant (slice_get h.slots j))
        → Arrived g t n (Local f j) v c
    at_frame h there empty =
        let number = frame_number f h c.frames there in
        let here = own_number f h c.frames there in
        let shown = shows.frames f h there in
        let apart : h.number ≢ n = λ same. none_some (put_here t.returns n None) (rw same at shown.returns) in
        let unstolen : t.granted h.number ≡ None = sym (put_other t.granted n h.number None apart) ∙ shown.unstolen in
        let filling = fills g t n j v h apart unstolen shown.place active in
        record {
          content = filled_at (cleared t n) h.number j v;
          shown = rw there (fill_shown (cleared t n) c h j v shows here empty);
          comes = rw (there, number) filling;
          settles = rw there (settles_none t (filled_at (cleared t n) h.number j v));
        }

    by_found : (o : Option Frame) → frame_in f c.frames ≡ o → IsTrue (is_empty_of o j) → Arrived g t n (Local f j) v c
    by_found None there empty = cc
    by_found (Some h) there empty = at_frame h there empty

-- the host and the task stay
pub arrives_parent : (r : Return) (v : ℤ) (c : Content) → (arrives r v c).after.parent ≡ c.parent
arrives_parent Whole v c = refl
arrives_parent (Local n j) v c = by_found (frame_in n c.frames)
  where
    by_found : (o : Option Frame) → (filled_in j v c o).after.parent ≡ c.parent
    by_found None = refl
    by_found (Some f) = refl

-- so does the task
pub arrives_task : (r : Return) (v : ℤ) (c : Content) → (arrives r v c).after.task ≡ c.task
arrives_task Whole v c = refl
arrives_task (Local n j) v c = by_found (frame_in n c.frames)
  where
    by_found : (o : Option Frame) → (filled_in j v c o).after.task ≡ c.task
    by_found None = refl
    by_found (Some f) = refl

-- the number whose value came is no record's
pub arrived_unstolen : (g : Grant) (t d : Tables) (n : ℕ) (r : tables.Return) (v : ℤ) (fill : Option Fill)
    → Arrives g t d n r v fill → d.granted n ≡ None
arrived_unstolen g t d n tables.Whole v fill comes = comes.unrecorded n
arrived_unstolen g t d n (tables.Local f j) v fill comes = comes.ungranted

-- a value that lacks its debtor is awaited
pub is_awaited : (r : Return) (c : Content) → LacksDebtor r c → IsAwaited r c.frames
is_awaited Whole c lacks = tt
is_awaited (Local n j) c lacks = awaited c n j lacks
