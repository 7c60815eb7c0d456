-- Turns and outcomes that come are moves.
use Rattle.std.proofs.Common.{◌≡◌, ℕ, ℤ, zero, suc, ◌+◌, ◌<◌, ◌≤◌, Bool, true, false, nat_lt, if◌then◌else◌, List, [], ◌∷◌, map, length, Option, Some, None, inl, inr, refl, sym, ap, subst, ◌∙◌}
use Rattle.std.proofs.lemmas.Bool.{ltb-true, ltb-false}
use Rattle.ids.specs.Names.{Grant}
use Rattle.ids.specs.Slots.{numbers_in}
use Rattle.ids.specs.declared.outcome.Outcome.{Outcome}
use Rattle.ids.specs.declared.outcome.Outcome.TheVariants.{Value, TooDeep}
use Rattle.ids.specs.declared.work.Frame.{Frame}
use Rattle.ids.specs.declared.work.Record.{Record}
use Rattle.task_tree.specs.declared.tree.Program.{Program}
use Rattle.kind_check.specs.Turns.{turn_of}
use Rattle.kind_check.specs.declared.turn.Slot.{Slot}
use Rattle.kind_check.specs.declared.turn.Turn.{Turn}
use Rattle.kind_check.specs.declared.turn.Turn.TheVariants.{Sends, Joins}
use Rattle.frames.specs.Frames.{frame_in, without_frame}
use Rattle.serial_meaning.specs.Serial.{serial}
use Rattle.serial_meaning.specs.Places.{room}
use Rattle.victim_records.specs.Records.{record_in, without_record}
use Rattle.sub_rules.specs.declared.content.Content.{Content}
use Rattle.sub_rules.specs.Changes.{turned, replaced, joined, ends, arrives, closed}
use Rattle.sub_rules.proofs.Sums.{all_filtered, all_found}
use Rattle.sub_rules.proofs.Slots.{numbers_full}
use Rattle.sub_rules.proofs.Departures.{frame_goes_on, record_goes_on, frame_leaves, record_leaves}
use Rattle.sub_rules.proofs.Joins.{joined_numbered}
use Rattle.sub_rules.proofs.Listings.{left_order}
use Rattle.ids.specs.Naming.{name_of_frame}
use Rattle.table_laws.specs.Tables.{◌∈◌}
use Rattle.table_laws.specs.Content.{Content as Tables}
use Rattle.table_laws.specs.View.{Sub, View}
use Rattle.table_laws.specs.Facts.{Live, RecordOf, result_to}
use Rattle.table_laws.specs.Meaning.{Meaning}
use Rattle.table_laws.specs.Program.{part_of, end_of, program_meaning}
use Rattle.table_laws.specs.Causes.{TakesTurn, GivesNumber, Ends, PartsStand, Cause, sends, joins, is_deep, hears, hears_deep}
use Rattle.sub_rules.specs.Resuming.{Known, slot_by, resumed, resumed_slots}
use Rattle.kind_check.specs.declared.turn.Slot.TheVariants.{Filled, Awaits}
use Rattle.kind_check.specs.declared.turn.Kid.{Kid}
use Rattle.serial_meaning.specs.Places.{value_at}
use Rattle.table_laws.proofs.SounderJoins.{cause_records}
use Rattle.table_laws.proofs.Lists.{none_some}
use Rattle.content_laws.specs.Shown.{return_of, outcome_number, outcome_of, ShowsNothing, Shows}
use Rattle.content_laws.specs.Moved.{IsKept, IsMove, IsContentEnd, fill_of, grants_of_records}
use Rattle.content_laws.proofs.Rows.{full_row}
use Rattle.content_laws.proofs.Records.{record_shown, returns_bare, listed_shown, left_listed}
use Rattle.content_laws.proofs.Telling.{Settles, settles_none, alters_told, moved}
use Rattle.content_laws.proofs.Leaving.{cleared, frame_cleared, record_cleared}
use Rattle.content_laws.proofs.Arriving.{ended, end_shown, all_ends, Arrived, value_arrives, arrives_parent, arrives_task, arrived_unstolen, is_awaited}
use Rattle.content_laws.proofs.Joining.{with_made, unused_from, made_shown, joined_tables, join_is}
use Rattle.content_laws.proofs.Granting.{record_settled}

-- all records of a content that ends are settled
pub all_settled : (t : Tables) (c : Content) (o : Option ℤ) → IsKept c → Shows t c
    → Settles t (ended t o) (grants_of_records c.records)
all_settled t c o kept shows = record {
  had = λ k listed. listed_shown t c k kept shows listed;
  lost = λ k listed at. none_some refl at.is;
}

-- what is known is the value of its place
abbrev pub IsKnownOf : Program → List ℤ → Known → Type 0
IsKnownOf p input known = (place : List ℕ) (v : ℤ) → known place ≡ Some v → value_at p input place ≡ Some v

-- the slots of a join by what is known stand for its own
parts_stand : (p : Program) (input : List ℤ) (known : Known) (place : List ℕ) (slots : List Slot)
    → IsKnownOf p input known → PartsStand (program_meaning p input) place (map part_of slots)
    (map part_of (resumed_slots known place slots))
parts_stand p input known place [] right = tt
parts_stand p input known place (Filled v ∷ slots) right = (refl, parts_stand p input known place slots right)
parts_stand p input known place (Awaits kid ∷ slots) right =
    by_value (known (kid.hole ∷ place)) (right (kid.hole ∷ place)) (parts_stand p input known place slots right)
  where
    by_value : (o : Option ℤ) → ((v : ℤ) → o ≡ Some v → value_at p input (kid.hole ∷ place) ≡ Some v)
        → PartsStand (program_meaning p input) place (map part_of slots) (map part_of (resumed_slots known place slots))
        → PartsStand (program_meaning p input) place (map part_of (Awaits kid ∷ slots))
        (map part_of (slot_by kid o ∷ resumed_slots known place slots))
    by_value None is rest = (refl, rest)
    by_value (Some v) is rest = (is v refl, rest)

-- a ready frame of a content that is shown, and the numbers in its slots
pub record Turning (t : Tables) (c : Content) (f : Frame) (numbers : List ℤ) : Type 0 where
  pub kept : IsKept c
  pub shows : Shows t c
  pub there : frame_in f.number c.frames ≡ Some f
  pub full : numbers_in f.slots ≡ Some numbers

-- whose turn sends a number gives it, in whatever room
sent_is_given : (p : Program) (d t : ℕ) (numbers : List ℤ) (x : ℤ) → turn_of p t numbers ≡ Some (Sends x)
    → serial p d t numbers ≡ Some x
sent_is_given p zero t numbers x end = rw end refl
sent_is_given p (suc d) t numbers x end = rw end refl

-- the end that a frame comes to at a place: the number that it gives, or its turn's join
abbrev pub Comes : Program → List ℕ → ℕ → List ℤ → Turn → Type 0
Comes p place t numbers (Sends x) = serial p (room place) t numbers ≡ Some x
Comes p place t numbers (Joins u slots) = turn_of p t numbers ≡ Some (Joins u slots)

-- to the end of its turn it comes
pub comes_of : (p : Program) (place : List ℕ) (t : ℕ) (numbers : List ℤ) (turn : Turn) → turn_of p t numbers ≡ Some turn
    → Comes p place t numbers turn
comes_of p place t numbers (Sends x) end = sent_is_given p (room place) t numbers x end
comes_of p place t numbers (Joins u slots) end = end

module _ (p : Program) (input : List ℤ) (v : View) (i : ℕ) (g : Grant) (s : Sub) (c : Content) (f : Frame)
    (numbers : List ℤ) (live : Live v i g s) (is : Turning s.content c f numbers) where
  -- it takes its turn
  abbrev takes_turn : (turn : Turn) → turn_of p f.thread numbers ≡ Some turn
      → TakesTurn (program_meaning p input) s.content f.number (end_of turn)
  takes_turn turn end = record {
    frame = record {
      returns = return_of f.returns;
      there = (is.shows.frames f.number f is.there).returns;
      unstolen = (is.shows.frames f.number f is.there).unstolen;
    };
    numbers = numbers;
    holds = λ j. (is.shows.frames f.number f is.there).slots j ∙ full_row f.slots numbers j is.full;
    ends = rw ((is.shows.frames f.number f is.there).thread, end) refl;
  }

  -- its content goes on
  active : s.content.outcome ≡ None
  active = is.shows.outcome ∙ ap outcome_of
      (frame_goes_on c.progress f.number f c.frames c.records is.there is.kept.sound.owed).0

  -- what is left without it
  abbrev rest : Content
  rest = record c { frames = without_frame f.number c.frames }

  -- it gives a number
  abbrev gives_number : (x : ℤ) → serial p (room f.place) f.thread numbers ≡ Some x
      → GivesNumber (program_meaning p input) s.content f.number x
  gives_number x gives = record {
    frame = record {
      returns = return_of f.returns;
      there = (is.shows.frames f.number f is.there).returns;
      unstolen = (is.shows.frames f.number f is.there).unstolen;
    };
    numbers = numbers;
    holds = λ j. (is.shows.frames f.number f is.there).slots j ∙ full_row f.slots numbers j is.full;
    gives = rw ((is.shows.frames f.number f is.there).place, (is.shows.frames f.number f is.there).thread) gives;
  }

  -- it sends what it gives
  pub given_moves : (x : ℤ) → serial p (room f.place) f.thread numbers ≡ Some x
      → IsMove (program_meaning p input) v i g s (turned f (Sends x) c).after (turned f (Sends x) c).fill
      (grants_of_records (turned f (Sends x) c).dropped)
  given_moves x gives =
      let lacks = (frame_leaves c f is.kept.sound is.kept.frames (left_order f.number c.frames is.kept.frames) is.there
      (numbers_full f.slots numbers is.full)).lacks in
      let came : Arrived g s.content f.number f.returns x rest =
      value_arrives g s.content f.number f.returns x rest (frame_cleared s.content c f is.shows is.there) active
      (λ k listed. listed_shown s.content c k is.kept is.shows listed) (is_awaited f.returns rest lacks) in
      moved (program_meaning p input) v i g s c (arrives f.returns x rest).after (arrives f.returns x rest).fill
      (grants_of_records (arrives f.returns x rest).dropped) came.content live is.shows came.shown
      (arrives_parent f.returns x rest) (arrives_task f.returns x rest)
      (sends f.number x (gives_number x gives) came.comes) came.settles

  -- it joins, and there is a place below its own
  join_moves : (known : Known) (u : ℕ) (slots : List Slot) → IsKnownOf p input known
      → turn_of p f.thread numbers ≡ Some (Joins u slots) → length f.place < 1024
      → IsMove (program_meaning p input) v i g s
      (replaced f.number (joined f u (resumed_slots known f.place slots) c.next) c).after None []
  join_moves known u slots right end short =
      let place = (is.shows.frames f.number f is.there).place in
      let d = joined_tables s.content f u xs place less active above bare in
      moved (program_meaning p input) v i g s c
      (replaced f.number (joined f u xs c.next) c).after None [] d live is.shows shown refl refl
      (joins f.number u (map part_of slots) (map part_of xs) (takes_turn (Joins u slots) end)
      (rw place (parts_stand p input known f.place slots right)) (rw place short)
      (join_is s.content f u xs place less active above bare) refl) (settles_none s.content d)
    where
      xs : List Slot
      xs = resumed_slots known f.place slots

      less : f.number < s.content.next
      less = rw is.shows.next (all_found name_of_frame (λ (x : Frame). x.number < c.next)
          (f.number, 0) f c.frames is.kept.sound.below is.there)

      above : (k : ℕ) → s.content.next ≤ k → ShowsNothing s.content k
      above k le = is.shows.unused k (unused_from c k is.kept.sound.below is.kept.sound.stolen_below
          (rw is.shows.next at le))

      bare : (k : ℕ) → s.content.returns k ≡ None → ShowsNothing s.content k
      bare k none = returns_bare s.content c is.kept is.shows k none

      shown : Shows (with_made (cleared s.content f.number) (joined f u xs s.content.next)
          (s.content.next + length (joined f u xs s.content.next))) (replaced f.number (joined f u xs c.next) c).after
      shown = subst
          (λ (k : ℕ). Shows (with_made (cleared s.content f.number) (joined f u xs k) (k + length (joined f u xs k)))
          (replaced f.number (joined f u xs c.next) c).after)
          (sym is.shows.next)
          (made_shown (cleared s.content f.number) rest (joined f u xs c.next) (c.next + length (joined f u xs c.next))
          (frame_cleared s.content c f is.shows is.there)
          (all_filtered (λ x. x.number < c.next) _ c.frames is.kept.sound.below) is.kept.sound.stolen_below
          (joined_numbered f u xs c.next))

  -- it joins at the last place
  deep_moves : (u : ℕ) (slots : List Slot) → turn_of p f.thread numbers ≡ Some (Joins u slots) → 1024 ≤ length f.place
      → IsMove (program_meaning p input) v i g s (ends TooDeep c).after None (grants_of_records c.records)
  deep_moves u slots end long =
      let place = (is.shows.frames f.number f is.there).place in
      moved (program_meaning p input) v i g s c (ends TooDeep c).after None (grants_of_records c.records)
      (ended s.content None) live is.shows (end_shown s.content c TooDeep is.shows) refl refl
      (is_deep f.number u (map part_of slots) (takes_turn (Joins u slots) end) (rw place long)
      (all_ends s.content None)) (all_settled s.content c None is.kept is.shows)

  -- whatever the end of its turn, by what is known of kids' values
  pub turn_moves : (known : Known) (turn : Turn) → IsKnownOf p input known → turn_of p f.thread numbers ≡ Some turn
      → IsMove (program_meaning p input) v i g s (turned f (resumed known f.place turn) c).after
      (turned f (resumed known f.place turn) c).fill
      (grants_of_records (turned f (resumed known f.place turn) c).dropped)
  turn_moves known (Sends x) right end = given_moves x (sent_is_given p (room f.place) f.thread numbers x end)
  turn_moves known (Joins u slots) right end = by_depth (nat_lt (length f.place) 1024) refl
    where
      by_depth : (b : Bool) → nat_lt (length f.place) 1024 ≡ b
          → (let change = if b then replaced f.number
          (joined f u (resumed_slots known f.place slots) c.next) c else ends TooDeep c in IsMove
          (program_meaning p input) v i g s change.after change.fill (grants_of_records change.dropped))
      by_depth true short = join_moves known u slots right end (ltb-true (length f.place) 1024 short)
      by_depth false long = deep_moves u slots end (ltb-false (length f.place) 1024 long)

  -- whatever the end that it comes to
  pub ended_moves : (known : Known) (turn : Turn) → IsKnownOf p input known → Comes p f.place f.thread numbers turn
      → IsMove (program_meaning p input) v i g s (turned f (resumed known f.place turn) c).after
      (turned f (resumed known f.place turn) c).fill
      (grants_of_records (turned f (resumed known f.place turn) c).dropped)
  ended_moves known (Sends x) right end = given_moves x end
  ended_moves known (Joins u slots) right end = turn_moves known (Joins u slots) right end

-- an outcome comes for a record
module _ (m : Meaning) (v : View) (i : ℕ) (g : Grant) (s : Sub) (c : Content) (r : Record) (live : Live v i g s)
    (kept : IsKept c) (shows : Shows s.content c) (there : record_in r.grant c.records ≡ Some r) where
  -- what is left without the record
  abbrev others : Content
  others = record c { records = without_record r.grant c.records }

  -- the content goes on
  goes_on : s.content.outcome ≡ None
  goes_on = shows.outcome ∙ ap outcome_of
      (record_goes_on c.progress r.grant r c.frames c.records there kept.sound.owed).0

  -- the other records were there
  had_others : (k : Grant) → k ∈ grants_of_records (without_record r.grant c.records) → RecordOf s.content k
  had_others k listed = listed_shown s.content c k kept shows (left_listed r.grant k c.records listed)

  -- its own grant is settled with the others
  with_own : (d : Tables) (gone : List Grant) → d.granted r.frame ≡ None
      → ((n : ℕ) (k : Grant) → d.granted n ≡ Some k → s.content.granted n ≡ Some k) → Settles s.content d gone
      → Settles s.content d (r.grant ∷ gone)
  with_own d gone none fewer settles = record { had = had; lost = lost }
    where
      had : (k : Grant) → k ∈ (r.grant ∷ gone) → RecordOf s.content k
      had k (inl same) = rw same (record_shown s.content c r.grant r shows there)
      had k (inr at) = settles.had k at

      lost : (k : Grant) → k ∈ (r.grant ∷ gone) → RecordOf d k → ⊥
      lost k (inl same) at = record_settled s.content d c r kept shows there none fewer (rw same at at)
      lost k (inr listed) at = settles.lost k listed at

  -- a number
  value_moves : (x : ℤ) → result_to r.grant i (Some x) ∈ v.results
      → IsMove m v i g s (closed r (Value x) c).after (closed r (Value x) c).fill
      (r.grant ∷ grants_of_records (closed r (Value x) c).dropped)
  value_moves x told =
      let shown = shows.records r.grant r there in
      let lacks = (record_leaves c r kept.sound kept.frames kept.records there).lacks in
      let came : Arrived g s.content r.frame r.returns x others =
      value_arrives g s.content r.frame r.returns x others
      (record_cleared s.content c r shows there) goes_on had_others (is_awaited r.returns others lacks) in
      let cause : Cause m v i g s.content came.content (fill_of g (arrives r.returns x others).fill) =
      hears r.frame r.grant (return_of r.returns) x r.task.numbers shown.stolen shown.returns shown.holds.numbers
      told came.comes in
      let none = arrived_unstolen g s.content came.content r.frame (return_of r.returns) x
      (fill_of g (arrives r.returns x others).fill) came.comes in
      let settles = with_own came.content (grants_of_records (arrives r.returns x others).dropped) none
      (λ n k at. (cause_records m v i g s.content came.content
      (fill_of g (arrives r.returns x others).fill) cause n k at).0) came.settles in
      moved m v i g s c (arrives r.returns x others).after (arrives r.returns x others).fill
      (r.grant ∷ grants_of_records (arrives r.returns x others).dropped) came.content live shows came.shown
      (arrives_parent r.returns x others) (arrives_task r.returns x others) cause settles

  -- too deep
  too_deep_moves : result_to r.grant i None ∈ v.results
      → IsMove m v i g s (closed r TooDeep c).after None
      (r.grant ∷ grants_of_records (without_record r.grant c.records))
  too_deep_moves told =
      let shown = shows.records r.grant r there in
      let d = ended (cleared s.content r.frame) None in
      let settles : Settles s.content d (grants_of_records (without_record r.grant c.records)) =
      record { had = had_others; lost = λ k listed at. none_some refl at.is } in
      let none_left : Ends s.content d None None =
      record {
        outcome = refl;
        none = λ n. refl;
        unrecorded = λ n. refl;
        bare = λ n j. refl;
        next = refl;
        unfilled = refl;
      } in
      moved m v i g s c (closed r TooDeep c).after None
      (r.grant ∷ grants_of_records (without_record r.grant c.records)) d live shows
      (end_shown (cleared s.content r.frame) others TooDeep (record_cleared s.content c r shows there)) refl refl
      (hears_deep r.frame r.grant (return_of r.returns) shown.stolen shown.returns told none_left)
      (with_own d (grants_of_records (without_record r.grant c.records)) refl
      (λ n k at. absurd (none_some refl at)) settles)

  -- whatever the outcome
  pub result_moves : (o : Outcome) → result_to r.grant i (outcome_number o) ∈ v.results
      → IsMove m v i g s (closed r o c).after (closed r o c).fill (r.grant ∷ grants_of_records (closed r o c).dropped)
  result_moves (Value x) told = value_moves x told
  result_moves TooDeep told = too_deep_moves told

-- a content that ends
pub end_is : (g : Grant) (t : Tables) (c : Content) (o : Outcome) → IsKept c → Shows t c → IsContentEnd g t c o
end_is g t c o kept shows =
    let shown = end_shown t c o shows in
    record {
      content = ended t (outcome_number o);
      shown = shown;
      none_left = all_ends t (outcome_number o);
      alters = alters_told g t (ended t (outcome_number o)) c (ends o c).after
          (grants_of_records c.records) shows shown refl refl (λ n k at. absurd (none_some refl at))
          (all_settled t c (outcome_number o) kept shows);
    }
