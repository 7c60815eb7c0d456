-- Frames that a join makes come into tables, in the place of the frame that joined.
use Rattle.std.proofs.Common.{◌≡◌, ◌≢◌, ℕ, ℤ, ◌+◌, ◌<◌, ◌≤◌, zero, suc, cond, List, [], ◌∷◌, ◌++◌, map, length, Option, Some, None, ◌⊎◌, inl, inr, refl, sym, ap, ◌∙◌, arith, Ordering, Less, Equal, Greater}
use Rattle.std.specs.List.{AllByRecursion, slice_get}
use Rattle.std.specs.Ordering.{is_eq}
use Rattle.std.proofs.lemmas.Bool.Decides.{leb_tells}
use Rattle.ids.specs.Named.{Name, name_cmp}
use Rattle.ids.specs.Naming.{name_of_frame, name_of_grant, name_of_record}
use Rattle.ids.specs.declared.returns.Return.TheVariants.{Local}
use Rattle.ids.specs.declared.work.Frame.{Frame}
use Rattle.ids.specs.declared.work.Record.{Record}
use Rattle.ids.proofs.NameOrder.{exact_names}
use Rattle.kind_check.specs.declared.turn.Kid.{Kid}
use Rattle.kind_check.specs.declared.turn.Slot.{Slot}
use Rattle.kind_check.specs.declared.turn.Slot.TheVariants.{Filled, Awaits}
use Rattle.frames.specs.Frames.{frame_in, AreBelow, AreNumbered}
use Rattle.sub_rules.specs.declared.content.Content.{Content}
use Rattle.sub_rules.specs.Changes.{successor, kids, joined}
use Rattle.sub_rules.proofs.Sums.{all_found, equal_to_itself}
use Rattle.sub_rules.proofs.Numbers.{absent, below_none, numbered_above, numbered_below}
use Rattle.sub_rules.proofs.Joins.{joined_numbered}
use Rattle.agreement_laws.proofs.Finding.{passed, behind, before, before_or_behind}
use Rattle.table_laws.specs.Tables.{put, put_row}
use Rattle.table_laws.specs.Content as tables
use Rattle.table_laws.specs.Content.{Content as Tables, Absent, SameWork}
use Rattle.table_laws.specs.Meaning as meaning
use Rattle.table_laws.specs.Meaning.{Part}
use Rattle.table_laws.specs.Program.{part_of}
use Rattle.table_laws.specs.Causes.{KidAt, KidNumber, Joined}
use Rattle.table_laws.proofs.Lists.{same_or, some_same, none_some}
use Rattle.table_laws.proofs.Entries.{put_here, put_other, row_here, row_other}
use Rattle.content_laws.specs.Shown.{return_of, slot_of, IsUnused, ShowsFrame, ShowsRecord, ShowsNothing, Shows}
use Rattle.content_laws.proofs.Rows.{given_row, begun_row}
use Rattle.content_laws.proofs.Apart.{own_number, other_name}
use Rattle.content_laws.proofs.Leaving.{cleared}

-- a frame that is made on top of what a table has
abbrev pub returns_on : Option tables.Return → Option Frame → Option tables.Return
returns_on r None = r
returns_on r (Some f) = Some (return_of f.returns)

-- its place
abbrev pub place_on : List ℕ → Option Frame → List ℕ
place_on place None = place
place_on place (Some f) = f.place

-- its thread
abbrev pub thread_on : ℕ → Option Frame → ℕ
thread_on thread None = thread
thread_on thread (Some f) = f.thread

-- and its slots
abbrev pub slot_on : tables.Slot → ℕ → Option Frame → tables.Slot
slot_on slot j None = slot
slot_on slot j (Some f) = slot_of (slice_get f.slots j)

-- tables with frames made on top of them, and another next number
abbrev pub with_made : Tables → List Frame → ℕ → Tables
with_made t made next =
    record t {
      next = next;
      place = λ k. place_on (t.place k) (frame_in k made);
      thread = λ k. thread_on (t.thread k) (frame_in k made);
      returns = λ k. returns_on (t.returns k) (frame_in k made);
      slots = λ k j. slot_on (t.slots k j) j (frame_in k made);
    }

-- frames that are numbered from a number on have no lower one
pub none_made : (next k : ℕ) (made : List Frame) → AreNumbered next made → k < next → frame_in k made ≡ None
none_made next k made numbered less = absent k made (numbered_above next k made numbered less)

-- so one that is found has none
made_above : (next k : ℕ) (g : Frame) (made : List Frame) → AreNumbered next made → frame_in k made ≡ Some g → next ≤ k
made_above next k g made numbered there = elim (leb_tells next k) [
  | inl both ↦ both.1
  | inr both ↦ absurd (none_some (none_made next k made numbered (both.1)) there)
]

-- no number from the next one on is used
pub unused_from : (c : Content) (k : ℕ) → AreBelow c.next c.frames → AllByRecursion (λ r. r.frame < c.next) c.records
    → c.next ≤ k → IsUnused c k
unused_from c k below stolen le = record {
  frame = absent k c.frames (below_none c.next k c.frames below le);
  record_of = λ g x at same. (let less =
      all_found name_of_record (λ (r : Record). r.frame < c.next)
      (name_of_grant g) x c.records stolen at in omega arith);
}

module _ (t : Tables) (c : Content) (made : List Frame) (next : ℕ) (shows : Shows t c)
    (below : AreBelow c.next c.frames) (stolen : AllByRecursion (λ r. r.frame < c.next) c.records)
    (numbered : AreNumbered c.next made) where
  -- what was there stays
  frame_kept : (f : Frame) → f.number < c.next → ShowsFrame t f → ShowsFrame (with_made t made next) f
  frame_kept f less shown =
      let none = none_made c.next f.number made numbered less in
      record {
        returns = ap (returns_on (t.returns f.number)) none ∙ shown.returns;
        place = ap (place_on (t.place f.number)) none ∙ shown.place;
        thread = ap (thread_on (t.thread f.number)) none ∙ shown.thread;
        slots = λ j. ap (slot_on (t.slots f.number j) j) none ∙ shown.slots j;
        unstolen = shown.unstolen;
      }

  -- records too
  record_kept : (x : Record) → x.frame < c.next → ShowsRecord t x → ShowsRecord (with_made t made next) x
  record_kept x less shown =
      let none = none_made c.next x.frame made numbered less in
      record {
        returns = ap (returns_on (t.returns x.frame)) none ∙ shown.returns;
        holds = record {
          place = ap (place_on (t.place x.frame)) none ∙ shown.holds.place;
          thread = ap (thread_on (t.thread x.frame)) none ∙ shown.holds.thread;
          numbers = λ j. ap (slot_on (t.slots x.frame j) j) none ∙ shown.holds.numbers j;
        };
        stolen = shown.stolen;
      }

  -- and numbers that show nothing
  nothing_kept : (m : ℕ) → frame_in m made ≡ None → ShowsNothing t m → ShowsNothing (with_made t made next) m
  nothing_kept m none shown = record {
    returns = ap (returns_on (t.returns m)) none ∙ shown.returns;
    slots = λ j. ap (slot_on (t.slots m j) j) none ∙ shown.slots j;
    unstolen = shown.unstolen;
  }

  -- a new frame is shown
  frame_made : (f : Frame) → frame_in f.number made ≡ Some f → ShowsFrame (with_made t made next) f
  frame_made f there = record {
    returns = ap (returns_on (t.returns f.number)) there;
    place = ap (place_on (t.place f.number)) there;
    thread = ap (thread_on (t.thread f.number)) there;
    slots = λ j. ap (slot_on (t.slots f.number j) j) there;
    unstolen = (shows.unused f.number (unused_from c f.number below stolen
        (made_above c.next f.number f made numbered there))).unstolen;
  }

  -- a number that no frame has in the end was none's before
  none_before : (m : ℕ) (o : Option Frame) → frame_in m c.frames ≡ o → frame_in m (c.frames ++ made) ≡ None
      → frame_in m c.frames ≡ None
  none_before m None is none = is
  none_before m (Some y) is none = absurd (none_some none (before name_of_frame (m, 0) y c.frames made is))

  -- frames that are made behind those of a content that is shown
  pub made_shown : Shows (with_made t made next) (record c { next = next; frames = c.frames ++ made })
  made_shown = record {
    host = shows.host;
    task = shows.task;
    next = refl;
    outcome = shows.outcome;
    frames = λ m f at. by_part m f (before_or_behind name_of_frame (m, 0) f c.frames made at);
    records = λ g x at. record_kept x (all_found name_of_record (λ (r : Record). r.frame < c.next)
        (name_of_grant g) x c.records stolen at) (shows.records g x at);
    unused = λ m u. (
        let old = none_before m (frame_in m c.frames) refl u.frame in
        let new : frame_in m made ≡ None = sym (behind name_of_frame (m, 0) c.frames made old) ∙ u.frame in
        nothing_kept m new (shows.unused m (record { frame = old; record_of = u.record_of })));
  }
    where
      by_part : (m : ℕ) (f : Frame) → (frame_in m c.frames ≡ Some f) ⊎ (frame_in m made ≡ Some f)
          → ShowsFrame (with_made t made next) f
      by_part m f (inl was) = frame_kept f
          (all_found name_of_frame (λ (g : Frame). g.number < c.next) (m, 0) f c.frames below was)
          (shows.frames m f was)
      by_part m f (inr new) = frame_made f (own_number m f made new)

-- how many slots before slot j await a kid
abbrev pub kids_before : ℕ → List Slot → ℕ
kids_before zero slots = 0
kids_before (suc j) [] = 0
kids_before (suc j) (Filled v ∷ slots) = kids_before j slots
kids_before (suc j) (Awaits kid ∷ slots) = suc (kids_before j slots)

-- the kid of a slot, as frame m, which returns to slot j of frame n
abbrev pub kid_frame : List ℕ → ℕ → ℕ → ℕ → Kid → Frame
kid_frame place n j m kid = record {
  number = m;
  place = kid.hole ∷ place;
  thread = kid.thread;
  slots = map Some kid.arguments;
  returns = Local n j;
}

-- the first is found
first_frame : (f : Frame) (frames : List Frame) → frame_in f.number (f ∷ frames) ≡ Some f
first_frame f frames = ap (λ r. cond (is_eq r) (Some f) (frame_in f.number frames)) (equal_to_itself (f.number, 0))

-- the kid of a slot is found under its number
pub kid_found : (place : List ℕ) (n i m : ℕ) (slots : List Slot) (j a b : ℕ) (kid : Kid)
    → slice_get slots j ≡ Some (Awaits kid) → a ≡ i + j → b ≡ m + kids_before j slots
    → frame_in b (kids place n i m slots) ≡ Some (kid_frame place n a b kid)
kid_found place n i m [] j a b kid at slot number = cc
kid_found place n i m (Filled v ∷ slots) zero a b kid at slot number = cc
kid_found place n i m (Filled v ∷ slots) (suc j) a b kid at slot number =
    kid_found place n (i + 1) m slots j a b kid at (omega arith) number
kid_found place n i m (Awaits k ∷ slots) zero a b kid at slot number =
    let same : k ≡ kid = cc in
    let slot_is : a ≡ i = omega arith in
    let number_is : b ≡ m = omega arith in
    let first : frame_in m (kids place n i m (Awaits k ∷ slots)) ≡ Some (kid_frame place n i m k) =
    first_frame (kid_frame place n i m k) (kids place n (i + 1) (m + 1) slots) in
    ap (λ (x : ℕ). frame_in x (kids place n i m (Awaits k ∷ slots))) number_is ∙ first
    ∙ rw (slot_is, number_is, same) refl
kid_found place n i m (Awaits k ∷ slots) (suc j) a b kid at slot number =
    let other : b ≢ m = λ same. omega arith in
    passed name_of_frame (b, 0) (kid_frame place n i m k) (kids place n (i + 1) (m + 1) slots) (other_name b m other)
    ∙ kid_found place n (i + 1) (m + 1) slots j a b kid at (omega arith) (omega arith)

-- and each number of a kid is that of a slot
pub record KidThere (slots : List Slot) (m b : ℕ) : Type 0 where
  pub slot : ℕ
  pub kid : Kid
  pub at : slice_get slots slot ≡ Some (Awaits kid)
  pub number : b ≡ m + kids_before slot slots

-- the slot of a kid that is found
pub found_kid : (place : List ℕ) (n i m : ℕ) (slots : List Slot) (b : ℕ) (g : Frame)
    → frame_in b (kids place n i m slots) ≡ Some g → KidThere slots m b
found_kid place n i m [] b g there = cc
found_kid place n i m (Filled v ∷ slots) b g there =
    let rest = found_kid place n (i + 1) m slots b g there in
    record { slot = suc rest.slot; kid = rest.kid; at = rest.at; number = rest.number }
found_kid place n i m (Awaits k ∷ slots) b g there =
    by_order (λ e. later (found_kid place n (i + 1) (m + 1) slots b g e)) (name_cmp (b, 0) (m, 0)) refl there
  where
    later : KidThere slots (m + 1) b → KidThere (Awaits k ∷ slots) m b
    later rest = record {
      slot = suc rest.slot;
      kid = rest.kid;
      at = rest.at;
      number = let number =
          rest.number in omega arith;
    }

    by_order : (frame_in b (kids place n (i + 1) (m + 1) slots) ≡ Some g → KidThere (Awaits k ∷ slots) m b)
        → (r : Ordering) → name_cmp (b, 0) (m, 0) ≡ r
        → cond (is_eq r) (Some (kid_frame place n i m k)) (frame_in b (kids place n (i + 1) (m + 1) slots)) ≡ Some g
        → KidThere (Awaits k ∷ slots) m b
    by_order rest Less is at = rest at
    by_order rest Greater is at = rest at
    by_order rest Equal is at =
        let same : b ≡ m = ap (λ (name : Name). name.0) (exact_names (b, 0) (m, 0) is) in
        record { slot = 0; kid = k; at = refl; number = omega arith }

-- a part that awaits a kid is that of such a slot
record KidPart (slots : List Slot) (j hole thread : ℕ) (numbers : List ℤ) : Type 0 where
  kid : Kid
  at : slice_get slots j ≡ Some (Awaits kid)
  hole_is : kid.hole ≡ hole
  thread_is : kid.thread ≡ thread
  numbers_are : kid.arguments ≡ numbers

-- there is a slot for it
kid_part : (slots : List Slot) (j hole thread : ℕ) (numbers : List ℤ)
    → slice_get (map part_of slots) j ≡ Some (meaning.Kid hole thread numbers) → KidPart slots j hole thread numbers
kid_part [] j hole thread numbers at = cc
kid_part (Filled v ∷ slots) zero hole thread numbers at = cc
kid_part (Awaits k ∷ slots) zero hole thread numbers at =
    let same : meaning.Kid k.hole k.thread k.arguments ≡ meaning.Kid hole thread numbers = some_same at in
    record { kid = k; at = refl; hole_is = cc; thread_is = cc; numbers_are = cc }
kid_part (slot ∷ slots) (suc j) hole thread numbers at =
    let rest = kid_part slots j hole thread numbers at in
    record {
      kid = rest.kid;
      at = rest.at;
      hole_is = rest.hole_is;
      thread_is = rest.thread_is;
      numbers_are = rest.numbers_are;
    }

-- and the other way round
part_kid : (slots : List Slot) (j : ℕ) (kid : Kid) → slice_get slots j ≡ Some (Awaits kid)
    → slice_get (map part_of slots) j ≡ Some (meaning.Kid kid.hole kid.thread kid.arguments)
part_kid [] j kid at = cc
part_kid (slot ∷ slots) zero kid at = let same : slot ≡ Awaits kid = some_same at in rw same refl
part_kid (slot ∷ slots) (suc j) kid at = part_kid slots j kid at

-- the tables of a join have what a move asks of them
module _ (t : Tables) (f : Frame) (u : ℕ) (slots : List Slot) (place : t.place f.number ≡ f.place)
    (less : f.number < t.next) (active : t.outcome ≡ None) (above : (k : ℕ) → t.next ≤ k
    → ShowsNothing t k) (bare : (k : ℕ) → t.returns k ≡ None → ShowsNothing t k) where
  -- the frames that it makes
  abbrev pub made : List Frame
  made = joined f u slots t.next

  -- the tables after it
  abbrev pub joined_tables : Tables
  joined_tables = with_made (cleared t f.number) made (t.next + length made)

  -- they are numbered from the next number on
  numbered : AreNumbered t.next made
  numbered = joined_numbered f u slots t.next

  -- so none has an older one
  none_old : (k : ℕ) → k < t.next → frame_in k made ≡ None
  none_old k old = none_made t.next k made numbered old

  -- the successor is found
  successor_there : frame_in t.next made ≡ Some (successor f u slots t.next)
  successor_there = first_frame (successor f u slots t.next) (kids f.place t.next 0 (t.next + 1) slots)

  -- the number of the kid of a slot
  abbrev pub number_of_kid : ℕ → ℕ
  number_of_kid j = t.next + 1 + kids_before j slots

  -- which is found under it
  kid_there : (j : ℕ) (kid : Kid) → slice_get slots j ≡ Some (Awaits kid)
      → frame_in (number_of_kid j) made ≡ Some (kid_frame f.place t.next j (number_of_kid j) kid)
  kid_there j kid at =
      let other : number_of_kid j ≢ t.next = λ same. omega arith in
      passed name_of_frame (number_of_kid j, 0) (successor f u slots t.next) (kids f.place t.next 0 (t.next + 1) slots)
      (other_name (number_of_kid j) t.next other)
      ∙ kid_found f.place t.next 0 (t.next + 1) slots j j (number_of_kid j) kid at (omega arith) refl

  -- and stands so in the tables
  kid_at : (j hole thread : ℕ) (numbers : List ℤ)
      → slice_get (map part_of slots) j ≡ Some (meaning.Kid hole thread numbers)
      → KidAt t joined_tables f.number (number_of_kid j) j hole thread numbers
  kid_at j hole thread numbers part =
      let k = kid_part slots j hole thread numbers part in
      let there = kid_there j k.kid k.at in
      record {
        above = omega arith;
        below = all_found name_of_frame (λ (g : Frame). g.number < t.next + length made) (number_of_kid j, 0)
            (kid_frame f.place t.next j (number_of_kid j) k.kid) made (numbered_below t.next made numbered) there;
        returns = ap (returns_on _) there;
        place = ap (place_on _) there ∙ rw (k.hole_is, place) refl;
        thread = ap (thread_on _) there ∙ k.thread_is;
        slots = λ l. ap (slot_on _ l) there ∙ given_row k.kid.arguments l ∙ ap (λ ns. tables.given ns l) k.numbers_are;
      }

  -- a new number is another one
  other_than : (k : ℕ) → t.next ≤ k → k ≢ f.number
  other_than k le same = omega arith

  -- what returns under a number behind the successor's is a kid
  kid_number : (k : ℕ) (s : tables.Return) → t.next < k → joined_tables.returns k ≡ Some s
      → KidNumber (map part_of slots) number_of_kid k
  kid_number k s more at = by_made (frame_in k made) refl at
    where
      by_made : (o : Option Frame) → frame_in k made ≡ o → returns_on (put t.returns f.number None k) o ≡ Some s
          → KidNumber (map part_of slots) number_of_kid k
      by_made None is e = absurd (none_some (put_other t.returns f.number k None (other_than k (omega arith))
          ∙ (above k (omega arith)).returns) e)
      by_made (Some g) is e =
          let other : k ≢ t.next = λ same. omega arith in
          let behind_it = sym (passed name_of_frame (k, 0) (successor f u slots t.next)
          (kids f.place t.next 0 (t.next + 1) slots) (other_name k t.next other)) ∙ is in
          let kid = found_kid f.place t.next 0 (t.next + 1) slots k g behind_it in
          record {
            slot = kid.slot;
            hole = kid.kid.hole;
            thread = kid.kid.thread;
            numbers = kid.kid.arguments;
            part = part_kid slots kid.slot kid.kid kid.at;
            is = kid.number;
          }

  -- what returns nothing has no slots
  nothing_bare : (k l : ℕ) → joined_tables.returns k ≡ None → joined_tables.slots k l ≡ Absent
  nothing_bare k l at = by_made (frame_in k made) refl at
    where
      by_number : (k ≡ f.number) ⊎ (k ≢ f.number) → put t.returns f.number None k ≡ None
          → put_row t.slots f.number (λ j. Absent) k l ≡ Absent
      by_number (inl same) e = rw same (row_here t.slots f.number l (λ j. Absent))
      by_number (inr other) e = row_other t.slots f.number k l (λ j. Absent) other
          ∙ (bare k (sym (put_other t.returns f.number k None other) ∙ e)).slots l

      by_made : (o : Option Frame) → frame_in k made ≡ o → returns_on (put t.returns f.number None k) o ≡ None
          → slot_on (put_row t.slots f.number (λ j. Absent) k l) l o ≡ Absent
      by_made None is e = by_number (same_or k f.number) e
      by_made (Some g) is e = absurd (none_some e refl)

  -- no new number is a record's, nor the one that is gone
  nothing_granted : (k : ℕ) → (t.next ≤ k) ⊎ (k ≡ f.number) → put t.granted f.number None k ≡ None
  nothing_granted k (inl le) = put_other t.granted f.number k None (other_than k le) ∙ (above k le).unstolen
  nothing_granted k (inr same) = rw same (put_here t.granted f.number None)

  -- so it is what a move asks of a join
  pub join_is : Joined t joined_tables f.number u (return_of f.returns) (map part_of slots)
  join_is = record {
    gone = ap (returns_on _) (none_old f.number less) ∙ put_here t.returns f.number None;
    kept = λ k old other. (
      ap (returns_on _) (none_old k old) ∙ put_other t.returns f.number k None other,
      record {
        place = ap (place_on _) (none_old k old);
        thread = ap (thread_on _) (none_old k old);
        slots = λ j. ap (slot_on _ j) (none_old k old) ∙ row_other t.slots f.number k j (λ l. Absent) other;
      },
      put_other t.granted f.number k None other,
    );
    ungranted = nothing_granted;
    places = λ k old. ap (place_on _) (none_old k old);
    successor = ap (returns_on _) successor_there;
    place = ap (place_on _) successor_there ∙ rw place refl;
    thread = ap (thread_on _) successor_there;
    slots = λ j. ap (slot_on _ j) successor_there ∙ begun_row slots j;
    number = number_of_kid;
    kid = kid_at;
    only = kid_number;
    bare = nothing_bare;
    next = omega arith;
    active = active;
  }
