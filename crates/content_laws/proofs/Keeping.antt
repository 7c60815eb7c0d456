-- What the holder of a content keeps of it stays so at each change.
use Rattle.std.proofs.Common.{◌≡◌, ℕ, ℤ, Bool, true, false, nat_lt, if◌then◌else◌, List, [], length, Option, Some, None, refl, sym, ap}
use Rattle.ids.specs.Names.{Grant}
use Rattle.ids.specs.Named.{changed_of}
use Rattle.ids.specs.Naming.{name_of_frame, name_of_grant, name_of_record}
use Rattle.ids.specs.Ordered.{AreInOrder}
use Rattle.ids.specs.Slots.{numbers_in}
use Rattle.ids.specs.declared.outcome.Outcome.{Outcome}
use Rattle.ids.specs.declared.outcome.Outcome.TheVariants.{Value, TooDeep}
use Rattle.ids.specs.declared.returns.Return.{Return}
use Rattle.ids.specs.declared.returns.Return.TheVariants.{Whole, Local}
use Rattle.ids.specs.declared.work.Frame.{Frame}
use Rattle.ids.specs.declared.work.Record.{Record}
use Rattle.ids.specs.declared.work.Task.{Task}
use Rattle.kind_check.specs.declared.turn.Slot.{Slot}
use Rattle.kind_check.specs.declared.turn.Turn.{Turn}
use Rattle.kind_check.specs.declared.turn.Turn.TheVariants.{Sends, Joins}
use Rattle.frames.specs.Frames.{frame_in, without_frame, with_slot, fill_of}
use Rattle.frames.proofs.Joining.{join_rises}
use Rattle.victim_records.specs.Records.{record_in, without_record, with_holder}
use Rattle.sub_rules.specs.declared.content.Content.{Content}
use Rattle.sub_rules.specs.Content.{Ready, ready_in, first_frame, granted_content}
use Rattle.sub_rules.specs.Changes.{turned, replaced, joined, ends, arrives, filled_in, closed, record_of, granted_out, frame_of, redone, with_parent, with_thief}
use Rattle.sub_rules.specs.Leaving.{LacksDebtor}
use Rattle.sub_rules.proofs.Slots.{numbers_full}
use Rattle.sub_rules.proofs.Departures.{FrameLeaves, frame_leaves, record_leaves}
use Rattle.sub_rules.proofs.Arrivals.{ended_sound, filled_sound}
use Rattle.sub_rules.proofs.Joins.{joined_numbered, joined_sound}
use Rattle.sub_rules.proofs.Grants.{granted_sound, redone_sound}
use Rattle.sub_rules.proofs.Contents.{granted_is_sound, parent_sound, thief_sound}
use Rattle.content_laws.specs.Moved.{IsKept}
use Rattle.content_laws.proofs.Orders.{none_order, first_order, put_order, without_order}
use Rattle.content_laws.proofs.Granting.{ready_found}

-- a content that ended is kept
end_kept : (o : Outcome) (c : Content) → IsKept (ends o c).after
end_kept o c = record {
  sound = ended_sound o c;
  frames = none_order name_of_frame;
  records = none_order name_of_record;
}

-- a value comes to a content that lacks its debtor
value_kept : (r : Return) (v : ℤ) (c : Content) → LacksDebtor r c → AreInOrder name_of_record c.records
    → IsKept (arrives r v c).after
value_kept Whole v c lacks records = end_kept (Value v) c
value_kept (Local n j) v c lacks records = by_found (frame_in n c.frames) refl
  where
    by_found : (o : Option Frame) → frame_in n c.frames ≡ o → IsKept (filled_in j v c o).after
    by_found None is = record {
      sound = filled_sound c n j v c.frames lacks (ap (fill_of j v c.frames) (sym is));
      frames = lacks.order;
      records = records;
    }
    by_found (Some h) is = record {
      sound = filled_sound c n j v (fill_of j v c.frames (Some h)) lacks (ap (fill_of j v c.frames) (sym is));
      frames = put_order name_of_frame (with_slot j v h) c.frames lacks.order;
      records = records;
    }

module _ (c : Content) (f : Frame) (numbers : List ℤ) (kept : IsKept c) (there : frame_in f.number c.frames ≡ Some f)
    (full : numbers_in f.slots ≡ Some numbers) where
  -- what is left without a ready frame
  abbrev rest : Content
  rest = record c { frames = without_frame f.number c.frames }

  -- lacks its debtor
  pub leaves : FrameLeaves c f (without_frame f.number c.frames)
  leaves = frame_leaves c f kept.sound kept.frames
      (without_order name_of_frame (f.number, 0) c.frames kept.frames) there (numbers_full f.slots numbers full)

  -- until the frames of its join come
  join_kept : (u : ℕ) (slots : List Slot) → IsKept (replaced f.number (joined f u slots c.next) c).after
  join_kept u slots = record {
    sound = joined_sound rest f u slots leaves.lacks;
    frames = join_rises c.next rest.frames (joined f u slots c.next) leaves.lacks.order leaves.lacks.below
        (joined_numbered f u slots c.next);
    records = kept.records;
  }

  -- a turn keeps a content
  pub turn_kept : (turn : Turn) → IsKept (turned f turn c).after
  turn_kept (Sends v) = value_kept f.returns v rest leaves.lacks kept.records
  turn_kept (Joins u slots) = by_depth (nat_lt (length f.place) 1024)
    where
      by_depth : (b : Bool) → IsKept (if b then replaced f.number (joined f u slots c.next) c else ends TooDeep c).after
      by_depth true = join_kept u slots
      by_depth false = end_kept TooDeep c

module _ (c : Content) (r : Record) (kept : IsKept c) (there : record_in r.grant c.records ≡ Some r) where
  -- what is left without a record
  abbrev others : Content
  others = record c { records = without_record r.grant c.records }

  -- stands in order
  left : AreInOrder name_of_record (without_record r.grant c.records)
  left = without_order name_of_record (name_of_grant r.grant) c.records kept.records

  -- an outcome keeps a content
  pub result_kept : (o : Outcome) → IsKept (closed r o c).after
  result_kept (Value v) = value_kept r.returns v others
      (record_leaves c r kept.sound kept.frames kept.records there).lacks left
  result_kept TooDeep = end_kept TooDeep others

  -- so does a redo
  pub redo_kept : IsKept (redone r c)
  redo_kept =
      let leaves = record_leaves c r kept.sound kept.frames kept.records there in
      record {
        sound = redone_sound others r leaves.lacks leaves.free;
        frames = put_order name_of_frame (frame_of r) c.frames kept.frames;
        records = left;
      }

-- so does a Grant
pub grant_kept : (c : Content) (g : Grant) (thief n : ℕ) (r : Ready) → IsKept c → ready_in n c ≡ Some r
    → record_in g c.records ≡ None → IsKept (granted_out g thief r c)
grant_kept c g thief n r kept is new =
    let found = ready_found n c r is in
    let left = leaves c r.frame r.numbers kept found.there found.full in
    record {
      sound = granted_sound (record c {
        frames = without_frame r.frame.number c.frames;
      }) g thief r left.lacks left.free new;
      frames = left.lacks.order;
      records = put_order name_of_record (record_of g thief r) c.records kept.records;
    }

-- a content that begins is kept
pub begun_kept : (host : ℕ) (task : Task) → IsKept (granted_content host task)
begun_kept host task = record {
  sound = granted_is_sound host task;
  frames = first_order name_of_frame (first_frame task) [] tt (none_order name_of_frame);
  records = none_order name_of_record;
}

-- so is one whose host is renamed
pub parent_kept : (c : Content) (host : ℕ) → IsKept c → IsKept (with_parent host c)
parent_kept c host kept = record {
  sound = parent_sound host c kept.sound;
  frames = kept.frames;
  records = kept.records;
}

-- or the holder of a grant
pub thief_kept : (c : Content) (g : Grant) (holder : ℕ) → IsKept c → IsKept (with_thief g holder c)
thief_kept c g holder kept = record {
  sound = thief_sound g holder c kept.records kept.sound;
  frames = kept.frames;
  records = by_found (record_in g c.records);
}
  where
    by_found : (o : Option Record) → AreInOrder
        name_of_record (changed_of name_of_record (with_holder holder) c.records o)
    by_found None = kept.records
    by_found (Some x) = put_order name_of_record (with_holder holder x) c.records kept.records
