-- The number of a content's first frame stays given.
use Rattle.std.proofs.Common.{◌≡◌, ℕ, ℤ, ◌+◌, ◌^◌, ◌<◌, Bool, true, false, nat_lt, cond, length, Option, Some, None, Result, Ok, Err, arith}
use Rattle.ids.specs.Names.{Grant}
use Rattle.ids.specs.declared.outcome.Outcome.{Outcome}
use Rattle.ids.specs.declared.outcome.Outcome.TheVariants.{Value, TooDeep}
use Rattle.ids.specs.declared.returns.Return.{Return}
use Rattle.ids.specs.declared.returns.Return.TheVariants.{Whole, Local}
use Rattle.ids.specs.declared.work.Frame.{Frame}
use Rattle.ids.specs.declared.work.Record.{Record}
use Rattle.kind_check.specs.declared.turn.Turn.{Turn}
use Rattle.kind_check.specs.declared.turn.Turn.TheVariants.{Sends, Joins}
use Rattle.body_eval.specs.Done.{DoneOf}
use Rattle.frames.specs.Frames.{frame_in, without_frame}
use Rattle.victim_records.specs.Records.{record_in, without_record}
use Rattle.sub_rules.specs.Carrying.{exec_content, executed, is_turn_of, within_numbers}
use Rattle.sub_rules.specs.Resuming.{Known, resumed}
use Rattle.sub_rules.specs.Changes.{arrives, closed, closed_in, ends, filled_in, joined, replaced, turned}
use Rattle.sub_rules.specs.declared.change.ContentChange.{ContentChange}
use Rattle.sub_rules.specs.declared.change.SubError.{SubError}
use Rattle.sub_rules.specs.declared.change.SubError.TheVariants.{Stale, Spent}
use Rattle.sub_rules.specs.declared.content.Content.{Content}

abbrev Begun : Content → Type 0
Begun c = 0 < c.next

-- a value comes
arrives_begun : (r : Return) (v : ℤ) (c : Content) → Begun c → Begun (arrives r v c).after
arrives_begun Whole v c begun = begun
arrives_begun (Local n j) v c begun = by_frame (frame_in n c.frames)
  where
    by_frame : (o : Option Frame) → Begun (filled_in j v c o).after
    by_frame None = begun
    by_frame (Some f) = begun

-- a frame's turn
turned_begun : (f : Frame) (t : Turn) (c : Content) → Begun c → Begun (turned f t c).after
turned_begun f (Sends v) c begun = arrives_begun f.returns v
    (record c { frames = without_frame f.number c.frames }) begun
turned_begun f (Joins t slots) c begun = by_length (nat_lt (length f.place) 1024)
  where
    more : (n m : ℕ) → 0 < n → 0 < n + m
    more n m some = omega arith

    by_length : (b : Bool) → Begun (cond b (replaced f.number (joined f t slots c.next) c) (ends TooDeep c)).after
    by_length true = more c.next (length (joined f t slots c.next)) begun
    by_length false = begun

-- after a frame is carried out
pub exec_begun : (known : Known) (c x : Content) (d : DoneOf) (n : ℕ) (change : ContentChange) → x ≡ c
    → exec_content known d n x ≡ Ok change → 0 < c.next → 0 < change.after.next
exec_begun known c x d n change same is begun = by_frame (frame_in n c.frames) (rw same at is)
  where
    by_next : (f : Frame) (b : Bool) → cond {A =
        Result ContentChange SubError} b (Ok (turned f (resumed known f.place d.turn) c)) (Err Spent) ≡ Ok change
        → Begun change.after
    by_next f true at =
        let equal : turned f (resumed known f.place d.turn) c ≡ change = cc in
        rw (← equal) (turned_begun f (resumed known f.place d.turn) c begun)
    by_next f false at = absurd cc

    by_turn : (f : Frame) (b : Bool) → cond {A =
        Result ContentChange SubError} b (within_numbers (turned f (resumed known f.place d.turn) c)) (Err Stale)
        ≡ Ok change → Begun change.after
    by_turn f true at = by_next f (nat_lt (turned f (resumed known f.place d.turn) c).after.next (2 ^ 32)) at
    by_turn f false at = absurd cc

    by_frame : (o : Option Frame) → executed known d c o ≡ Ok change → Begun change.after
    by_frame None at = absurd cc
    by_frame (Some f) at = by_turn f (is_turn_of d f) at

-- after an outcome came
pub result_begun : (c : Content) (g : Grant) (o : Outcome) (change : ContentChange)
    → Some change ≡ closed_in o c (record_in g c.records) → 0 < c.next → 0 < change.after.next
result_begun c g o change is begun = by_record (record_in g c.records) is
  where
    closed_begun : (r : Record) (o : Outcome) → Begun (closed r o c).after
    closed_begun r (Value v) = arrives_begun r.returns v (record c { records = without_record r.grant c.records }) begun
    closed_begun r TooDeep = begun

    by_record : (r : Option Record) → Some change ≡ closed_in o c r → Begun change.after
    by_record None at = absurd cc
    by_record (Some r) at =
        let equal : closed r o c ≡ change = cc in
        rw (← equal) (closed_begun r o)
