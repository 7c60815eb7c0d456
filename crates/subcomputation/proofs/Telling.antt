-- What a call of a subcomputation tells of its ready frames and its records.
use Rattle.sub_rules.specs.Updates.{opened_in, opening_of}
use Rattle.std.proofs.Common.{◌≡◌, ℕ, ℤ, ◌^◌, ◌&&◌, zero, suc, Bool, true, false, nat_eq, nat_lt, List, [], ◌∷◌, cond, length, Option, Some, None, Result, Ok, Err, refl, ap, ◌∙◌}
use Rattle.ids.specs.Names.{Grant}
use Rattle.ids.specs.Naming.{name_of_frame, name_of_grant, name_of_record}
use Rattle.ids.specs.Ordered.{AreInOrder}
use Rattle.ids.specs.declared.outcome.Outcome.{Outcome}
use Rattle.ids.specs.declared.outcome.Outcome.TheVariants.{Value, TooDeep}
use Rattle.ids.specs.declared.returns.Return.{Return}
use Rattle.ids.specs.declared.returns.Return.TheVariants.{Whole, Local}
use Rattle.ids.specs.declared.work.Frame.{Frame}
use Rattle.ids.specs.declared.work.Record.{Record}
use Rattle.kind_check.specs.declared.turn.Turn.{Turn}
use Rattle.kind_check.specs.declared.turn.Turn.TheVariants.{Sends, Joins}
use Rattle.body_eval.specs.Done.{DoneOf}
use Rattle.frames.specs.Frames.{frame_in, missing_in, without_frame}
use Rattle.victim_records.specs.Records.{record_in, without_record}
use Rattle.sub_rules.specs.Carrying.{exec_content, executed, holds_numbers, is_turn_of, within_numbers}
use Rattle.sub_rules.specs.Resuming.{Known, resumed}
use Rattle.sub_rules.specs.Changes.{arrives, closed, closed_in, done_again, ends, filled_in, frame_of, given_away, granted_out, joined, readied, record_of, redone, replaced, turned}
use Rattle.sub_rules.specs.Content.{Ready, ready_in, task_of}
use Rattle.sub_rules.specs.Debts.{IsSound}
use Rattle.sub_rules.specs.Readiness.{TellsReady}
use Rattle.sub_rules.specs.declared.change.ContentChange.{ContentChange}
use Rattle.sub_rules.specs.declared.change.ContentRedo.{ContentRedo}
use Rattle.sub_rules.specs.declared.change.ContentGrant.{ContentGrant}
use Rattle.sub_rules.specs.declared.change.Opening.{Opening}
use Rattle.sub_rules.specs.declared.change.SubError.{SubError}
use Rattle.sub_rules.specs.declared.change.SubError.TheVariants.{Stale, Spent}
use Rattle.sub_rules.specs.declared.content.Content.{Content}
use Rattle.sub_rules.proofs.Contents.{ready_test}
use Rattle.sub_rules.proofs.Slots.{empty_holds_none}
use Rattle.sub_rules.proofs.Sums.{found_name}
use Rattle.sub_rules.proofs.Tellings.{turned_tells, closed_tells, granted_tells, redone_tells}
use Rattle.subcomputation.specs.Told.{HasNoOthers, HasNoOthersBut}
use Rattle.subcomputation.proofs.Others.{none_left, put_other}

-- records stay, or go
abbrev Less : Content → Content → Type 0
Less c after = HasNoOthers c.records after.records

arrives_less : (r : Return) (v : ℤ) (c : Content) → Less c (arrives r v c).after
arrives_less Whole v c = λ h none. refl
arrives_less (Local n j) v c = by_frame (frame_in n c.frames)
  where
    by_frame : (o : Option Frame) → Less c (filled_in j v c o).after
    by_frame None = λ h none. none
    by_frame (Some f) = λ h none. none

turned_less : (f : Frame) (t : Turn) (c : Content) → Less c (turned f t c).after
turned_less f (Sends v) c = arrives_less f.returns v (record c { frames = without_frame f.number c.frames })
turned_less f (Joins t slots) c = by_length (nat_lt (length f.place) 1024)
  where
    by_length : (b : Bool) → Less c (cond b (replaced f.number (joined f t slots c.next) c) (ends TooDeep c)).after
    by_length true = λ h none. none
    by_length false = λ h none. refl

less_left : (g h : Grant) (records : List Record) → record_in h records ≡ None
    → record_in h (without_record g records) ≡ None
less_left g h records none = none_left name_of_record (name_of_grant h) (name_of_grant g) records none

closed_less : (r : Record) (o : Outcome) (c : Content) → Less c (closed r o c).after
closed_less r (Value v) c = λ h none.
    arrives_less r.returns v (record c { records = without_record r.grant c.records }) h
    (less_left r.grant h c.records none)
closed_less r TooDeep c = λ h none. refl

redone_less : (r : Record) (c : Content) → Less c (redone r c)
redone_less r c = λ h none. less_left r.grant h c.records none

abbrev named : ℕ → ℕ → Grant
named a b = record { minter = a; number = b }

same_name : (g h : Grant) → name_of_grant g ≡ name_of_grant h → g ≡ h
same_name g h is = same_fields g.minter g.number h.minter h.number (ap (λ k. k.0) is) (ap (λ k. k.1) is)
  where
    same_fields : (a b c d : ℕ) → a ≡ c → b ≡ d → named a b ≡ named c d
    same_fields a b c d first second = cc

granted_less : (g : Grant) (thief : ℕ) (r : Ready) (c : Content)
    → HasNoOthersBut g c.records (granted_out g thief r c).records
granted_less g thief r c = λ h other none.
    put_other name_of_record (name_of_grant h) (record_of g thief r) c.records (λ is. other (same_name h g is)) ∙ none

-- what a call tells
pub record Tells (c : Content) (change : ContentChange) : Type 0 where
  pub ready : TellsReady c change.after change.ready
  pub records : HasNoOthers c.records change.after.records

turn_is_ready : (d : DoneOf) (f : Frame) → is_turn_of d f ≡ true → missing_in f.slots ≡ 0
turn_is_ready d f is = by_count (missing_in f.slots) refl
  where
    second : (a b : Bool) → (a && b) ≡ true → b ≡ true
    second true b is = is
    second false b is = cc

    by_count : (k : ℕ) → missing_in f.slots ≡ k → missing_in f.slots ≡ 0
    by_count zero count = count
    by_count (suc k) count =
        let holds = second (nat_eq f.thread d.thread) (holds_numbers f.slots d.numbers) is in
        let none = empty_holds_none f.slots d.numbers k count in
        cc

pub exec_tells : (known : Known) (c x : Content) (d : DoneOf) (n : ℕ) (change : ContentChange) → x ≡ c → IsSound c
    → AreInOrder name_of_frame c.frames → exec_content known d n x ≡ Ok change → Tells c change
exec_tells known c x d n change same sound order is = by_frame (frame_in n c.frames) refl (rw same at is)
  where
    by_next : (f : Frame) → frame_in n c.frames ≡ Some f → is_turn_of d f ≡ true → (b : Bool)
        → cond {A = Result ContentChange SubError} b (Ok (turned f (resumed known f.place d.turn) c)) (Err Spent)
        ≡ Ok change → Tells c change
    by_next f there turn true at =
        let equal : turned f (resumed known f.place d.turn) c ≡ change = cc in
        let name = found_name name_of_frame (n, 0) f c.frames there in
        let number : n ≡ f.number = ap (λ k. k.0) name in
        let found : frame_in f.number c.frames ≡ Some f = rw number at there in
        rw (← equal) (record {
          ready = turned_tells c f (resumed known f.place d.turn) sound order found
              (ready_test f (turn_is_ready d f turn));
          records = turned_less f (resumed known f.place d.turn) c;
        })
    by_next f there turn false at = cc

    by_turn : (f : Frame) → frame_in n c.frames ≡ Some f → (b : Bool) → is_turn_of d f ≡ b
        → cond {A = Result ContentChange SubError} b (within_numbers (turned f (resumed known f.place d.turn) c))
        (Err Stale) ≡ Ok change → Tells c change
    by_turn f there true turn at = by_next f there turn
        (nat_lt (turned f (resumed known f.place d.turn) c).after.next (2 ^ 32)) at
    by_turn f there false turn at = cc

    by_frame : (o : Option Frame) → frame_in n c.frames ≡ o → executed known d c o ≡ Ok change → Tells c change
    by_frame None there at = cc
    by_frame (Some f) there at = by_turn f there (is_turn_of d f) refl at

pub result_tells : (c x : Content) (g : Grant) (o : Outcome) (change : ContentChange) → x ≡ c → IsSound c
    → AreInOrder name_of_frame c.frames → AreInOrder name_of_record c.records
    → Some change ≡ closed_in o x (record_in g x.records) → Tells c change
result_tells c x g o change same sound frames records is = by_record (record_in g c.records) refl (rw same at is)
  where
    by_record : (r : Option Record) → record_in g c.records ≡ r → Some change ≡ closed_in o c r → Tells c change
    by_record None there at = cc
    by_record (Some r) there at =
        let equal : closed r o c ≡ change = cc in
        let name = found_name name_of_record (name_of_grant g) r c.records there in
        let found : record_in r.grant c.records ≡ Some r = rw (same_name g r.grant name) at there in
        rw (← equal) (record { ready = closed_tells c r o sound frames records found; records = closed_less r o c })

-- the same of a frame that is given away, and of one that is done again
pub record Gives (c after : Content) (g : Grant) : Type 0 where
  pub ready : TellsReady c after []
  pub records : HasNoOthersBut g c.records after.records

pub grant_tells : (c x : Content) (g : Grant) (thief n : ℕ) (given : ContentGrant) → x ≡ c
    → AreInOrder name_of_frame c.frames → Some given ≡ given_away g thief x (ready_in n x) → Gives c given.after g
grant_tells c x g thief n given same frames is = by_ready (ready_in n c) (rw same at is)
  where
    by_ready : (r : Option Ready) → Some given ≡ given_away g thief c r → Gives c given.after g
    by_ready None at = cc
    by_ready (Some r) at =
        let equal : granted_out g thief r c ≡ given.after = cc in
        rw (← equal) (record { ready = granted_tells c g thief r frames; records = granted_less g thief r c })

-- what is prepared of a frame gives it away
pub opening_gives : (c x : Content) (g : Grant) (thief n : ℕ) (p : Opening) → x ≡ c
    → Some p ≡ opening_of g thief (ready_in n x)
    → Some (record { after = opened_in p.opened c; task = p.task }) ≡ given_away g thief c (ready_in n c)
opening_gives c x g thief n p same is = by_ready (ready_in n c) (rw same at is)
  where
    by_ready : (r : Option Ready) → Some p ≡ opening_of g thief r
        → Some (record { after = opened_in p.opened c; task = p.task }) ≡ given_away g thief c r
    by_ready None at = cc
    by_ready (Some r) at =
        let equal : record { opened = record_of g thief r; task = task_of r } ≡ p = cc in
        rw (← equal) refl

pub record Repeats (c : Content) (again : ContentRedo) : Type 0 where
  pub ready : TellsReady c again.after (again.ready ∷ [])
  pub records : HasNoOthers c.records again.after.records

pub redo_tells : (c x : Content) (g : Grant) (again : ContentRedo) → x ≡ c → IsSound c
    → AreInOrder name_of_frame c.frames → AreInOrder name_of_record c.records
    → Some again ≡ done_again x (record_in g x.records) → Repeats c again
redo_tells c x g again same sound frames records is = by_record (record_in g c.records) refl (rw same at is)
  where
    by_record : (r : Option Record) → record_in g c.records ≡ r → Some again ≡ done_again c r → Repeats c again
    by_record None there at = cc
    by_record (Some r) there at =
        let equal : record { after = redone r c; ready = readied (frame_of r) } ≡ again = cc in
        let name = found_name name_of_record (name_of_grant g) r c.records there in
        let found : record_in r.grant c.records ≡ Some r = rw (same_name g r.grant name) at there in
        rw (← equal) (record { ready = redone_tells c r sound frames records found; records = redone_less r c })
