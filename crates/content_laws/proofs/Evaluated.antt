-- A turn that was evaluated is carried out: it is the turn of a ready frame on its numbers.
use Rattle.std.proofs.Common.{◌≡◌, ℕ, ℤ, ◌^◌, Bool, true, false, cond, nat_eq, nat_lt, List, [], ◌∷◌, Option, Some, None, Result, Ok, Err, refl}
use Rattle.std.specs.Ordering.{int_eq}
use Rattle.std.proofs.lemmas.Bool.{and_parts}
use Rattle.std.proofs.lemmas.Bool.Decides.{Decides-eqb, Decides-int_eq}
use Rattle.ids.specs.Names.{Grant}
use Rattle.ids.specs.Slots.{numbers_in}
use Rattle.ids.specs.declared.work.Frame.{Frame}
use Rattle.kind_check.specs.Turns.{turn_of}
use Rattle.body_eval.specs.Done.{DoneOf, IsEvaluated}
use Rattle.frames.specs.Frames.{frame_in}
use Rattle.sub_rules.specs.declared.change.ContentChange.{ContentChange}
use Rattle.sub_rules.specs.declared.change.SubError.{SubError}
use Rattle.sub_rules.specs.declared.change.SubError.TheVariants.{Stale, Spent}
use Rattle.sub_rules.specs.declared.content.Content.{Content}
use Rattle.sub_rules.specs.Carrying.{exec_content, executed, holds_numbers, is_turn_of, within_numbers}
use Rattle.sub_rules.specs.Changes.{turned}
use Rattle.table_laws.specs.View.{Sub, View}
use Rattle.table_laws.specs.Facts.{Live}
use Rattle.table_laws.specs.Program.{program_meaning}
use Rattle.content_laws.specs.Shown.{Shows}
use Rattle.content_laws.specs.Moved.{IsKept, IsMove, grants_of_records}
use Rattle.content_laws.proofs.Apart.{own_number}
use Rattle.content_laws.proofs.Carrying.{turn_moves, IsKnownOf}
use Rattle.sub_rules.specs.Resuming.{Known, resumed}
use Rattle.content_laws.proofs.Keeping.{turn_kept}

-- slots that hold numbers are full of them
held_numbers : (slots : List (Option ℤ)) (numbers : List ℤ) → holds_numbers slots numbers ≡ true
    → numbers_in slots ≡ Some numbers
held_numbers [] [] holds = refl
held_numbers [] (n ∷ ns) holds = cc
held_numbers (None ∷ slots) [] holds = cc
held_numbers (Some v ∷ slots) [] holds = cc
held_numbers (None ∷ slots) (n ∷ ns) holds = cc
held_numbers (Some v ∷ slots) (n ∷ ns) holds =
    let same : v ≡ n = (Decides-int_eq v n).0 (and_parts (int_eq v n) (holds_numbers slots ns) holds).0 in
    rw (same, held_numbers slots ns (and_parts (int_eq v n) (holds_numbers slots ns) holds).1) refl

-- what a turn that is carried out is one of
pub record IsCarried (known : Known) (d : DoneOf) (n : ℕ) (c : Content) (change : ContentChange) : Type 0 where
  pub frame : Frame
  pub at : frame_in n c.frames ≡ Some frame
  pub there : frame_in frame.number c.frames ≡ Some frame
  pub thread : frame.thread ≡ d.thread
  pub full : numbers_in frame.slots ≡ Some d.numbers
  pub is : turned frame (resumed known frame.place d.turn) c ≡ change

-- so it is where it is carried out
pub carried : (known : Known) (d : DoneOf) (n : ℕ) (c : Content) (change : ContentChange)
    → exec_content known d n c ≡ Ok change → IsCarried known d n c change
carried known d n c change is = by_frame (frame_in n c.frames) refl is
  where
    by_next : (f : Frame) → frame_in n c.frames ≡ Some f → is_turn_of d f ≡ true → (b : Bool)
        → cond {A = Result ContentChange SubError} b (Ok (turned f (resumed known f.place d.turn) c)) (Err Spent)
        ≡ Ok change → IsCarried known d n c change
    by_next f there turn true at = record {
      frame = f;
      at = there;
      there = own_number n f c.frames there;
      thread = (Decides-eqb f.thread d.thread).0
          (and_parts (nat_eq f.thread d.thread) (holds_numbers f.slots d.numbers) turn).0;
      full = held_numbers f.slots d.numbers
          (and_parts (nat_eq f.thread d.thread) (holds_numbers f.slots d.numbers) turn).1;
      is = cc;
    }
    by_next f there turn false at = cc

    by_turn : (f : Frame) → frame_in n c.frames ≡ Some f → (b : Bool) → is_turn_of d f ≡ b
        → cond {A = Result ContentChange SubError} b (within_numbers (turned f (resumed known f.place d.turn) c))
        (Err Stale) ≡ Ok change → IsCarried known d n c change
    by_turn f there true turn at = by_next f there turn
        (nat_lt (turned f (resumed known f.place d.turn) c).after.next (2 ^ 32)) at
    by_turn f there false turn at = cc

    by_frame : (o : Option Frame) → frame_in n c.frames ≡ o → executed known d c o ≡ Ok change
        → IsCarried known d n c change
    by_frame None there at = cc
    by_frame (Some f) there at = by_turn f there (is_turn_of d f) refl at

-- carrying it out is a move
pub exec_moves : (input : List ℤ) (known : Known) (v : View) (i : ℕ) (g : Grant) (s : Sub) (c : Content) (d : DoneOf)
    (n : ℕ) (change : ContentChange) → IsKnownOf d.program input known → Live v i g s → IsKept c → Shows s.content c
    → IsEvaluated d → exec_content known d n c ≡ Ok change
    → IsMove (program_meaning d.program input) v i g s change.after change.fill (grants_of_records change.dropped)
exec_moves input known v i g s c d n change right live kept shows evaluated is =
    let done = carried known d n c change is in
    let end : turn_of d.program done.frame.thread d.numbers ≡ Some d.turn = rw done.thread evaluated.reached in
    rw (← done.is) (turn_moves d.program input v i g s c done.frame d.numbers live
    (record { kept = kept; shows = shows; there = done.there; full = done.full }) known d.turn right end)

-- and keeps the content
pub exec_kept : (known : Known) (c : Content) (d : DoneOf) (n : ℕ) (change : ContentChange) → IsKept c
    → exec_content known d n c ≡ Ok change → IsKept change.after
exec_kept known c d n change kept is =
    let done = carried known d n c change is in
    rw (← done.is) (turn_kept c done.frame d.numbers kept done.there done.full (resumed known done.frame.place d.turn))
