-- A ready frame that is carried out by its whole value: where it stands, and what it gives.
use Rattle.std.proofs.Common.{◌≡◌, ℕ, ℤ, Bool, true, false, nat_le, if◌then◌else◌, List, Option, None, Some, refl}
use Rattle.ids.specs.Names.{Grant}
use Rattle.ids.specs.Options.{◌>>=◌}
use Rattle.ids.specs.Slots.{numbers_in}
use Rattle.ids.specs.declared.work.Frame.{Frame}
use Rattle.task_tree.specs.declared.tree.Program.{Program}
use Rattle.frames.specs.Frames.{frame_in}
use Rattle.serial_meaning.specs.Places.{room}
use Rattle.serial_meaning.specs.Serial.{serial_turns}
use Rattle.sub_rules.specs.Content.{Ready, ready}
use Rattle.subcomputation.specs.Subs.{SubOf, sub_in}
use Rattle.node_state.specs.Posts.{ReadyFrame, ready_of_sub}
use Rattle.node_steps.specs.Calls.{own_whole, whole_value}

-- where a ready frame stands
pub record ReadyThere (subs : List SubOf) (g : Grant) (f : ℕ) (x : ReadyFrame) : Type 0 where
  pub sub : sub_in g subs ≡ Some x.sub
  pub frame : frame_in f x.sub.content.frames ≡ Some x.ready.frame

abbrev with_numbers : Frame → List ℤ → Option Ready
with_numbers y ns = Some (record { frame = y; numbers = ns })

abbrev in_sub : SubOf → Ready → Option ReadyFrame
in_sub s r = Some (record { sub = s; ready = r })

pub ready_there : (subs : List SubOf) (g : Grant) (f : ℕ) (x : ReadyFrame) → ready_of_sub f (sub_in g subs) ≡ Some x
    → ReadyThere subs g f x
ready_there subs g f x is = by_sub (sub_in g subs) refl is
  where
    by_numbers : (s : SubOf) (y : Frame) (o : Option (List ℤ)) → sub_in g subs ≡ Some s
        → frame_in f s.content.frames ≡ Some y → ((o >>= with_numbers y) >>= in_sub s) ≡ Some x → ReadyThere subs g f x
    by_numbers s y None at there e = cc
    by_numbers s y (Some ns) at there e =
        let same : record { sub = s; ready = record { frame = y; numbers = ns } } ≡ x = cc in
        rw (← same) (record { sub = at; frame = there })

    by_frame : (s : SubOf) (o : Option Frame) → sub_in g subs ≡ Some s → frame_in f s.content.frames ≡ o
        → ((o >>= ready) >>= in_sub s) ≡ Some x → ReadyThere subs g f x
    by_frame s None at there e = cc
    by_frame s (Some y) at there e = by_numbers s y (numbers_in y.slots) at there e

    by_sub : (o : Option SubOf) → sub_in g subs ≡ o → ready_of_sub f o ≡ Some x → ReadyThere subs g f x
    by_sub None at e = cc
    by_sub (Some s) at e = by_frame s (frame_in f s.content.frames) at refl e

-- what was found twice is one
pub one_sub : (o : Option SubOf) (s t : SubOf) → o ≡ Some s → o ≡ Some t → s ≡ t
one_sub o s t a b = cc

pub one_frame : (o : Option Frame) (x y : Frame) → o ≡ Some x → o ≡ Some y → x ≡ y
one_frame o x y a b = cc

-- what is given within so many turns is given
pub given_within : (p : Program) (most : ℕ) (r : Ready) (v : ℤ) → own_whole p most r ≡ Some v → whole_value p r ≡ Some v
given_within p most r v is = by_turns (nat_le (serial_turns p (room r.frame.place) r.frame.thread r.numbers) most) is
  where
    by_turns : (b : Bool) → (if b then whole_value p r else None) ≡ Some v → whole_value p r ≡ Some v
    by_turns true e = e
    by_turns false e = cc
