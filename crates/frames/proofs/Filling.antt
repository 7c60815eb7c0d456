-- A filled frame is found under its number.
use Rattle.std.proofs.Common.{◌≡◌, ℕ, ℤ, Option, Some, None, List, ap, ◌∙◌, refl, Bor, IsTrue}
use Rattle.std.specs.Prelude.{slice_get}
use Rattle.std.specs.Option.{IfSome, IsSomeAnd}
use Rattle.ids.specs.Named.{Name, name_cmp, item_in, changed_of}
use Rattle.ids.specs.Naming.{name_of_frame}
use Rattle.ids.specs.declared.work.Frame.{Frame}
use Rattle.ids.proofs.NameOrder.{exact_names}
use Rattle.ids.proofs.KeyedLaws.{found_in}
use Rattle.ids.proofs.Replacing.{put_is_found}
use Rattle.frames.specs.Frames.{frame_in, put_frame, with_slot, fill_of, filling, readiness_of, is_empty_of, is_vacant}

-- how a frame stands once a slot of it was filled
pub state_filled : (number slot : ℕ) (v : ℤ) (frames : List Frame) (o : Option Frame) → frame_in number frames ≡ o
    → readiness_of (frame_in number (fill_of slot v frames o)) ≡ filling o slot v
state_filled number slot v frames None there = ap readiness_of there
state_filled number slot v frames (Some f) there =
    let same : (number, 0) ≡ name_of_frame f =
    exact_names (number, 0) (name_of_frame f) (found_in name_of_frame name_cmp (number, 0) f frames there) in
    ap (λ k. readiness_of (item_in name_of_frame k (put_frame (with_slot slot v f) frames))) same
    ∙ ap readiness_of (put_is_found name_of_frame (with_slot slot v f) frames)

-- the change of a store is the filling of a slot
pub changed_is_fill : (slot : ℕ) (v : ℤ) (frames : List Frame) (o : Option Frame)
    → changed_of name_of_frame (with_slot slot v) frames o ≡ fill_of slot v frames o
changed_is_fill slot v frames None = refl
changed_is_fill slot v frames (Some f) = refl

-- a frame with an empty slot is there
pub fits_there : (slot : ℕ) (o : Option Frame) → IsTrue (is_empty_of o slot)
    → IsSomeAnd o (λ f. IsTrue (is_vacant (slice_get f.slots slot)))
fits_there slot None h = cc
fits_there slot (Some f) h = h

-- a frame of a name has its number
pub number_named : (number : ℕ) (o : Option (Bor Frame)) → IfSome o (λ f. name_of_frame f.now ≡ (number, 0))
    → IfSome o (λ f. f.now.number ≡ number)
number_named number None h = tt
number_named number (Some f) h = ap (λ (n : Name). n.0) h
