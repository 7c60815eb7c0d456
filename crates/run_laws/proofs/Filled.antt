-- No slot was filled twice in a world that is tied.
use Rattle.std.proofs.Common.{◌≡◌, suc, zero, List, [], ◌∷◌, inl, inr, refl, sym, ap, ◌∙◌}
use Rattle.serial_meaning.specs.Job.{JobOf}
use Rattle.node_steps.specs.declared.parts.Fill.{Fill}
use Rattle.table_laws.specs.Tables.{◌∈◌}
use Rattle.table_laws.specs.Content as tables
use Rattle.table_laws.specs.Fills.{Once, SameSlot}
use Rattle.table_laws.proofs.FillsKept.{fills_reached}
use Rattle.table_laws.proofs.ValuesKept.{run_reached}
use Rattle.table_laws.proofs.Among.{got}
use Rattle.actor_laws.specs.node_moves.Steps.{shown_fill, shown_fills}
use Rattle.world_steps.specs.Safe.{FilledOnce, SlotName, slot_of}
use Rattle.world_steps.specs.World.{WorldOf}
use Rattle.run_laws.specs.Shown.{Tied}

-- what was before is still of different slots
once_before : (fs : List Fill) (before : List tables.Fill) → Once (shown_fills fs before) → Once before
once_before [] before o = o
once_before (f ∷ fs) before o = (once_before fs (shown_fill f ∷ before) o).1

-- a later fill isn't of a slot before
later_apart : (fs : List Fill) (before : List tables.Fill) → Once (shown_fills fs before) → (f : Fill) → f ∈ fs
    → (y : tables.Fill) → y ∈ before → SameSlot (shown_fill f) y → ⊥
later_apart [] before o f m y k = absurd m
later_apart (x ∷ fs) before o f (inl e) y k =
    λ same. (once_before fs (shown_fill x ∷ before) o).0 y k
    (record {
      grant = ap (λ (z : Fill). z.grant) (sym e) ∙ same.grant;
      frame = ap (λ (z : Fill). z.frame) (sym e) ∙ same.frame;
      slot = ap (λ (z : Fill). z.slot) (sym e) ∙ same.slot;
    })
later_apart (x ∷ fs) before o f (inr m) y k = later_apart fs (shown_fill x ∷ before) o f m y (inr k)

same_slot : (f g : Fill) → slot_of f ≡ slot_of g → SameSlot (shown_fill f) (shown_fill g)
same_slot f g e = record {
  grant = ap (λ (s : SlotName). s.grant) e;
  frame = ap (λ (s : SlotName). s.frame) e;
  slot = ap (λ (s : SlotName). s.slot) e;
}

once_by_place : (fs : List Fill) (before : List tables.Fill) → Once (shown_fills fs before) → FilledOnce fs
once_by_place [] before o i j f g a b e = absurd (got [] i f a)
once_by_place (x ∷ fs) before o zero zero f g a b e = refl
once_by_place (x ∷ fs) before o zero (suc j) f g a b e =
    let is : x ≡ f = cc in
    absurd (later_apart fs (shown_fill x ∷ before) o g (got fs j g b) (shown_fill x) (inl refl)
    (same_slot g x (sym e ∙ ap slot_of (sym is))))
once_by_place (x ∷ fs) before o (suc i) zero f g a b e =
    let is : x ≡ g = cc in
    absurd (later_apart fs (shown_fill x ∷ before) o f (got fs i f a) (shown_fill x) (inl refl)
    (same_slot f x (e ∙ ap slot_of (sym is))))
once_by_place (x ∷ fs) before o (suc i) (suc j) f g a b e =
    ap suc (once_by_place fs (shown_fill x ∷ before) o i j f g a b e)

pub filled_once : (job : JobOf) (w : WorldOf) → Tied job w → FilledOnce w.fills
filled_once job w tied =
    let once = (fills_reached (run_reached tied.run)).once in
    once_by_place w.fills [] (rw tied.shown.fills at once)
