-- A ready frame of tables is one of the content that they show.
use Rattle.std.proofs.Common.{◌≡◌, ℕ, ℤ, suc, List, [], ◌∷◌, ◌⊎◌, inl, inr, Option, None, Some, IsSome, is_some, refl, ap, ◌∙◌}
use Rattle.std.specs.List.{slice_get}
use Rattle.ids.specs.Options.{◌>>=◌}
use Rattle.ids.specs.Slots.{numbers_in}
use Rattle.ids.specs.declared.work.Frame.{Frame}
use Rattle.frames.specs.Frames.{frame_in}
use Rattle.sub_rules.specs.declared.content.Content.{Content}
use Rattle.sub_rules.specs.Content.{ready, ready_in}
use Rattle.sub_rules.proofs.Departures.{frame_number}
use Rattle.table_laws.specs.Content.{Content as Tables, Empty}
use Rattle.table_laws.specs.Work.{ReadyInTables}
use Rattle.table_laws.proofs.Lists.{none_some}
use Rattle.content_laws.specs.Moved.{IsKept}
use Rattle.content_laws.specs.Shown.{slot_of, ShowsFrame, Shows}
use Rattle.content_laws.proofs.Records.{Stolen, NoneStolen, stolen_or}

-- slots of which none is empty hold numbers
pub none_empty : (slots : List (Option ℤ)) → ((j : ℕ) → slot_of (slice_get slots j) ≡ Empty → ⊥)
    → (numbers : List ℤ) × (numbers_in slots ≡ Some numbers)
none_empty [] full = ([], refl)
none_empty (None ∷ slots) full = absurd (full 0 refl)
none_empty (Some v ∷ slots) full =
    let rest = none_empty slots (λ j e. full (suc j) e) in
    (v ∷ rest.0, ap (λ (o : Option (List ℤ)). o >>= (λ vs. Some (v ∷ vs))) rest.1)

-- so such a frame is ready
frame_ready : (c : Content) (n : ℕ) (f : Frame) → frame_in n c.frames ≡ Some f
    → ((j : ℕ) → slot_of (slice_get f.slots j) ≡ Empty → ⊥) → IsSome (ready_in n c)
frame_ready c n f there full =
    let all = none_empty f.slots full in
    let found : ready_in n c ≡ ready f = ap (λ (o : Option Frame). o >>= ready) there in
    let some : ready f ≡ Some (record { frame = f; numbers = all.0 }) =
    ap (λ (o : Option (List ℤ)). o >>= (λ numbers. Some (record { frame = f; numbers = numbers }))) all.1 in
    ap is_some (found ∙ some)

-- a ready frame of tables is a frame of the content, under its number
pub ready_there : (t : Tables) (c : Content) → IsKept c → Shows t c → (r : ReadyInTables t)
    → IsSome (ready_in r.frame c)
ready_there t c kept shows r = by_frame (frame_in r.frame c.frames) refl
  where
    by_record : frame_in r.frame c.frames ≡ None → (Stolen c.records r.frame) ⊎ (NoneStolen c.records r.frame)
        → IsSome (ready_in r.frame c)
    by_record none (inl s) = absurd (none_some r.unstolen
        (rw s.number at (shows.records s.grant s.record_is s.there).stolen))
    by_record none (inr unstolen) = absurd
        (none_some (shows.unused r.frame (record { frame = none; record_of = unstolen })).returns r.there)

    by_frame : (o : Option Frame) → frame_in r.frame c.frames ≡ o → IsSome (ready_in r.frame c)
    by_frame (Some f) is =
        let shown : ShowsFrame t f = shows.frames r.frame f is in
        let number : r.frame ≡ f.number = frame_number r.frame f c.frames is in
        frame_ready c r.frame f is (λ j e. r.full j (ap (λ n. t.slots n j) number ∙ shown.slots j ∙ e))
    by_frame None is = by_record is (stolen_or r.frame c.records kept.records)
