-- What the fields of an Offer's packet say of its frames and records.
use Rattle.std.proofs.Common.{◌≡◌, ◌<◌, ◌^◌, ℕ, ◌&&◌, ◌||◌, Bool, true, false, nat_eq, nat_lt, List, [], ◌∷◌, length, map, Option, Some, None, IsTrue, refl, sym, ap, ◌∙◌, arith, Ordering, Less, Equal}
use Rattle.std.specs.List.{AllByRecursion}
use Rattle.std.specs.List.Sorted.{IsStrictlySortedBy}
use Rattle.std.specs.Cmp.{nat_cmp_is}
use Rattle.std.specs.Ordering.{nat_cmp, ordering_then}
use Rattle.std.proofs.lemmas.Bool.{eqb-true, ltb-true}
use Rattle.ids.specs.Named.{Name, name_cmp}
use Rattle.ids.specs.Names.{Grant, grant_before}
use Rattle.ids.specs.Naming.{name_of_frame, name_of_grant, name_of_record}
use Rattle.ids.specs.Ordered.{AreInOrder}
use Rattle.ids.specs.declared.outcome.Outcome.{Outcome}
use Rattle.ids.specs.declared.outcome.Progress.{Progress}
use Rattle.ids.specs.declared.outcome.Progress.TheVariants.{Active, Finished}
use Rattle.ids.specs.declared.work.Frame.{Frame}
use Rattle.ids.specs.declared.work.Record.{Record}
use Rattle.ids.proofs.NameOrder.{names_total}
use Rattle.frames.specs.Frames.{AreBelow}
use Rattle.packet_fields.specs.Format.{items}
use Rattle.packet_fields.specs.Fields as field
use Rattle.codec.specs.Table as table
use Rattle.codec.specs.declared.body.Offer.{Offer}
use Rattle.sub_rules.proofs.Sums.{all_weaker}
use Rattle.departure.proofs.LinkedCounts.{both}

-- the order of names by their first numbers, or by the second ones
first_less : (m i n j : ℕ) → m < n → name_cmp (m, i) (n, j) ≡ Less
first_less m i n j less = ap (λ (r : Ordering). ordering_then r (nat_cmp i j)) (sym (nat_cmp_is m n Less less))

second_less : (m i n j : ℕ) → m ≡ n → i < j → name_cmp (m, i) (n, j) ≡ Less
second_less m i n j same less =
    ap (λ (r : Ordering). ordering_then r (nat_cmp i j)) (sym (nat_cmp_is m n Equal same))
    ∙ sym (nat_cmp_is i j Less less)

before_less : (g h : Grant) → IsTrue (grant_before g h) → name_cmp (name_of_grant g) (name_of_grant h) ≡ Less
before_less g h before = by_test (nat_lt g.minter h.minter) refl before
  where
    by_test : (b : Bool) → nat_lt g.minter h.minter ≡ b
        → IsTrue (b || (nat_eq g.minter h.minter && nat_lt g.number h.number))
        → name_cmp (name_of_grant g) (name_of_grant h) ≡ Less
    by_test true is at = first_less g.minter g.number h.minter h.number (ltb-true g.minter h.minter is)
    by_test false is at =
        let parts = both (nat_eq g.minter h.minter) (nat_lt g.number h.number) at in
        second_less g.minter g.number h.minter h.number (eqb-true g.minter h.minter parts.0)
        (ltb-true g.number h.number parts.1)

-- names behind the last one, if there is one
abbrev AreBehind : Option Name → List Name → Type 0
AreBehind None names = Unit {0}
AreBehind (Some last) names = AllByRecursion (λ n. name_cmp last n ≡ Less) names

abbrev name_at : Option ℕ → Option Name
name_at None = None
name_at (Some n) = Some (n, 0)

abbrev name_by : Option Grant → Option Name
name_by None = None
name_by (Some g) = Some (name_of_grant g)

-- a name behind the last one, and names behind that
goes_on : (last : Option Name) (n : Name) (names : List Name) → AreBehind last (n ∷ [])
    → AllByRecursion (λ m. name_cmp n m ≡ Less) names → AreBehind last (n ∷ names)
goes_on None n names here rest = tt
goes_on (Some last) n names here rest = (
  here.0,
  all_weaker (λ m. name_cmp n m ≡ Less) (λ m. name_cmp last m ≡ Less)
      (λ m less. names_total.trans last n m here.0 less) names rest,
)

-- frames in order, below the next number and behind the last one
pub record FramesRise (next : ℕ) (last : Option ℕ) (frames : List Frame) : Type 0 where
  pub below : AreBelow next frames
  pub behind : AreBehind (name_at last) (map name_of_frame frames)
  pub order : AreInOrder name_of_frame frames

frame_above : (last : Option ℕ) (f : Frame) → IsTrue (field.is_above last f.number)
    → AreBehind (name_at last) (name_of_frame f ∷ [])
frame_above None f above = tt
frame_above (Some n) f above = (first_less n 0 f.number 0 (ltb-true n f.number above), tt)

-- what a frame's fields say
frame_said : (next : ℕ) (last : Option ℕ) (f : Frame) → IsTrue ((field.frame next last).fits f)
    → (f.number < next) × IsTrue (field.is_above last f.number)
unfolding field.frame
frame_said next last f fits =
    let number = both ((nat_lt f.number (256 ^ 4) && nat_lt f.number next) && field.is_above last f.number) _ fits in
    let above = both (nat_lt f.number (256 ^ 4) && nat_lt f.number next) (field.is_above last f.number) number.0 in
    (ltb-true f.number next (both (nat_lt f.number (256 ^ 4)) (nat_lt f.number next) above.0).1, above.1)

frames_rise : (next : ℕ) (last : Option ℕ) (frames : List Frame)
    → IsTrue ((items field.number_of_frame (field.frame next) last (length frames)).fits frames)
    → FramesRise next last frames
unfolding IsStrictlySortedBy
frames_rise next last [] fits = record { below = tt; behind = nothing (name_at last); order = tt }
  where
    nothing : (o : Option Name) → AreBehind o []
    nothing None = tt
    nothing (Some n) = tt
frames_rise next last (f ∷ fs) fits =
    let parts = both ((field.frame next last).fits f)
    ((items field.number_of_frame (field.frame next) (Some f.number) (length fs)).fits fs) fits in
    let here = frame_said next last f parts.0 in
    let rest = frames_rise next (Some f.number) fs parts.1 in
    record {
      below = (here.0, rest.below);
      behind = goes_on (name_at last) (name_of_frame f) (map name_of_frame fs) (frame_above last f here.1) rest.behind;
      order = (rest.behind, rest.order);
    }

-- records in order, of frames below the next number, and behind the last one
pub record RecordsRise (next : ℕ) (last : Option Grant) (records : List Record) : Type 0 where
  pub below : AllByRecursion (λ r. r.frame < next) records
  pub behind : AreBehind (name_by last) (map name_of_record records)
  pub order : AreInOrder name_of_record records

record_above : (last : Option Grant) (r : Record) → IsTrue (field.is_behind last r.grant)
    → AreBehind (name_by last) (name_of_record r ∷ [])
record_above None r behind = tt
record_above (Some g) r behind = (before_less g r.grant behind, tt)

-- what a record's fields say
record_said : (next : ℕ) (last : Option Grant) (r : Record) → IsTrue ((field.stolen next last).fits r)
    → (r.frame < next) × IsTrue (field.is_behind last r.grant)
unfolding field.stolen
record_said next last r fits =
    let grant = both (field.grant.fits r.grant && field.is_behind last r.grant) _ fits in
    let behind = both (field.grant.fits r.grant) (field.is_behind last r.grant) grant.0 in
    let holder = both (field.worker.fits r.holder) _ grant.1 in
    let number = both (nat_lt r.frame (256 ^ 4) && nat_lt r.frame next) _ holder.1 in
    (ltb-true r.frame next (both (nat_lt r.frame (256 ^ 4)) (nat_lt r.frame next) number.0).1, behind.1)

records_rise : (next : ℕ) (last : Option Grant) (records : List Record)
    → IsTrue ((items field.grant_of_record (field.stolen next) last (length records)).fits records)
    → RecordsRise next last records
unfolding IsStrictlySortedBy
records_rise next last [] fits = record { below = tt; behind = nothing (name_by last); order = tt }
  where
    nothing : (o : Option Name) → AreBehind o []
    nothing None = tt
    nothing (Some n) = tt
records_rise next last (r ∷ rs) fits =
    let parts = both ((field.stolen next last).fits r)
    ((items field.grant_of_record (field.stolen next) (Some r.grant) (length rs)).fits rs) fits in
    let here = record_said next last r parts.0 in
    let rest = records_rise next (Some r.grant) rs parts.1 in
    record {
      below = (here.0, rest.below);
      behind = goes_on (name_by last) (name_of_record r) (map name_of_record rs)
          (record_above last r here.1) rest.behind;
      order = (rest.behind, rest.order);
    }

-- a finished subcomputation has no frames, and no records
pub record HasNothing (o : Offer) : Type 0 where
  pub frames : o.frames ≡ []
  pub records : o.records ≡ []

-- what an Offer's fields say
pub record Said (o : Offer) : Type 0 where
  pub begun : 0 < o.next
  pub frames : FramesRise o.next None o.frames
  pub records : RecordsRise o.next None o.records
  pub finished : (outcome : Outcome) → o.progress ≡ Finished outcome → HasNothing o

empty : {A : Type 0} (p : Progress) (xs : List A) (outcome : Outcome) → p ≡ Finished outcome
    → IsTrue (field.allows p (length xs)) → xs ≡ []
empty p [] outcome is allowed = refl
empty Active (x ∷ xs) outcome is allowed = absurd cc
empty (Finished o) (x ∷ xs) outcome is allowed = let none = eqb-true (length (x ∷ xs)) 0 allowed in absurd (omega arith)

pub said : (o : Offer) → IsTrue (table.offer.fits o) → Said o
unfolding table.offer field.raised field.frames field.records
said o fits =
    let from = both (field.worker.fits o.from) _ fits in
    let grant = both (field.grant.fits o.grant) _ from.1 in
    let hop = both (nat_lt o.hop (256 ^ 4) && nat_lt 0 o.hop) _ grant.1 in
    let parent = both (field.actor.fits o.parent) _ hop.1 in
    let progress = both (field.progress.fits o.progress) _ parent.1 in
    let task = both (field.task.fits o.task) _ progress.1 in
    let next = both (nat_lt o.next (256 ^ 4) && nat_lt 0 o.next) _ task.1 in
    let held = both ((nat_lt (length o.frames) (256 ^ 4) && field.allows o.progress (length o.frames))
    && (items field.number_of_frame (field.frame o.next) None (length o.frames)).fits o.frames)
    ((nat_lt (length o.records) (256 ^ 4) && field.allows o.progress (length o.records))
    && (items field.grant_of_record (field.stolen o.next) None (length o.records)).fits o.records) next.1 in
    let frames = both (nat_lt (length o.frames) (256 ^ 4) && field.allows o.progress (length o.frames))
    ((items field.number_of_frame (field.frame o.next) None (length o.frames)).fits o.frames) held.0 in
    let records = both (nat_lt (length o.records) (256 ^ 4) && field.allows o.progress (length o.records))
    ((items field.grant_of_record (field.stolen o.next) None (length o.records)).fits o.records) held.1 in
    record {
      begun = ltb-true 0 o.next (both (nat_lt o.next (256 ^ 4)) (nat_lt 0 o.next) next.0).1;
      frames = frames_rise o.next None o.frames frames.1;
      records = records_rise o.next None o.records records.1;
      finished = λ outcome is. record {
        frames = empty o.progress o.frames outcome is
            (both (nat_lt (length o.frames) (256 ^ 4)) (field.allows o.progress (length o.frames)) frames.0).1;
        records = empty o.progress o.records outcome is
            (both (nat_lt (length o.records) (256 ^ 4)) (field.allows o.progress (length o.records)) records.0).1;
      };
    }
