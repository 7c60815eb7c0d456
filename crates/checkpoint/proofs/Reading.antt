-- What a file's slots hold tells its current record, and nothing else does.
use Rattle.std.proofs.Common.{◌≡◌, ℕ, ◌+◌, ◌≤◌, Bool, true, false, List, length, drop, get_or, Option, Some, None, IfSome, IfNone, refl, sym, ◌∙◌, ap, subst, arith}
use Rattle.std.specs.Prelude.{not}
use Rattle.ids.specs.declared.outcome.Outcome.{Outcome}
use Rattle.ids.specs.declared.outcome.Outcome.TheVariants.{Value, TooDeep}
use Rattle.saved_values.specs.declared.value.SavedValue.{SavedValue}
use Rattle.std.proofs.lemmas.Bool.{eq-eqb, ne_eqb}
use Rattle.checkpoint.specs.Pair.{slot, is_open, IsOpen, Spelling, body, IsCurrent}
use Rattle.checkpoint.specs.Format.{HasFields, IsNew, IsStore, SpellsLarge, SpellsSmall, tag_of, value_of}
use Rattle.checkpoint.specs.Found.{Holds, IsOlder, IsNewest}
use Rattle.checkpoint.specs.Store.{ReadsAsStore}
use Rattle.checkpoint.specs.declared.record.CheckpointRecord.{CheckpointRecord}
use Rattle.checkpoint.specs.declared.record.Entry.{Entry}
use Rattle.checkpoint.specs.declared.record.Entry.TheVariants.{Here, Moved}
use Rattle.checkpoint.specs.declared.record.SlotId.{SlotId}
use Rattle.checkpoint.specs.declared.record.SlotId.TheVariants.{Small, Large}
use Rattle.checkpoint.proofs.Listing.{one_list}

-- # A body says one thing

same_outcome : (a b : Option Outcome) → tag_of a ≡ tag_of b → value_of a ≡ value_of b → a ≡ b
same_outcome None None t v = refl
same_outcome (Some (Value x)) (Some (Value y)) t v = ap (λ z. Some (Value z)) v
same_outcome (Some TooDeep) (Some TooDeep) t v = refl
same_outcome None (Some (Value y)) t v = absurd (omega (arith, t))
same_outcome None (Some TooDeep) t v = absurd (omega (arith, t))
same_outcome (Some (Value x)) None t v = absurd (omega (arith, t))
same_outcome (Some (Value x)) (Some TooDeep) t v = absurd (omega (arith, t))
same_outcome (Some TooDeep) None t v = absurd (omega (arith, t))
same_outcome (Some TooDeep) (Some (Value y)) t v = absurd (omega (arith, t))

not_moved : (o : Option Outcome) → tag_of o ≡ 3 → ⊥
not_moved None t = absurd (omega (arith, t))
not_moved (Some (Value x)) t = absurd (omega (arith, t))
not_moved (Some TooDeep) t = absurd (omega (arith, t))

abbrev made : ℕ → ℕ → Option Outcome → List SavedValue → CheckpointRecord
made j e o s = record { job = j; epoch = e; outcome = o; saved = s }

record_is : (r s : CheckpointRecord) → r.job ≡ s.job → r.epoch ≡ s.epoch → r.outcome ≡ s.outcome → r.saved ≡ s.saved
    → r ≡ s
record_is r s j e o l =
    ap (λ x. made x r.epoch r.outcome r.saved) j ∙ ap (λ x. made s.job x r.outcome r.saved) e
    ∙ ap (λ x. made s.job s.epoch x r.saved) o ∙ ap (λ x. made s.job s.epoch s.outcome x) l

by_fields : (bytes : List ℕ) (n m size : ℕ) (r s : CheckpointRecord)
    → HasFields bytes n size r.job r.epoch (tag_of r.outcome) (value_of r.outcome)
    → HasFields bytes m size s.job s.epoch (tag_of s.outcome) (value_of s.outcome) → r.saved ≡ s.saved
    → (n ≡ m) × (r ≡ s)
by_fields bytes n m size r s a b saved = (
  sym a.sequence_at ∙ b.sequence_at,
  record_is r s (sym a.job_at ∙ b.job_at) (sym a.epoch_at ∙ b.epoch_at)
      (same_outcome r.outcome s.outcome (sym a.outcome_at ∙ b.outcome_at) (sym a.value_at ∙ b.value_at)) saved,
)

abbrev pub SaysOne : {R : Type 0} → Spelling R → Type 0
SaysOne {R = R} Spells = (bytes : List ℕ) (n m : ℕ) (r s : R) → Spells bytes n r → Spells bytes m s → (n ≡ m) × (r ≡ s)

pub one_small : SaysOne SpellsSmall
one_small bytes n m (Here r) (Here s) a b =
    let same = by_fields bytes n m 25 r s a.fields b.fields (a.unsaved ∙ sym b.unsaved) in
    (same.0, ap Here same.1)
one_small bytes n m Moved Moved a b = (sym a.fields.sequence_at ∙ b.fields.sequence_at, refl)
one_small bytes n m (Here r) Moved a b = absurd (not_moved r.outcome (sym a.fields.outcome_at ∙ b.fields.outcome_at))
one_small bytes n m Moved (Here s) a b = absurd (not_moved s.outcome (sym b.fields.outcome_at ∙ a.fields.outcome_at))

pub one_large : SaysOne SpellsLarge
one_large bytes n m r s a b = by_fields bytes n m 2101 r s a.fields b.fields
    (one_list (drop 63 bytes) r.saved s.saved (sym a.count_at ∙ b.count_at) a.entries b.entries)

-- # What an answer tells

pub some_weaker : {X : Type 0} {P Q : X → Type 0} (o : Option X) → ((x : X) → P x → Q x) → IfSome o P → IfSome o Q
some_weaker (Some x) f p = f x p
some_weaker None f p = tt

pub none_weaker : {X P Q : Type 0} (o : Option X) → (P → Q) → IfNone o P → IfNone o Q
none_weaker (Some x) f p = tt
none_weaker None f p = f p

-- # Two slots

-- a gate that reads as open or as closed
pub open_gate : (slot : List ℕ) → IsOpen slot → is_open slot ≡ true
open_gate slot e = eq-eqb (get_or slot 0 0) 165 e

pub closed_gate : (slot : List ℕ) → ¬ IsOpen slot → is_open slot ≡ false
closed_gate slot closed = ne_eqb (get_or slot 0 0) 165 closed

module _ {R : Type 0} (Spells : Spelling R) (one : SaysOne Spells) (base size : ℕ) (file : List ℕ) where
  current : base + (1 + size) + (1 + size) ≤ length file
      → (second : Bool) (here there : Option (ℕ × R)) (gate : Bool) (n : ℕ) (r : R)
      → Holds Spells (slot base size second file) here → Holds Spells (slot base size (not second) file) there
      → here ≡ Some (n, r) → IsOlder there n gate
      → IsCurrent Spells base size file second n r × (gate ≡ is_open (slot base size (not second) file))
  current room second here None gate n r holds closed is older =
      let mine = subst (λ x. Holds Spells (slot base size second file) x) is holds in (
        record { room = room; gate = mine.0; content = mine.1; other = λ opened. absurd (closed opened) },
        older ∙ sym (closed_gate (slot base size (not second) file) closed),
      )
  current room second here (Some x) gate n r holds opened is older =
      let mine = subst (λ x. Holds Spells (slot base size second file) x) is holds in (
        record { room = room; gate = mine.0; content = mine.1; other = λ _. (x.0, x.1, opened.1, older.0) },
        older.1 ∙ sym (open_gate (slot base size (not second) file) opened.0),
      )

  pub newest_current : base + (1 + size) + (1 + size) ≤ length file
      → (first last : Option (ℕ × R)) (second gate : Bool) (n : ℕ) (r : R)
      → Holds Spells (slot base size false file) first → Holds Spells (slot base size true file) last
      → IsNewest first last second n r gate
      → IsCurrent Spells base size file second n r × (gate ≡ is_open (slot base size (not second) file))
  newest_current room first last false gate n r first_holds last_holds newest =
      current room false first last gate n r first_holds last_holds newest.0 newest.1
  newest_current room first last true gate n r first_holds last_holds newest =
      current room true last first gate n r last_holds first_holds newest.0 newest.1

  held : (second : Bool) (here : Option (ℕ × R)) (n : ℕ) (r : R) → Holds Spells (slot base size second file) here
      → IsOpen (slot base size second file) → Spells (body (slot base size second file)) n r → here ≡ Some (n, r)
  held second None n r closed opened says = absurd (closed opened)
  held second (Some x) n r holds opened says =
      let same = one (body (slot base size second file)) x.0 n x.1 r holds.1 says in
      ap (λ m. Some (m, x.1)) same.0 ∙ ap (λ s. Some (n, s)) same.1

  older : (second : Bool) (there : Option (ℕ × R)) (n : ℕ) (r : R)
      → Holds Spells (slot base size (not second) file) there → IsCurrent Spells base size file second n r
      → (gate : Bool) × IsOlder there n gate
  older second None n r closed is = (false, refl)
  older second (Some x) n r holds is =
      let other = is.other holds.0 in
      let same = one (body (slot base size (not second) file)) x.0 other.0 x.1 other.1 holds.1 other.2 in
      (true, (omega (arith, other.3, same.0), refl))

  pub current_newest : (first last : Option (ℕ × R)) (second : Bool) (n : ℕ) (r : R)
      → Holds Spells (slot base size false file) first → Holds Spells (slot base size true file) last
      → IsCurrent Spells base size file second n r → (gate : Bool) × IsNewest first last second n r gate
  current_newest first last false n r first_holds last_holds is =
      let behind = older false last n r last_holds is in
      (behind.0, (held false first n r first_holds is.gate is.content, behind.1))
  current_newest first last true n r first_holds last_holds is =
      let behind = older true first n r first_holds is in
      (behind.0, (held true last n r last_holds is.gate is.content, behind.1))

  -- an open slot that says nothing
  pub refused : (bad second : Bool) (n : ℕ) (r : R) → IsOpen (slot base size bad file)
      → ((m : ℕ) (s : R) → ¬ Spells (body (slot base size bad file)) m s) → IsCurrent Spells base size file second n r
      → ⊥
  refused false false n r opened nothing is = nothing n r is.content
  refused true true n r opened nothing is = nothing n r is.content
  refused true false n r opened nothing is = let other = is.other opened in nothing other.0 other.1 other.2
  refused false true n r opened nothing is = let other = is.other opened in nothing other.0 other.1 other.2

  -- two slots have one current record
  pub one_current : (a b : Bool) (n m : ℕ) (r s : R) → IsCurrent Spells base size file a n r
      → IsCurrent Spells base size file b m s → (a ≡ b) × (n ≡ m) × (r ≡ s)
  one_current false false n m r s x y = let same =
      one (body (slot base size false file)) n m r s x.content y.content in (refl, same.0, same.1)
  one_current true true n m r s x y = let same =
      one (body (slot base size true file)) n m r s x.content y.content in (refl, same.0, same.1)
  one_current false true n m r s x y =
      let xo = x.other y.gate in
      let yo = y.other x.gate in
      let in_second = one (body (slot base size true file)) xo.0 m xo.1 s xo.2 y.content in
      let in_first = one (body (slot base size false file)) yo.0 n yo.1 r yo.2 x.content in
      absurd (omega (arith, xo.3, yo.3, in_second.0, in_first.0))
  one_current true false n m r s x y =
      let xo = x.other y.gate in
      let yo = y.other x.gate in
      let in_first = one (body (slot base size false file)) xo.0 m xo.1 s xo.2 y.content in
      let in_second = one (body (slot base size true file)) yo.0 n yo.1 r yo.2 x.content in
      absurd (omega (arith, xo.3, yo.3, in_first.0, in_second.0))

-- # A file

-- what its small slots say is one thing, and so is what its large ones do
pub one_entry : (file : List ℕ) (a b : Bool) (n m : ℕ) (r s : Entry) → IsCurrent SpellsSmall 8 63 file a n r
    → IsCurrent SpellsSmall 8 63 file b m s → (a ≡ b) × (n ≡ m) × (r ≡ s)
one_entry file = one_current SpellsSmall one_small 8 63 file

pub one_record : (file : List ℕ) (a b : Bool) (n m : ℕ) (r s : CheckpointRecord)
    → IsCurrent SpellsLarge 136 2111 file a n r → IsCurrent SpellsLarge 136 2111 file b m s
    → (a ≡ b) × (n ≡ m) × (r ≡ s)
one_record file = one_current SpellsLarge one_large 136 2111 file

here_moved : (r : CheckpointRecord) → Here r ≡ Moved → ⊥
here_moved r e = cc

same_here : (r s : CheckpointRecord) → Here r ≡ Here s → r ≡ s
same_here r s e = cc

-- a file has one current record, in one place
pub one_store : (file : List ℕ) (a b : SlotId) (n m : ℕ) (r s : CheckpointRecord) → IsStore file a n r
    → IsStore file b m s → (a ≡ b) × (n ≡ m) × (r ≡ s)
one_store file (Small a) (Small b) n m r s x y = let same =
    one_entry file a b n m (Here r) (Here s) x.current y.current in (ap Small same.0, same.1, same_here r s same.2)
one_store file (Large a) (Large b) n m r s x y = let same =
    one_record file a b n m r s x.current y.current in (ap Large same.0, same.1, same.2)
one_store file (Small a) (Large b) n m r s x y =
    absurd (here_moved r (one_entry file a y.front.second n y.front.moves (Here r) Moved x.current y.front.moved).2)
one_store file (Large a) (Small b) n m r s x y =
    absurd (here_moved s (one_entry file b x.front.second m x.front.moves (Here s) Moved y.current x.front.moved).2)

pub version_of : (file : List ℕ) (at : SlotId) (n : ℕ) (r : CheckpointRecord) → IsStore file at n r
    → get_or file 7 0 ≡ 1
version_of file (Small second) n r is = is.version
version_of file (Large second) n r is = is.front.version

pub most_of : (file : List ℕ) (at : SlotId) (n : ℕ) (r : CheckpointRecord) → IsStore file at n r → length file ≤ 4360
most_of file (Small second) n r is = is.most
most_of file (Large second) n r is = let size = is.front.size in omega (arith, size)

-- # A file that is none

abbrev IsNone : List ℕ → Type 0
IsNone file = (n : ℕ) (r : CheckpointRecord) → ¬ ReadsAsStore file n r

-- its small slots say nothing, or that the record has moved where there are no large ones, or these
-- say nothing
pub none_small : (file : List ℕ) → ((second : Bool) (n : ℕ) (x : Entry) → ¬ IsCurrent SpellsSmall 8 63 file second n x)
    → IsNone file
none_small file none n r (Small second, is) = none second n (Here r) is.current
none_small file none n r (Large second, is) = none is.front.second is.front.moves Moved is.front.moved

pub none_moved : (file : List ℕ) (second : Bool) (m : ℕ) → IsCurrent SpellsSmall 8 63 file second m Moved
    → ((other : Bool) (n : ℕ) (r : CheckpointRecord) → ¬ IsNew file other n r) → IsNone file
none_moved file second m moved none n r (Small other, is) =
    here_moved r (one_entry file other second n m (Here r) Moved is.current moved).2
none_moved file second m moved none n r (Large other, is) = none other n r is
