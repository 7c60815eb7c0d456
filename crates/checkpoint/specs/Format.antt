-- A checkpoint in bytes, version 1, in its two forms.
use Rattle.std.specs.Prelude.{◌≡◌, ◌<◌, ◌≤◌, ◌^◌, ◌+◌, ◌-◌, ◌*◌, ℕ, ℤ, pos, Bool, false, IsTrue, List, [], ◌∷◌, ⊤, length, take, drop, get_or, replicate, reverse, Option, Some, None}
use Rattle.std.specs.Int.{w64, cast_signed}
use Rattle.byteorder.specs.Endian.{big_from}
use Rattle.ids.specs.declared.outcome.Outcome.{Outcome}
use Rattle.ids.specs.declared.outcome.Outcome.TheVariants.{Value, TooDeep}
use Rattle.saved_values.specs.Places.{is_saved_place}
use Rattle.saved_values.specs.Saved.{IsSavedList}
use Rattle.saved_values.specs.declared.value.SavedValue.{SavedValue}
use Rattle.checkpoint.specs.Pair.{IsCurrent, IsOpen, Spelling, body}
use Rattle.checkpoint.specs.declared.record.CheckpointRecord.{CheckpointRecord}
use Rattle.checkpoint.specs.declared.record.Entry.{Entry}
use Rattle.checkpoint.specs.declared.record.Entry.TheVariants.{Here, Moved}
use Rattle.checkpoint.specs.declared.record.SlotId.{SlotId}
use Rattle.checkpoint.specs.declared.record.SlotId.TheVariants.{Small, Large}

-- an outcome's tag
abbrev pub tag_of : Option Outcome → ℕ
tag_of None = 0
tag_of (Some (Value v)) = 1
tag_of (Some TooDeep) = 2

-- an outcome's number, 0 where it has none
abbrev pub value_of : Option Outcome → ℤ
value_of None = pos 0
value_of (Some (Value v)) = v
value_of (Some TooDeep) = pos 0

-- the fields of a slot, each at its place behind the gate, numbers with their highest byte first
pub record HasFields (body : List ℕ) (sequence size job epoch tag : ℕ) (value : ℤ) : Type 0 where
  pub sequence_at : big_from 0 8 body ≡ sequence
  pub size_at : big_from 8 2 body ≡ size
  pub job_at : big_from 10 8 body ≡ job
  pub epoch_at : big_from 18 8 body ≡ epoch
  pub epoch_small : epoch < 2 ^ 63
  pub outcome_at : get_or body 26 0 ≡ tag
  pub value_at : cast_signed w64 (big_from 27 8 body) ≡ value

-- a small slot has a record of which no values are saved, or says that the record has moved into a
-- large one
pub record SpellsSlot (body : List ℕ) (sequence : ℕ) (r : CheckpointRecord) : Type 0 where
  pub fields : HasFields body sequence 25 r.job r.epoch (tag_of r.outcome) (value_of r.outcome)
  pub unsaved : r.saved ≡ []

pub record SpellsMoved (body : List ℕ) (sequence : ℕ) : Type 0 where
  pub job : ℕ
  pub epoch : ℕ
  pub fields : HasFields body sequence 25 job epoch 3 (pos 0)

abbrev pub SpellsSmall : Spelling Entry
SpellsSmall body sequence (Here r) = SpellsSlot body sequence r
SpellsSmall body sequence Moved = SpellsMoved body sequence

-- a value that is saved, in 32 bytes: how many steps its place has, these from the root on, zeros
-- in place of further ones, and the value
pub record SpellsEntry (entry : List ℕ) (x : SavedValue) : Type 0 where
  pub length_at : get_or entry 0 0 ≡ length x.place
  pub place : IsTrue (is_saved_place x.place)
  pub steps : take (length x.place) (drop 1 entry) ≡ reverse x.place
  pub unused : take (23 - length x.place) (drop (1 + length x.place) entry) ≡ replicate (23 - length x.place) 0
  pub value_at : cast_signed w64 (big_from 24 8 entry) ≡ x.value

abbrev pub SpellsEntries : List ℕ → List SavedValue → Type 0
SpellsEntries bytes [] = ⊤
SpellsEntries bytes (x ∷ saved) = SpellsEntry (take 32 bytes) x × SpellsEntries (drop 32 bytes) saved

-- a large slot has a record, with how many values are saved, and these by the order of their places
pub record SpellsLarge (body : List ℕ) (sequence : ℕ) (r : CheckpointRecord) : Type 0 where
  pub fields : HasFields body sequence 2101 r.job r.epoch (tag_of r.outcome) (value_of r.outcome)
  pub count_at : get_or body 35 0 ≡ length r.saved
  pub entries : SpellsEntries (drop 63 body) r.saved
  pub listed : IsSavedList r.saved

-- what is written behind a large slot's gate: the fields, and zeros that no reader looks at
pub record IsBody (bytes : List ℕ) (sequence : ℕ) (r : CheckpointRecord) : Type 0 where
  pub size : length bytes ≡ 2111
  pub spells : SpellsLarge bytes sequence r
  pub zeros : take 27 (drop 36 bytes) ≡ replicate 27 0
  pub unused : drop (63 + 32 * length r.saved) bytes ≡ replicate (32 * (64 - length r.saved)) 0

-- and behind a small slot's, once the record of a job in an epoch moves
pub record IsMovedBody (bytes : List ℕ) (sequence job epoch : ℕ) : Type 0 where
  pub size : length bytes ≡ 63
  pub fields : HasFields bytes sequence 25 job epoch 3 (pos 0)
  pub zeros : drop 35 bytes ≡ replicate 28 0

-- and where a job has just begun
pub record IsBegunBody (bytes : List ℕ) (job : ℕ) : Type 0 where
  pub size : length bytes ≡ 63
  pub fields : HasFields bytes 0 25 job 0 0 (pos 0)

-- CNOWCKP
abbrev pub name : List ℕ
name = 67 ∷ 78 ∷ 79 ∷ 87 ∷ 67 ∷ 75 ∷ 80 ∷ []

-- a store of the older form has this record, of this sequence, in the first or the second small
-- slot. Behind these may stand anything
pub record IsOld (file : List ℕ) (second : Bool) (sequence : ℕ) (r : CheckpointRecord) : Type 0 where
  pub most : length file ≤ 4360
  pub named : take 7 file ≡ name
  pub version : get_or file 7 0 ≡ 1
  pub current : IsCurrent SpellsSmall 8 63 file second sequence (Here r)

-- in one of the newer form the small slots say that the record has moved
pub record HasMoved (file : List ℕ) : Type 0 where
  pub size : length file ≡ 4360
  pub named : take 7 file ≡ name
  pub version : get_or file 7 0 ≡ 1
  pub second : Bool
  pub moves : ℕ
  pub moved : IsCurrent SpellsSmall 8 63 file second moves Moved

-- and it stands in the first or the second large slot
pub record IsNew (file : List ℕ) (second : Bool) (sequence : ℕ) (r : CheckpointRecord) : Type 0 where
  pub front : HasMoved file
  pub current : IsCurrent SpellsLarge 136 2111 file second sequence r

-- the file is a store, with this record, of this sequence, in this slot
abbrev pub IsStore : List ℕ → SlotId → ℕ → CheckpointRecord → Type 0
IsStore file (Small second) sequence r = IsOld file second sequence r
IsStore file (Large second) sequence r = IsNew file second sequence r

-- the record of a job that has just begun
abbrev pub fresh : ℕ → CheckpointRecord
fresh job = record { job = job; epoch = 0; outcome = None; saved = [] }

-- what stands behind the small slots of a store that is made, or that becomes one of the newer
-- form: an open slot with the record, and zeros
pub record IsBoth (both : List ℕ) (r : CheckpointRecord) : Type 0 where
  pub size : length both ≡ 4224
  pub gate : IsOpen (take 2112 both)
  pub written : IsBody (body (take 2112 both)) 0 r
  pub large : drop 2112 both ≡ replicate 2112 0

-- the file of such a job, of the newer form: the record has moved from the first small slot into
-- the first large one, and the second slots are zero
pub record IsFormatted (file : List ℕ) (job : ℕ) : Type 0 where
  pub store : IsNew file false 0 (fresh job)
  pub moved : IsMovedBody (take 63 (drop 9 file)) 0 job 0
  pub small : take 64 (drop 72 file) ≡ replicate 64 0
  pub behind : IsBoth (drop 136 file) (fresh job)

-- the file of such a job, of the older form
pub record IsFormattedSmall (file : List ℕ) (job : ℕ) : Type 0 where
  pub size : length file ≡ 136
  pub store : IsOld file false 0 (fresh job)
