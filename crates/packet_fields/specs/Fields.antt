-- The fields of packets, each as a format.
use Rattle.std.specs.Prelude.{◌≡◌, ◌++◌, ◌^◌, ◌+◌, ◌&&◌, ℕ, zero, suc, ℤ, pos, negsuc, Bool, true, false, not, nat_eq, nat_lt, nat_le, if◌then◌else◌, IsTrue, List, [], reverse, Option, Some, None, Ok}
use Rattle.std.specs.Ordering.{is_lt}
use Rattle.std.specs.Int.{w64, cast_signed, cast_unsigned}
use Rattle.byteorder.specs.Endian.{big_bytes}
use Rattle.ids.specs.Names.{Grant, grant_before, is_actor, is_address, is_counted, is_epoch, is_worker}
use Rattle.ids.specs.declared.outcome.Outcome.{Outcome}
use Rattle.ids.specs.declared.outcome.Outcome.TheVariants.{Value, TooDeep}
use Rattle.ids.specs.declared.returns.Return.{Return}
use Rattle.ids.specs.declared.returns.Return.TheVariants.{Whole, Local}
use Rattle.packet_fields.specs.declared.fault.Fault.TheVariants.{Field}
use Rattle.ids.specs.declared.work.Frame.{Frame}
use Rattle.ids.specs.declared.member.Member.{Member}
use Rattle.ids.specs.declared.outcome.Progress.{Progress}
use Rattle.ids.specs.declared.outcome.Progress.TheVariants.{Active, Finished}
use Rattle.ids.specs.declared.work.Record.{Record}
use Rattle.ids.specs.declared.member.Status.{Status}
use Rattle.ids.specs.declared.member.Status.TheVariants.{Live, Dead, Left}
use Rattle.ids.specs.declared.work.Task.{Task}
use Rattle.saved_values.specs.Places.{is_saved_place, place_cmp}
use Rattle.saved_values.specs.Saved.{place_of}
use Rattle.saved_values.specs.declared.value.SavedValue.{SavedValue}
use Rattle.packet_fields.specs.Format.{Format, ◌>>=◌, at_most, checked, tagged_arm, followed, is_empty, items, listed, made, never, nothing, number, plain, raw, variant}

-- the word of a worker's start
unfoldable pub worker : Format ℕ
worker = checked (number 8) is_worker

-- a worker other than one named before
abbrev pub other_worker : ℕ → Format ℕ
other_worker own = checked worker (λ heir. not (nat_eq heir own))

-- an epoch of the clearinghouse
unfoldable pub epoch : Format ℕ
epoch = checked (number 8) is_epoch

-- a worker, or the clearinghouse in an epoch
unfoldable pub actor : Format ℕ
actor = checked (number 8) is_actor

-- where a packet goes, if a test allows it
abbrev pub address : (ℕ → Bool) → Format ℕ
address allowed = checked (number 8) (λ to. is_address to && allowed to)

-- a number counted from 1
unfoldable pub counted : Format ℕ
counted = checked (number 8) is_counted

-- how often a grant moved
unfoldable pub hop : Format ℕ
hop = number 4

-- a number of four bytes, at least 1: the hop of an offer, or the number of its next frame
unfoldable pub raised : Format ℕ
raised = checked (number 4) (λ n. nat_lt 0 n)

-- the number of a frame, below the next one
abbrev pub below : ℕ → Format ℕ
below next = checked (number 4) (λ n. nat_lt n next)

-- into how many pieces an offer is cut at most
abbrev pub most_pieces : ℕ
most_pieces = 16384

-- into how many pieces an offer is cut: at least 2
unfoldable pub pieces : Format ℕ
pieces = checked (number 2) (λ n. nat_le 2 n && nat_le n most_pieces)

-- which of so many pieces it is, counted from 0
abbrev pub piece_of : ℕ → Format ℕ
piece_of pieces = checked (number 2) (λ n. nat_lt n pieces)

-- how many bytes a part of an offer's spelling has at most
abbrev pub part_bytes : ℕ
part_bytes = 65536

-- how many bytes a part may have: the last one 1 at least, each other one as many as it can
abbrev pub allows_part : ℕ → ℕ → ℕ → Bool
allows_part pieces number count = if nat_eq (number + 1) pieces then nat_lt 0 count && nat_le count part_bytes else nat_eq count part_bytes

-- a part of an offer's spelling, behind the count of its bytes
unfoldable pub part : ℕ → ℕ → Format (List ℕ)
part pieces number = listed 4 (allows_part pieces number) raw

-- the name of a grant: who minted it, then its number
unfoldable pub grant : Format Grant
grant = made (followed actor (λ minter. counted)) (λ p. record { minter = p.0; number = p.1 }) (λ g. (g.minter, g.number))

-- a step of a place: 0 to the successor, 1 to 8 to a kid
unfoldable pub step : Format ℕ
step = checked (number 1) (λ s. nat_lt s 9)

-- the steps from the root on
unfoldable pub steps : Format (List ℕ)
steps = listed 2 (at_most 1024) (plain step)

-- a place is the list of its steps, the last one first
unfoldable pub place : Format (List ℕ)
place = made steps reverse reverse

-- the number of a thread, below 64
unfoldable pub thread : Format ℕ
thread = checked (number 1) (λ t. nat_lt t 64)

-- whether eight bytes hold the number
abbrev pub is_word : ℤ → Bool
is_word (pos n) = nat_lt n (2 ^ 63)
is_word (negsuc n) = nat_lt n (2 ^ 63)

-- a signed number, in two's complement
unfoldable pub signed : Format ℤ
signed = record {
  Spelled = λ from to z. IsTrue (is_word z) × (from ≡ big_bytes 8 (cast_unsigned w64 z) ++ to);
  read = λ from. (number 8).read from >>= λ x. Ok (cast_signed w64 x.0, x.1);
  write = λ z. big_bytes 8 (cast_unsigned w64 z);
  fits = is_word;
}

-- at most 8 signed numbers behind their count
unfoldable pub numbers : Format (List ℤ)
numbers = listed 1 (at_most 8) (plain signed)

-- a thread on numbers, and where it stands
unfoldable pub task : Format Task
task =
    made (followed place (λ _. followed thread (λ _. numbers)))
    (λ x. record { place = x.0; thread = x.1.0; numbers = x.1.1 })
    (λ t. (t.place, (t.thread, t.numbers)))

-- an outcome: 1 and the value, or 2 for too deep
abbrev pub tag_of_outcome : Outcome → ℕ
tag_of_outcome (Value v) = 1
tag_of_outcome TooDeep = 2

abbrev pub value_in : Outcome → Option ℤ
value_in (Value v) = Some v
value_in TooDeep = None

abbrev pub is_too_deep : Outcome → Bool
is_too_deep (Value v) = false
is_too_deep TooDeep = true

abbrev pub outcome_arm : ℕ → Format Outcome
outcome_arm zero = never Field
outcome_arm (suc zero) = variant signed Value value_in
outcome_arm (suc (suc zero)) = nothing TooDeep is_too_deep
outcome_arm (suc (suc (suc n))) = never Field

unfoldable pub outcome : Format Outcome
outcome = tagged_arm (number 1) outcome_arm tag_of_outcome

-- how far a subcomputation is: 0 while it goes on, else its outcome
abbrev pub tag_of_progress : Progress → ℕ
tag_of_progress Active = 0
tag_of_progress (Finished o) = tag_of_outcome o

abbrev pub outcome_in : Progress → Option Outcome
outcome_in Active = None
outcome_in (Finished o) = Some o

abbrev pub is_active : Progress → Bool
is_active Active = true
is_active (Finished o) = false

abbrev pub progress_arm : ℕ → Format Progress
progress_arm zero = nothing Active is_active
progress_arm (suc tag) = variant (outcome_arm (suc tag)) Finished outcome_in

unfoldable pub progress : Format Progress
progress = tagged_arm (number 1) progress_arm tag_of_progress

-- a slot: 0 where it is empty, or 1 and its number
abbrev pub tag_of_slot : Option ℤ → ℕ
tag_of_slot None = 0
tag_of_slot (Some v) = 1

abbrev pub is_open : Option ℤ → Bool
is_open None = true
is_open (Some v) = false

abbrev pub slot_arm : ℕ → Format (Option ℤ)
slot_arm zero = nothing None is_open
slot_arm (suc zero) = variant signed Some (λ slot. slot)
slot_arm (suc (suc n)) = never Field

unfoldable pub slot : Format (Option ℤ)
slot = tagged_arm (number 1) slot_arm tag_of_slot

-- at most 8 slots behind their count
unfoldable pub slots : Format (List (Option ℤ))
slots = listed 1 (at_most 8) (plain slot)

-- where a value goes: 0 for the whole subcomputation, or 1, a frame below the next one and a slot
-- of at most 7
abbrev pub tag_of_return : Return → ℕ
tag_of_return Whole = 0
tag_of_return (Local f s) = 1

abbrev pub local_in : Return → Option (ℕ × ℕ)
local_in Whole = None
local_in (Local f s) = Some (f, s)

abbrev pub is_whole : Return → Bool
is_whole Whole = true
is_whole (Local f s) = false

abbrev pub return_arm : ℕ → ℕ → Format Return
return_arm next zero = nothing Whole is_whole
return_arm next (suc zero) =
    variant (followed (below next) (λ frame. checked (number 1) (λ slot. nat_lt slot 8))) (λ p. Local p.0 p.1) local_in
return_arm next (suc (suc n)) = never Field

unfoldable pub goes_to : ℕ → Format Return
goes_to next = tagged_arm (number 1) (return_arm next) tag_of_return

-- whether a number is above the last one, if there is one
abbrev pub is_above : Option ℕ → ℕ → Bool
is_above None n = true
is_above (Some last) n = nat_lt last n

-- whether a grant stands behind the last one, if there is one
abbrev pub is_behind : Option Grant → Grant → Bool
is_behind None g = true
is_behind (Some last) g = grant_before last g

-- a status: 0 live, 1 dead, or 2 and the heir, who is another worker
abbrev pub tag_of_status : Status → ℕ
tag_of_status Live = 0
tag_of_status Dead = 1
tag_of_status (Left heir) = 2

abbrev pub heir_in : Status → Option ℕ
heir_in Live = None
heir_in Dead = None
heir_in (Left heir) = Some heir

abbrev pub is_live : Status → Bool
is_live Live = true
is_live Dead = false
is_live (Left heir) = false

abbrev pub is_dead : Status → Bool
is_dead Live = false
is_dead Dead = true
is_dead (Left heir) = false

abbrev pub status_arm : ℕ → ℕ → Format Status
status_arm own zero = nothing Live is_live
status_arm own (suc zero) = nothing Dead is_dead
status_arm own (suc (suc zero)) = variant (other_worker own) Left heir_in
status_arm own (suc (suc (suc n))) = never Field

unfoldable pub status : ℕ → Format Status
status own = tagged_arm (number 1) (status_arm own) tag_of_status

-- a member behind the last one
unfoldable pub member : Option ℕ → Format Member
member last =
    made (followed (checked worker (is_above last)) status)
    (λ x. record { incarnation = x.0; status = x.1 })
    (λ m. (m.incarnation, m.status))

abbrev pub name_of_member : Member → ℕ
name_of_member m = m.incarnation

-- at most 4,096 members, by rising incarnation
unfoldable pub members : Format (List Member)
members = listed 2 (at_most 4096) (items name_of_member member None)

-- a frame behind the last one, and below the next one
unfoldable pub frame : ℕ → Option ℕ → Format Frame
frame next last =
    made (followed (checked (below next) (is_above last)) (λ _. followed place (λ _. followed thread (λ _. followed slots (λ _. goes_to next)))))
    (λ x. record { number = x.0; place = x.1.0; thread = x.1.1.0; slots = x.1.1.1.0; returns = x.1.1.1.1 })
    (λ f. (f.number, (f.place, (f.thread, (f.slots, f.returns)))))

abbrev pub number_of_frame : Frame → ℕ
number_of_frame f = f.number

-- how many frames or records may stand where a subcomputation is so far: none where it is finished
abbrev pub allows : Progress → ℕ → Bool
allows Active count = true
allows (Finished o) count = nat_eq count 0

-- frames by rising number
unfoldable pub frames : Progress → ℕ → Format (List Frame)
frames progress next = listed 4 (allows progress) (items number_of_frame (frame next) None)

-- a record behind the last one
unfoldable pub stolen : ℕ → Option Grant → Format Record
stolen next last =
    made (followed (checked grant (is_behind last)) (λ _. followed worker (λ _. followed (below next) (λ _. followed task (λ _. goes_to next)))))
    (λ x. record { grant = x.0; holder = x.1.0; frame = x.1.1.0; task = x.1.1.1.0; returns = x.1.1.1.1 })
    (λ r. (r.grant, (r.holder, (r.frame, (r.task, r.returns)))))

abbrev pub grant_of_record : Record → Grant
grant_of_record r = r.grant

-- records by rising grant
unfoldable pub records : Progress → ℕ → Format (List Record)
records progress next = listed 4 (allows progress) (items grant_of_record (stolen next) None)

-- the place of a saved value: 1 to 23 steps, of which the last one goes to a kid
unfoldable pub saved_place : Format (List ℕ)
saved_place = checked (made (listed 2 (λ n. nat_lt 0 n && nat_lt n 24) (plain step)) reverse reverse) is_saved_place

-- whether a place stands behind the last one, if there is one
abbrev pub is_later : Option (List ℕ) → List ℕ → Bool
is_later None p = true
is_later (Some last) p = is_lt (place_cmp last p)

-- a saved value, whose place stands behind the last one: else it is a fault, as soon as the place
-- was read
unfoldable pub saved_value : Option (List ℕ) → Format SavedValue
saved_value last = made (followed (checked saved_place (is_later last)) (λ _. signed)) (λ x. record { place = x.0; value = x.1 }) (λ s. (s.place, s.value))

-- 1 to 64 saved values by the order of their places
unfoldable pub saved_values : Format (List SavedValue)
saved_values = listed 1 (λ n. nat_lt 0 n && nat_le n 64) (items place_of saved_value None)

-- no saved values: no bytes
unfoldable pub no_values : Format (List SavedValue)
no_values = nothing [] is_empty
