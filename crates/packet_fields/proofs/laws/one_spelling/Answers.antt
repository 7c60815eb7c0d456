-- Each field keeps the laws of formats, and so has one spelling.
use Rattle.packet_fields.specs.Fields as field
use Rattle.packet_fields.specs.Format.{number}
use Rattle.packet_fields.proofs.FormatLaws.{number_lawful, one_spelling_of, wide1, wide2, wide4, wide8}
use Rattle.packet_fields.proofs.FieldLaws.{actor_lawful, address_lawful, below_lawful, counted_lawful, epoch_lawful, frame_lawful, frames_lawful, goes_to_lawful, grant_lawful, hop_lawful, member_lawful, members_lawful, no_values_lawful, numbers_lawful, other_worker_lawful, outcome_lawful, part_lawful, piece_of_lawful, pieces_lawful, place_lawful, progress_lawful, raised_lawful, records_lawful, saved_place_lawful, saved_value_lawful, saved_values_lawful, signed_lawful, slot_lawful, slots_lawful, status_lawful, step_lawful, steps_lawful, stolen_lawful, task_lawful, thread_lawful, worker_lawful}
use Rattle.packet_fields.proofs.laws.one_spelling.Goals as goal

pub returns-clause-byte : goal.returns-clause-byte
returns-clause-byte c = one_spelling_of (number 1) (number_lawful 1 wide1)

pub returns-clause-two_bytes : goal.returns-clause-two_bytes
returns-clause-two_bytes c = one_spelling_of (number 2) (number_lawful 2 wide2)

pub returns-clause-four_bytes : goal.returns-clause-four_bytes
returns-clause-four_bytes c = one_spelling_of (number 4) (number_lawful 4 wide4)

pub returns-clause-eight_bytes : goal.returns-clause-eight_bytes
returns-clause-eight_bytes c = one_spelling_of (number 8) (number_lawful 8 wide8)

pub returns-clause-worker : goal.returns-clause-worker
returns-clause-worker c = one_spelling_of field.worker worker_lawful

pub returns-clause-other_worker : goal.returns-clause-other_worker
returns-clause-other_worker c = λ own. one_spelling_of (field.other_worker own) (other_worker_lawful own)

pub returns-clause-epoch : goal.returns-clause-epoch
returns-clause-epoch c = one_spelling_of field.epoch epoch_lawful

pub returns-clause-actor : goal.returns-clause-actor
returns-clause-actor c = one_spelling_of field.actor actor_lawful

pub returns-clause-counted : goal.returns-clause-counted
returns-clause-counted c = one_spelling_of field.counted counted_lawful

pub returns-clause-hop : goal.returns-clause-hop
returns-clause-hop c = one_spelling_of field.hop hop_lawful

pub returns-clause-raised : goal.returns-clause-raised
returns-clause-raised c = one_spelling_of field.raised raised_lawful

pub returns-clause-below : goal.returns-clause-below
returns-clause-below c = λ next. one_spelling_of (field.below next) (below_lawful next)

pub returns-clause-grant : goal.returns-clause-grant
returns-clause-grant c = one_spelling_of field.grant grant_lawful

pub returns-clause-pieces : goal.returns-clause-pieces
returns-clause-pieces c = one_spelling_of field.pieces pieces_lawful

pub returns-clause-piece_of : goal.returns-clause-piece_of
returns-clause-piece_of c = λ pieces. one_spelling_of (field.piece_of pieces) (piece_of_lawful pieces)

pub returns-clause-part : goal.returns-clause-part
returns-clause-part c = λ pieces number. one_spelling_of (field.part pieces number) (part_lawful pieces number)

pub returns-clause-step : goal.returns-clause-step
returns-clause-step c = one_spelling_of field.step step_lawful

pub returns-clause-steps : goal.returns-clause-steps
returns-clause-steps c = one_spelling_of field.steps steps_lawful

pub returns-clause-place : goal.returns-clause-place
returns-clause-place c = one_spelling_of field.place place_lawful

pub returns-clause-thread : goal.returns-clause-thread
returns-clause-thread c = one_spelling_of field.thread thread_lawful

pub returns-clause-signed : goal.returns-clause-signed
returns-clause-signed c = one_spelling_of field.signed signed_lawful

pub returns-clause-numbers : goal.returns-clause-numbers
returns-clause-numbers c = one_spelling_of field.numbers numbers_lawful

pub returns-clause-task : goal.returns-clause-task
returns-clause-task c = one_spelling_of field.task task_lawful

pub returns-clause-outcome : goal.returns-clause-outcome
returns-clause-outcome c = one_spelling_of field.outcome outcome_lawful

pub returns-clause-progress : goal.returns-clause-progress
returns-clause-progress c = one_spelling_of field.progress progress_lawful

pub returns-clause-slot : goal.returns-clause-slot
returns-clause-slot c = one_spelling_of field.slot slot_lawful

pub returns-clause-slots : goal.returns-clause-slots
returns-clause-slots c = one_spelling_of field.slots slots_lawful

pub returns-clause-goes_to : goal.returns-clause-goes_to
returns-clause-goes_to c = λ next. one_spelling_of (field.goes_to next) (goes_to_lawful next)

pub returns-clause-status : goal.returns-clause-status
returns-clause-status c = λ own. one_spelling_of (field.status own) (status_lawful own)

pub returns-clause-member : goal.returns-clause-member
returns-clause-member c = λ last. one_spelling_of (field.member last) (member_lawful last)

pub returns-clause-members : goal.returns-clause-members
returns-clause-members c = one_spelling_of field.members members_lawful

pub returns-clause-frame : goal.returns-clause-frame
returns-clause-frame c = λ next last. one_spelling_of (field.frame next last) (frame_lawful next last)

pub returns-clause-frames : goal.returns-clause-frames
returns-clause-frames c = λ progress next. one_spelling_of (field.frames progress next) (frames_lawful progress next)

pub returns-clause-stolen : goal.returns-clause-stolen
returns-clause-stolen c = λ next last. one_spelling_of (field.stolen next last) (stolen_lawful next last)

pub returns-clause-records : goal.returns-clause-records
returns-clause-records c = λ progress next. one_spelling_of (field.records progress next) (records_lawful progress next)

pub returns-clause-address : goal.returns-clause-address
returns-clause-address c = λ allowed. one_spelling_of (field.address allowed) (address_lawful allowed)

pub returns-clause-saved_place : goal.returns-clause-saved_place
returns-clause-saved_place c = one_spelling_of field.saved_place saved_place_lawful

pub returns-clause-saved_value : goal.returns-clause-saved_value
returns-clause-saved_value c = λ last. one_spelling_of (field.saved_value last) (saved_value_lawful last)

pub returns-clause-saved_values : goal.returns-clause-saved_values
returns-clause-saved_values c = one_spelling_of field.saved_values saved_values_lawful

pub returns-clause-no_values : goal.returns-clause-no_values
returns-clause-no_values c = one_spelling_of field.no_values no_values_lawful
