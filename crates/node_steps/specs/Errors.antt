-- The numbers of errors.
use Rattle.std.specs.Prelude.{ℕ}
use Rattle.ids.specs.declared.error_numbers.TheConstants.{STALE, NO_VALUE, PENDING, OFFER_TOO_BIG, HOP_SPENT, NO_HEIR, NOT_JOINED, BUSY, SPENT, NODE_MEMORY}
use Rattle.packet_fields.specs.Faults.{number_of_fault}
use Rattle.steal_protocol.specs.declared.asker.AskError.{AskError}
use Rattle.steal_protocol.specs.declared.asker.AskError.TheVariants as ask
use Rattle.sub_rules.specs.declared.change.SubError.{SubError}
use Rattle.sub_rules.specs.declared.change.SubError.TheVariants as sub
use Rattle.departure.specs.declared.freezing.FreezeError.{FreezeError}
use Rattle.departure.specs.declared.freezing.FreezeError.TheVariants as freeze
use Rattle.node_steps.specs.declared.error.NodeError.{NodeError}
use Rattle.node_steps.specs.declared.error.NodeError.TheVariants.{Bytes, Stale, NoValue, Pending, TooBig, HopSpent, NoHeir, NotJoined, Busy, Spent, Memory}

abbrev pub number_of_error : NodeError → ℕ
number_of_error (Bytes fault) = number_of_fault fault
number_of_error Stale = STALE
number_of_error NoValue = NO_VALUE
number_of_error Pending = PENDING
number_of_error TooBig = OFFER_TOO_BIG
number_of_error HopSpent = HOP_SPENT
number_of_error NoHeir = NO_HEIR
number_of_error NotJoined = NOT_JOINED
number_of_error Busy = BUSY
number_of_error Spent = SPENT
number_of_error Memory = NODE_MEMORY

-- why a change, a request or a departure is refused, as a refusal of a call
abbrev pub of_change : SubError → NodeError
of_change sub.Stale = Stale
of_change sub.Spent = Spent
of_change sub.Memory = Memory

abbrev pub of_request : AskError → NodeError
of_request ask.Busy = Busy
of_request ask.Spent = Spent

abbrev pub of_freezing : FreezeError → NodeError
of_freezing freeze.Pending = Pending
of_freezing freeze.TooBig = TooBig
of_freezing freeze.HopSpent = HopSpent
of_freezing freeze.NoHeir = NoHeir
of_freezing freeze.Memory = Memory
