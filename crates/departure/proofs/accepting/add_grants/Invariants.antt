use Rattle.std.proofs.Common.{◌≡◌, ◌||◌}
use Rattle.std.specs.Option.{is_some}
use Rattle.ids.specs.Names.{Grant}
use Rattle.ids.specs.Naming.{name_of_grant}
use Rattle.victim_records.specs.Records.{record_in}
use Rattle.departure.proofs.LinkedNames.{has}
use Rattle.departure.proofs.accepting.add_grants.Given as goal

abbrev pub invariant-loop-record : goal.invariant-loop-record
invariant-loop-record l = (g : Grant)
    → (has (name_of_grant g) l.held || is_some (record_in g l.record-iterator))
    ≡ (has (name_of_grant g) l.initial.held || is_some (record_in g l.records))
