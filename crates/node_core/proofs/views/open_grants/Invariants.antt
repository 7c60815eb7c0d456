use Rattle.std.proofs.Common.{◌≡◌, ◌++◌}
use Rattle.node_core.specs.Views.{open_grants}
use Rattle.node_core.proofs.views.open_grants.Given as goal

abbrev pub invariant-loop-record : goal.invariant-loop-record
invariant-loop-record l = l.grants ++ open_grants l.record-iterator ≡ open_grants l.records
