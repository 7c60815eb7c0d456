use Rattle.std.proofs.Common.{◌≡◌, None, Some}
use Rattle.kind_check.specs.Faults.{faults}
use Rattle.kind_check.specs.Least.{least_with}
use Rattle.kind_check.proofs.Accepted.{accepted_total}
use Rattle.kind_check.proofs.First.{least_none, least_is}
use Rattle.kind_check.proofs.InScope.{threads_in_scope}
use Rattle.kind_check.proofs.Resolving.{resolves_follows}
use Rattle.kind_check.proofs.checker.check.Goals as goal

pub program-requires-clause-few : goal.program-requires-clause-few
program-requires-clause-few c =
    let e : least_with None (faults c.args.program) ≡ None = cc (c.in-Ok.ensures, c.in-None.ensures) in
    (accepted_total _ (least_none _ e)).few

pub program-requires-clause-known : goal.program-requires-clause-known
program-requires-clause-known c =
    let e : least_with None (faults c.args.program) ≡ None = cc (c.in-Ok.ensures, c.in-None.ensures) in
    threads_in_scope _ (least_none _ e)

pub new-requires-clause-faultless : goal.new-requires-clause-faultless
new-requires-clause-faultless c =
    let e : least_with None (faults c.args.program) ≡ None = cc (c.in-Ok.ensures, c.in-None.ensures) in
    least_none _ e

pub new-requires-clause-follow : goal.new-requires-clause-follow
new-requires-clause-follow c = resolves_follows _ _ c.in-Ok-program.ensures

pub returns-in-Some-clause-refused : goal.returns-in-Some-clause-refused
returns-in-Some-clause-refused c =
    let e : least_with None (faults c.args.program) ≡ Some (c.in-Some.offset, c.in-Some.fault) =
    cc (c.in-Ok.ensures, c.in-Some.ensures) in
    least_is _ _ e
