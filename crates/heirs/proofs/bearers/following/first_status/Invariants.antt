use Rattle.std.proofs.Common.{◌≡◌, drop}
use Rattle.ids.specs.Members.{status_in}
use Rattle.heirs.proofs.bearers.following.first_status.Given as goal

abbrev pub invariant-loop-member : goal.invariant-loop-member
invariant-loop-member l = status_in l.worker (drop l.member-index l.members) ≡ status_in l.worker l.members
