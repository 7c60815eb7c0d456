use Rattle.std.proofs.Common.{◌≡◌, drop}
use Rattle.ids.specs.Members.{is_live}
use Rattle.departure.proofs.freezing.is_live.Given as goal

abbrev pub invariant-loop-member : goal.invariant-loop-member
invariant-loop-member l = is_live l.worker (drop l.member-index l.members) ≡ is_live l.worker l.members
