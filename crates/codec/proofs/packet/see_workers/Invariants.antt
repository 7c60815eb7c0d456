use Rattle.std.proofs.Common.{◌≡◌, drop}
use Rattle.std.specs.List.{list_all}
use Rattle.codec.specs.Rosters.{names_workers}
use Rattle.codec.proofs.packet.see_workers.Given as goal

abbrev pub invariant-loop-member : goal.invariant-loop-member
invariant-loop-member l = list_all names_workers (drop l.member-index l.members) ≡ list_all names_workers l.members
