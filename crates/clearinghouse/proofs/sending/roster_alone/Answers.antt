use Rattle.std.proofs.Common.{ap}
use Rattle.codec.specs.declared.body.Roster.{Roster}
use Rattle.clearinghouse.proofs.Telling.{told_heirs, told_rising}
use Rattle.clearinghouse.proofs.sending.roster_alone.Goals as goal

pub roster-requires-2-clause-rising : goal.roster-requires-2-clause-rising
roster-requires-2-clause-rising c = rw (ap (λ (r : Roster). r.members) c.in_ok-roster.ensures)
    (told_rising c.args.book.now.version c.args.book.now.workers c.requires)

pub roster-requires-2-clause-heirs : goal.roster-requires-2-clause-heirs
roster-requires-2-clause-heirs c = rw (ap (λ (r : Roster). r.members) c.in_ok-roster.ensures)
    (told_heirs c.args.book.now.version c.args.book.now.workers c.requires)
