use Rattle.clearinghouse.proofs.Keeping.{roster_full, roster_room}
use Rattle.clearinghouse.proofs.laws.full_roster.Goals as goal

pub returns-clause-room : goal.returns-clause-room
returns-clause-room c = roster_room

pub returns-clause-full : goal.returns-clause-full
returns-clause-full c = roster_full
