use Rattle.content_laws.proofs.Records.{record_shown, record_there, listed_shown}
use Rattle.content_laws.proofs.laws.records_are_shown.Goals as goal

pub returns-clause-there : goal.returns-clause-there
returns-clause-there c = record_shown

pub returns-clause-only : goal.returns-clause-only
returns-clause-only c = record_there

pub returns-clause-listed : goal.returns-clause-listed
returns-clause-listed c = listed_shown
