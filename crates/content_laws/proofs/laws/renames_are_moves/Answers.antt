use Rattle.table_laws.specs.Acts.{renames}
use Rattle.content_laws.proofs.Renaming.{parent_shown, thief_shown}
use Rattle.content_laws.proofs.laws.renames_are_moves.Goals as goal

pub returns-clause-parent : goal.returns-clause-parent
returns-clause-parent c = parent_shown

pub returns-clause-renamed : goal.returns-clause-renamed
returns-clause-renamed c = λ v i g s content roster host live shows sent resolves.
    renames i g s roster host live sent (rw shows.host resolves)

pub returns-clause-thief : goal.returns-clause-thief
returns-clause-thief c = thief_shown
