use Rattle.content_laws.proofs.Keeping.{turn_kept, result_kept, redo_kept, grant_kept, begun_kept, parent_kept, thief_kept}
use Rattle.content_laws.proofs.Evaluated.{exec_kept}
use Rattle.content_laws.proofs.laws.changes_keep_contents.Goals as goal

pub returns-clause-begun : goal.returns-clause-begun
returns-clause-begun c = begun_kept

pub returns-clause-turned : goal.returns-clause-turned
returns-clause-turned c = λ content f numbers turn kept there full. turn_kept content f numbers kept there full turn

pub returns-clause-executed : goal.returns-clause-executed
returns-clause-executed c = exec_kept

pub returns-clause-closed : goal.returns-clause-closed
returns-clause-closed c = λ content r o kept there. result_kept content r kept there o

pub returns-clause-redone : goal.returns-clause-redone
returns-clause-redone c = λ content r kept there. redo_kept content r kept there

pub returns-clause-granted : goal.returns-clause-granted
returns-clause-granted c = grant_kept

pub returns-clause-parent : goal.returns-clause-parent
returns-clause-parent c = parent_kept

pub returns-clause-thief : goal.returns-clause-thief
returns-clause-thief c = thief_kept
