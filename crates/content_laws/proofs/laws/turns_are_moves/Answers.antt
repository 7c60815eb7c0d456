use Rattle.content_laws.proofs.Carrying.{given_moves, turn_moves}
use Rattle.content_laws.proofs.Evaluated.{exec_moves}
use Rattle.content_laws.proofs.laws.turns_are_moves.Goals as goal

pub returns-clause-turned : goal.returns-clause-turned
returns-clause-turned c = λ p input known v i g s content f numbers turn right live kept shows there full is.
    turn_moves p input v i g s content f numbers live
    (record { kept = kept; shows = shows; there = there; full = full }) known turn right is

pub returns-clause-executed : goal.returns-clause-executed
returns-clause-executed c = exec_moves

pub returns-clause-whole : goal.returns-clause-whole
returns-clause-whole c = λ p input v i g s content f numbers x live kept shows there full is.
    given_moves p input v i g s content f numbers live
    (record { kept = kept; shows = shows; there = there; full = full }) x is
