use Rattle.newcomer_laws.proofs.OfRuns.{finishes_later, finishes_now}
use Rattle.newcomer_laws.proofs.newcomers.a_newcomer_alone_finishes.Goals as goal

pub returns-clause-now : goal.returns-clause-now
returns-clause-now c = λ job d entries worlds w a word most v last ok can runs m ready value enough done.
    finishes_now job ok d entries worlds can runs w m a word most v last ready value enough done

pub returns-clause-later : goal.returns-clause-later
returns-clause-later c = λ job d entries worlds w e o a word most v last ok can runs m over ready value enough done.
    finishes_later job ok d entries worlds can runs w m e o over a word most v last ready value enough done
