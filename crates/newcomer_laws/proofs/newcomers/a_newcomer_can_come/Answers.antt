use Rattle.newcomer_laws.proofs.OfRuns.{moment_in_run}
use Rattle.newcomer_laws.proofs.Ready.{opening_readies}
use Rattle.newcomer_laws.proofs.newcomers.a_newcomer_can_come.Goals as goal

pub returns-clause-moment : goal.returns-clause-moment
returns-clause-moment c = λ job d entries worlds w h root now a word o ok can runs m open_now out silent later none
    grant commit comes over. moment_in_run job ok d entries worlds can runs w m h a word now root open_now out silent
    later none grant commit comes o over

pub returns-clause-opening : goal.returns-clause-opening
returns-clause-opening c = λ job w h a word o closed start over open_then none commit.
    opening_readies job w h a word closed start o over open_then none commit
