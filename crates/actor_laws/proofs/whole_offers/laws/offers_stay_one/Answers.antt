use Rattle.actor_laws.proofs.whole_offers.Steps.{ask_kept, depart_kept, exec_kept, exec_ready_kept, kept_more, packet_kept, resend_kept, start_kept, whole_ready_kept}
use Rattle.actor_laws.proofs.whole_offers.laws.offers_stay_one.Goals as goal

pub returns-clause-packets : goal.returns-clause-packets
returns-clause-packets c = λ m job v n wholes choice p run shown one kept there.
    packet_kept m job v wholes one n kept run shown choice p there

pub returns-clause-exec : goal.returns-clause-exec
returns-clause-exec c = λ m job v n wholes d g f run shown one kept. exec_kept m job v wholes one n kept run shown d g f

pub returns-clause-exec_ready : goal.returns-clause-exec_ready
returns-clause-exec_ready c = λ m job v n wholes g f run shown one kept.
    exec_ready_kept m job v wholes one n kept run shown g f

pub returns-clause-whole_ready : goal.returns-clause-whole_ready
returns-clause-whole_ready c = λ m job v n wholes most g f run shown one kept.
    whole_ready_kept m job v wholes one n kept run shown most g f

pub returns-clause-ask : goal.returns-clause-ask
returns-clause-ask c = λ m job v n wholes victim run shown one kept. ask_kept m job v wholes one n kept run shown victim

pub returns-clause-resend : goal.returns-clause-resend
returns-clause-resend c = λ m job v n wholes run shown one kept. resend_kept m job v wholes one n kept run shown

pub returns-clause-depart : goal.returns-clause-depart
returns-clause-depart c = λ m job v n wholes heir run shown all one kept.
    depart_kept m job v wholes one n kept run shown all heir

pub returns-clause-start : goal.returns-clause-start
returns-clause-start c = start_kept

pub returns-clause-others : goal.returns-clause-others
returns-clause-others c = kept_more
