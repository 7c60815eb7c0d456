use Rattle.actor_laws.proofs.whole_offers.Uncut.{ask_uncut, depart_cut, exec_ready_uncut, packet_uncut, resend_cut, whole_ready_uncut}
use Rattle.actor_laws.proofs.whole_offers.laws.what_is_sent_goes_cut.Goals as goal

pub returns-clause-packets : goal.returns-clause-packets
returns-clause-packets c = λ job n choice p plain. packet_uncut job n plain choice p

pub returns-clause-exec_ready : goal.returns-clause-exec_ready
returns-clause-exec_ready c = λ job n g f plain. exec_ready_uncut job n plain g f

pub returns-clause-whole_ready : goal.returns-clause-whole_ready
returns-clause-whole_ready c = λ job n most g f plain. whole_ready_uncut job n plain most g f

pub returns-clause-ask : goal.returns-clause-ask
returns-clause-ask c = λ job n victim plain. ask_uncut job n plain victim

pub returns-clause-depart : goal.returns-clause-depart
returns-clause-depart c = λ job n heir plain. depart_cut job n plain heir

pub returns-clause-resend : goal.returns-clause-resend
returns-clause-resend c = λ job n plain. resend_cut job n plain
