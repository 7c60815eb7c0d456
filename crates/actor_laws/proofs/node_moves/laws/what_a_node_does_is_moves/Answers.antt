use Rattle.actor_laws.proofs.node_moves.Changing.{exec_shown, exec_ready_shown, whole_ready_shown}
use Rattle.actor_laws.proofs.node_moves.Resending.{resend_shown}
use Rattle.actor_laws.proofs.node_moves.Table.{ask_shown, depart_shown, packet_shown}
use Rattle.actor_laws.proofs.node_moves.laws.what_a_node_does_is_moves.Goals as goal

pub returns-clause-packets : goal.returns-clause-packets
returns-clause-packets c = λ m job v n choice p run shown told. packet_shown m job v n run shown choice p told

pub returns-clause-exec : goal.returns-clause-exec
returns-clause-exec c = λ job v n d g f run shown saved ends. exec_shown job v n run shown d g f saved ends

pub returns-clause-exec_ready : goal.returns-clause-exec_ready
returns-clause-exec_ready c = λ job v n g f run shown saved. exec_ready_shown job v n run shown g f saved

pub returns-clause-ask : goal.returns-clause-ask
returns-clause-ask c = λ m job v n victim run shown. ask_shown m job v n run shown victim

pub returns-clause-resend : goal.returns-clause-resend
returns-clause-resend c = λ m job v n run shown. resend_shown m job v n run shown

pub returns-clause-depart : goal.returns-clause-depart
returns-clause-depart c = λ m job v n heir run shown. depart_shown m job v n run shown heir

pub returns-clause-whole_ready : goal.returns-clause-whole_ready
returns-clause-whole_ready c = λ job v n most g f run shown saved. whole_ready_shown job v n run shown most g f saved
