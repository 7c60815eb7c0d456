use Rattle.actor_laws.proofs.actor_agreement.Changing.{exec_ready_right, whole_ready_right}
use Rattle.actor_laws.proofs.actor_agreement.Leaving.{depart_right, resend_right}
use Rattle.actor_laws.proofs.actor_agreement.Table.{ask_right, packet_right, start_right}
use Rattle.actor_laws.proofs.actor_agreement.laws.what_a_node_does_agrees.Goals as goal

pub returns-clause-packets : goal.returns-clause-packets
returns-clause-packets c = λ job n choice p right fresh may. packet_right job n right choice p may fresh

pub returns-clause-exec_ready : goal.returns-clause-exec_ready
returns-clause-exec_ready c = λ job n g f accepted right. exec_ready_right job n right accepted g f

pub returns-clause-ask : goal.returns-clause-ask
returns-clause-ask c = λ job n victim right. ask_right job n right victim

pub returns-clause-resend : goal.returns-clause-resend
returns-clause-resend c = λ job n right. resend_right job n right

pub returns-clause-depart : goal.returns-clause-depart
returns-clause-depart c = λ job n heir right. depart_right job n right heir

pub returns-clause-start : goal.returns-clause-start
returns-clause-start c = start_right

pub returns-clause-whole_ready : goal.returns-clause-whole_ready
returns-clause-whole_ready c = λ job n most g f accepted right. whole_ready_right job n right accepted most g f
