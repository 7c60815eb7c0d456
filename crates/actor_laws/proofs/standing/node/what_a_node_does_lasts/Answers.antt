use Rattle.actor_laws.proofs.standing.Lasting.{ask_lasts, depart_lasts, exec_lasts, exec_ready_lasts, packet_lasts, resend_lasts, start_lasts, whole_ready_lasts}
use Rattle.actor_laws.proofs.standing.node.what_a_node_does_lasts.Goals as goal

pub returns-clause-packets : goal.returns-clause-packets
returns-clause-packets c = λ job n choice p lasts. packet_lasts job n lasts choice p

pub returns-clause-exec : goal.returns-clause-exec
returns-clause-exec c = λ job n d g f lasts. exec_lasts job n lasts d g f

pub returns-clause-exec_ready : goal.returns-clause-exec_ready
returns-clause-exec_ready c = λ job n g f lasts. exec_ready_lasts job n lasts g f

pub returns-clause-whole_ready : goal.returns-clause-whole_ready
returns-clause-whole_ready c = λ job n most g f lasts. whole_ready_lasts job n lasts most g f

pub returns-clause-ask : goal.returns-clause-ask
returns-clause-ask c = λ job n victim lasts. ask_lasts job n lasts victim

pub returns-clause-resend : goal.returns-clause-resend
returns-clause-resend c = λ job n lasts. resend_lasts job n lasts

pub returns-clause-depart : goal.returns-clause-depart
returns-clause-depart c = λ job n heir lasts. depart_lasts job n lasts heir

pub returns-clause-start : goal.returns-clause-start
returns-clause-start c = λ job word. start_lasts job word
