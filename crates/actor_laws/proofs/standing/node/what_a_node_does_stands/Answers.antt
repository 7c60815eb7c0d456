use Rattle.actor_laws.proofs.standing.Recovering.{all_recovered}
use Rattle.actor_laws.proofs.standing.Rows.{ask_stand, depart_stand, exec_ready_stand, exec_stand, packet_stands, resend_stand, start_stands, whole_ready_stand}
use Rattle.actor_laws.proofs.standing.node.what_a_node_does_stands.Goals as goal

pub returns-clause-recovered : goal.returns-clause-recovered
returns-clause-recovered c = λ members subs order one. all_recovered members subs order one

pub returns-clause-packets : goal.returns-clause-packets
returns-clause-packets c = λ job n choice p stands order apart. packet_stands job n stands order choice p apart

pub returns-clause-exec : goal.returns-clause-exec
returns-clause-exec c = λ job n d g f stands. exec_stand job n stands d g f

pub returns-clause-exec_ready : goal.returns-clause-exec_ready
returns-clause-exec_ready c = λ job n g f stands. exec_ready_stand job n stands g f

pub returns-clause-whole_ready : goal.returns-clause-whole_ready
returns-clause-whole_ready c = λ job n most g f stands. whole_ready_stand job n stands most g f

pub returns-clause-ask : goal.returns-clause-ask
returns-clause-ask c = λ job n victim stands. ask_stand job n stands victim

pub returns-clause-resend : goal.returns-clause-resend
returns-clause-resend c = λ job n stands. resend_stand job n stands

pub returns-clause-depart : goal.returns-clause-depart
returns-clause-depart c = λ job n heir stands. depart_stand job n stands heir

pub returns-clause-start : goal.returns-clause-start
returns-clause-start c = λ job word. start_stands job word
