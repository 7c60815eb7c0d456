use Rattle.actor_laws.proofs.next.Closing.{result_closes}
use Rattle.actor_laws.proofs.next.laws.a_result_closes_its_record.Goals as goal

pub returns : goal.returns
returns c = λ job r b n order one. result_closes job r b n order one
