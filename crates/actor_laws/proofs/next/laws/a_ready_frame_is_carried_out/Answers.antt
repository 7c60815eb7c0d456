use Rattle.actor_laws.proofs.next.Carrying.{ready_carried}
use Rattle.actor_laws.proofs.next.laws.a_ready_frame_is_carried_out.Goals as goal

pub returns : goal.returns
returns c = λ job r n g f s x ok member there right ready. ready_carried job ok r n g f s x member there right ready
