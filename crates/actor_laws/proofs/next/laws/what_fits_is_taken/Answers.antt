use Rattle.actor_laws.proofs.next.Fitting.{fitting_taken}
use Rattle.actor_laws.proofs.next.laws.what_fits_is_taken.Goals as goal

pub returns : goal.returns
returns c = λ job r o n above none order right foreign. fitting_taken job r o n above none order right foreign
