use Rattle.task_syntax.proofs.OneTree.{one_program}
use Rattle.serial_meaning.proofs.EqualMeaning.{meaning_alike}
use Rattle.jobs.proofs.laws.one_text_one_outcome.Goals as goal

pub returns : goal.returns
returns c = λ text p q input r s. meaning_alike p q input (one_program text p q r s)
