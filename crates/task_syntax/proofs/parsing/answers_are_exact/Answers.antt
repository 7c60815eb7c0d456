use Rattle.task_syntax.proofs.OneTree.{one_program}
use Rattle.task_syntax.proofs.Texts.{one_refusal, not_both}
use Rattle.task_syntax.proofs.parsing.answers_are_exact.Goals as goal

pub returns-clause-one_refusal : goal.returns-clause-one_refusal
returns-clause-one_refusal c = λ text e f m n. one_refusal text e f m n

pub returns-clause-not_both : goal.returns-clause-not_both
returns-clause-not_both c = λ text p e r m. not_both text p e r m

pub returns-clause-one_program : goal.returns-clause-one_program
returns-clause-one_program c = λ text p q r s. one_program text p q r s
