use Rattle.task_syntax.proofs.EqualPrinted.{printed_alike}
use Rattle.task_syntax.proofs.printing.equal_programs_print_alike.Goals as goal

pub returns : goal.returns
returns c = λ p q e. printed_alike p q e
