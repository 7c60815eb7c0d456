use Rattle.task_syntax.proofs.PrintLaws.{prints_more}
use Rattle.task_syntax.proofs.printing.print_next.Goals as goal

pub returns : goal.returns
returns c = prints_more (prints_more
    (prints_more (prints_more (prints_more c.word.ensures c.name.ensures) c.mark.ensures) c.name-2.ensures)
    c.print_arguments.ensures) c.close_call.ensures
