use Rattle.task_syntax.proofs.PrintLaws.{prints_more}
use Rattle.task_syntax.proofs.printing.+block.Goals as goal

pub print_end-returns-in-Next : goal.print_end-returns-in-Next
print_end-returns-in-Next t c =
    let called = rw c.as_slice.ensures at c.print_next.ensures in
    let used = rw c.as_slice-in-Next.ensures at c.print_uses.ensures in
    rw c.in-Next.is (prints_more called used)
