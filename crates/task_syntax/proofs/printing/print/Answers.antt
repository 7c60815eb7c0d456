use Rattle.task_syntax.proofs.PrintAgain.{ok_reads_back}
use Rattle.task_syntax.proofs.printing.print.Goals as goal

pub returns-clause-reads_back : goal.returns-clause-reads_back
returns-clause-reads_back c =
    let wrote = rw c.as_slice.ensures at c.print_threads.ensures in
    ok_reads_back (λ v. v.items) c.new-out.result c.print_threads.new.out c.finish.result c.args.program.now
    c.new-out.ensures wrote c.finish.ensures.text c.finish.ensures.short
