-- A run without outcome is that of a job of the text.
use Rattle.std.proofs.lemmas.Result.{err_from_is_err_and}
use Rattle.cilknow.proofs.Refusing.{run_refused}
use Rattle.cilknow.proofs.solo.solo.Goals as goal

pub returns-in_err-evaluate_counted-clause-refused : goal.returns-in_err-evaluate_counted-clause-refused
returns-in_err-evaluate_counted-clause-refused g c =
    let p = err_from_is_err_and c.from_residual-in_err-evaluate_counted.result
    c.from_residual-in_err-evaluate_counted.ensures.1 in
    rw (p.1, p.2) (run_refused c.args.text.now c.args.input.items c.args.job c.args.turns c.in_ok-job.job
    c.in_err-evaluate_counted.field-0.0 c.in_ok-job.ensures.job c.in_err-evaluate_counted.ensures)
