use Rattle.std.proofs.Common.{◌∙◌, arith}
use Rattle.kind_check.proofs.Leasts.{threads_step}
use Rattle.kind_check.proofs.walk.all_threads.Goals as goal

pub loop-i-preserved : goal.loop-i-preserved
loop-i-preserved c = threads_step c.args.threads.now.all.now _ c.each-item.result _ _ _
    (omega arith) c.each-item.is c.thread_name.ensures c.in_ok-thread.ensures ∙ c.loop-i.invariant
