-- An item more behind those before.
use Rattle.std.proofs.Common.{rules}
use Rattle.task_syntax.specs.Grammar.{none}
use Rattle.task_syntax.specs.Meeting.{done, again, now, later}
use Rattle.task_syntax.proofs.Meeting.{failed, lacks_stands}
use Rattle.task_syntax.proofs.Reading.{many_end}
use Rattle.task_syntax.proofs.reader.threads.threads.Goals as goal

pub loop-alloc-init : goal.loop-alloc-init
loop-alloc-init c = record {
  read = rw c.new-all.ensures none;
  parts = λ to r. r;
  met = λ e m. m;
  shorter = search rules;
}

pub loop-alloc-preserved : goal.loop-alloc-preserved
loop-alloc-preserved c = record {
  read = rw c.in_ok-push.ensures.ok (many_end c.loop-alloc.invariant.read c.in_ok-one.ensures.read);
  parts = λ to r. c.loop-alloc.invariant.parts _ (again c.loop-alloc-test.ensures c.in_ok-one.ensures.parts r);
  met = λ e m. c.loop-alloc.invariant.met _ (later c.loop-alloc-test.ensures c.in_ok-one.ensures.parts m);
  shorter = search rules;
}

pub returns-clause-parts : goal.returns-clause-parts
returns-clause-parts c = c.loop-alloc.invariant.parts _ (done (lacks_stands c.loop-alloc-test.ensures))

pub returns-in_err-one-clause-met : goal.returns-in_err-one-clause-met
returns-in_err-one-clause-met c =
    failed _ _ _ c.from_residual.ensures.1
    (λ m. c.loop-alloc.invariant.met _ (now c.loop-alloc-test.ensures (c.in_err-one.ensures.met m)))
