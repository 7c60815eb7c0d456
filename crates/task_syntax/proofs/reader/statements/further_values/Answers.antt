-- An item more behind those before.
use Rattle.std.proofs.Common.{rules}
use Rattle.task_syntax.specs.Grammar.{further, none}
use Rattle.task_syntax.specs.Refusals.{stands}
use Rattle.task_syntax.specs.Meeting.{done, again, now, later, both, behind, valued}
use Rattle.task_syntax.proofs.Meeting.{failed, lacks_stands}
use Rattle.task_syntax.proofs.Reading.{many_end}
use Rattle.task_syntax.proofs.reader.statements.further_values.Goals as goal

pub loop-after-init : goal.loop-after-init
loop-after-init c = record {
  read = rw c.new-all.ensures none;
  parts = λ to r. r;
  met = λ e m. m;
  shorter = search rules;
}

pub loop-after-preserved : goal.loop-after-preserved
loop-after-preserved c = record {
  read = rw c.in_ok-push.ensures.ok (many_end c.loop-after.invariant.read
      (further c.in-Some.ensures.some c.in_ok-one.ensures.read));
  parts = λ to r. c.loop-after.invariant.parts _
      (again (stands c.in-Some.ensures.some)
      (both c.in-Some.ensures.some (valued c.in_ok-one.ensures.read c.in_ok-one.ensures.stops)) r);
  met = λ e m. c.loop-after.invariant.met _
      (later (stands c.in-Some.ensures.some)
      (both c.in-Some.ensures.some (valued c.in_ok-one.ensures.read c.in_ok-one.ensures.stops)) m);
  shorter = search rules;
}

pub returns-clause-parts : goal.returns-clause-parts
returns-clause-parts c = c.loop-after.invariant.parts _ (done (lacks_stands c.in_default.ensures.none))

pub returns-in_err-one-clause-met : goal.returns-in_err-one-clause-met
returns-in_err-one-clause-met c =
    failed _ _ _ c.from_residual.ensures.1
    (λ m. c.loop-after.invariant.met _
    (now (stands c.in-Some.ensures.some) (behind c.in-Some.ensures.some (c.in_err-one.ensures.met m))))
