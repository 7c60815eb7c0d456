use Rattle.std.proofs.Common.{rules}
use Rattle.ids.specs.Ordered.{AreInOrder}
use Rattle.subcomputation.specs.Fitting.{Fits}
use Rattle.subcomputation.specs.Subs.{name_of_sub}
use Rattle.node_steps.specs.Meeting.{IsNode}
use Rattle.node_calls.proofs.Finding.{all_by_name}
use Rattle.node_calls.proofs.departing.law_all_fit.Goals as goal

pub returns : goal.returns
returns c =
    let is : IsNode c.args.node.now = rw (← c.node.view_is) c.node.invariant in
    let order : AreInOrder name_of_sub c.args.node.now.node.subs = search rules in
    all_by_name name_of_sub (λ s. Fits c.args.node.now.job.program s.content) c.args.node.now.node.subs order
    (λ s there. is.fits s.grant s there)
