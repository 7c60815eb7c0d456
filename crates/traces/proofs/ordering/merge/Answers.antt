use Rattle.std.proofs.Common.{refl, subst, sym}
use Rattle.traces.specs.Merges.{Leads, MergeOf}
use Rattle.traces.specs.Merging.{merge_of}
use Rattle.traces.proofs.ordering.merge.Goals as goal

pub returns : goal.returns
returns c = record {
  end = merge_of c.run.new.self;
  led = subst (λ (m : MergeOf). Leads m (merge_of c.run.new.self)) c.in_ok-merge.ensures.begun
      c.in_ok-run.ensures.moves;
  all = sym c.if-not-is_over.ensures;
  events = refl;
  sent = c.in_ok-run.ensures.kept;
}
