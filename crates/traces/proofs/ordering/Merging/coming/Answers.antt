use Rattle.std.proofs.Common.{◌≡◌, ◌∙◌, ap, sym}
use Rattle.traces.specs.Merging.{merge_of}
use Rattle.traces.specs.declared.line.TraceLine.TheVariants.{Did}
use Rattle.traces.proofs.ordering.Merging.coming.Goals as goal

pub returns-in-AtNode : goal.returns-in-AtNode
returns-in-AtNode c =
    let is = c.in-Did.is ∙ ap Did c.in-AtNode.is in
    rw is (c.acting.ensures (merge_of c.args.self.now) c.args.a c.in-AtNode.field-0)
