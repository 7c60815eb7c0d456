use Rattle.std.proofs.Common.{◌∙◌, sym}
use Rattle.traces.specs.Names.{names_in}
use Rattle.traces.proofs.Naming.{none_here, one_here}
use Rattle.traces.proofs.name.names_in.Goals as goal

pub loop-line-preserved-in-Continue-1 : goal.loop-line-preserved-in-Continue-1
loop-line-preserved-in-Continue-1 c =
    one_here c.loop-line.names.items c.push.new.self.items (names_in c.args.text.now) c.loop-line.left c.next.new.self
    c.in-Some.line.now c.in-Some-sent_name.name c.in-Some.ensures (sym c.sent_name.ensures ∙ c.in-Some-sent_name.is)
    c.in_ok-push.ensures.items c.loop-line.invariant

pub loop-line-preserved : goal.loop-line-preserved
loop-line-preserved c =
    none_here c.loop-line.names.items (names_in c.args.text.now) c.loop-line.left c.next.new.self c.in-Some.line.now
    c.in-Some.ensures (sym c.sent_name.ensures ∙ c.in_default-sent_name.is) c.loop-line.invariant
