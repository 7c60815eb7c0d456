use Rattle.std.proofs.Common.{◌≡◌, ◌∷◌, ◌++◌, [], ◌∙◌, sym, rules}
use Rattle.traces.specs.Lines.{trace}
use Rattle.traces.proofs.Reading.{line_here, nothing_here, refused_here, some_left}
use Rattle.traces.proofs.trace.Trace.read.Goals as goal

pub loop-line-preserved-in-Nothing : goal.loop-line-preserved-in-Nothing
loop-line-preserved-in-Nothing c =
    nothing_here c.loop-line.lines.items
    (trace c.args.text.now) c.loop-line.left c.next.new.self c.in-Some.line.now c.in-Some.ensures
    (some_left c.is_empty.result c.next.new.self c.is_empty.ensures c.if-is_empty.false)
    (sym c.in_ok-line_in.ensures ∙ c.in-Nothing.is) c.loop-line.invariant

pub loop-line-preserved : goal.loop-line-preserved
loop-line-preserved c =
    let one : c.push_back.new.self.items ≡ c.loop-line.lines.items ++ c.in-Says.line ∷ [] = search rules in
    line_here c.loop-line.lines.items c.push_back.new.self.items c.in-Says.line
    (trace c.args.text.now) c.loop-line.left c.next.new.self c.in-Some.line.now
    c.in-Some.ensures (some_left c.is_empty.result c.next.new.self c.is_empty.ensures c.if-is_empty.false)
    (sym c.in_ok-line_in.ensures ∙ c.in-Says.is) one c.loop-line.invariant

pub returns-in-Refused-clause-refused : goal.returns-in-Refused-clause-refused
returns-in-Refused-clause-refused c = λ n same.
    refused_here c.loop-line.lines.items
    (trace c.args.text.now) c.loop-line.left c.next.new.self c.in-Some.line.now c.in-Some.ensures
    (some_left c.is_empty.result c.next.new.self c.is_empty.ensures c.if-is_empty.false)
    (sym c.in_ok-line_in.ensures ∙ c.in-Refused.is) c.loop-line.invariant
