use Rattle.std.proofs.Common.{◌∙◌, ap, sym, Some}
use Rattle.std.proofs.lemmas.Slice.Eq.{bytes_eq-Decides}
use Rattle.traces.proofs.Stepping.{got}
use Rattle.traces.proofs.ordering.Merging.is_named.Goals as goal

pub returns-in-Some : goal.returns-in-Some
returns-in-Some c = λ is.
    got c.deref.result.now c.args.self.now.sent.items c.args.number c.in-Some.found.now c.deref.ensures.value
    c.in-Some.ensures.lookup.0 c.in-Some.ensures.lookup.1
    ∙ ap Some ((bytes_eq-Decides c.in-Some.found.now c.args.name.now).0 (sym c.is.ensures ∙ is))
