use Rattle.std.proofs.Common.{◌≡◌, ◌∙◌, ap, sym, Some}
use Rattle.traces.proofs.ordering.Merging.passing.Goals as goal

pub returns-in-House : goal.returns-in-House
returns-in-House c =
    let at = c.in-Some.is ∙ ap Some c.in-House.is in
    record { stands = at; stays = c.one.ensures.stands ∙ sym at; is = c.one.ensures.events }
