use Rattle.std.proofs.Common.{◌≡◌, ◌∙◌, ap, sym, Some}
use Rattle.traces.proofs.Stepping.{own_event}
use Rattle.traces.proofs.ordering.Merging.acting.Goals as goal

pub returns-in-Place : goal.returns-in-Place
returns-in-Place c = λ m a p. own_event m a p c.args.event c.args.at c.one.result.then _
    (λ k. c.in_default.not-Deliver k) (record {
      place = c.in-Place.place;
      stands = c.in-Some.is ∙ ap Some c.in-Place.is;
      stays = c.one.ensures.stands ∙ sym (c.in-Some.is ∙ ap Some c.in-Place.is);
      is = c.one.ensures.events;
    })
