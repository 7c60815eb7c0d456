use Rattle.std.proofs.Common.{◌≡◌, ◌∙◌, ap, [], ◌∷◌}
use Rattle.traces.proofs.ordering.Merging.ending.Goals as goal

pub returns-in-Some : goal.returns-in-Some
returns-in-Some c = record {
  seat = c.in-Some.seat;
  stands = c.in-Some.is;
  none = c.one.ensures.stands;
  is = c.one.ensures.events ∙ ap (λ e. e ∷ []) c.crashed.ensures;
}
