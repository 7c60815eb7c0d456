-- The steps are kept from the root on.
use Rattle.std.proofs.Common.{◌∙◌, sym, refl}
use Rattle.std.proofs.lemmas.List.{reverse-reverse}
use Rattle.ids.proofs.place.Place.step.Goals as goal

pub returns : goal.returns
returns c = c.item_at.ensures ∙ rw c.as_slice.ensures (sym (rw (← c.self.view_is, reverse-reverse) refl))
