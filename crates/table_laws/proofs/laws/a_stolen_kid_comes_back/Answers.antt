use Rattle.std.proofs.Common.{refl, inl}
use Rattle.table_laws.proofs.SampleEnd.{fill, filled_view, filled_reached}
use Rattle.table_laws.proofs.laws.a_stolen_kid_comes_back.Goals as goal

pub returns : goal.returns
returns c = (filled_view, filled_reached, fill, inl refl, refl)
