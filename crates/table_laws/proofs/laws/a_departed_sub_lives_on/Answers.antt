use Rattle.std.proofs.Common.{refl, inl}
use Rattle.table_laws.proofs.SampleEnd.{fill}
use Rattle.table_laws.proofs.Departure.{heirs_sub, shown, left_view, left_reached, heir_holds}
use Rattle.table_laws.proofs.laws.a_departed_sub_lives_on.Goals as goal

pub returns : goal.returns
returns c = (left_view, left_reached, fill, inl refl, shown, refl, 1, 2, refl, heirs_sub, heir_holds)
