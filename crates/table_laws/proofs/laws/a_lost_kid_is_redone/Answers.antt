use Rattle.std.proofs.Common.{refl, inl}
use Rattle.table_laws.proofs.Sample.{root, kid}
use Rattle.table_laws.proofs.Redo.{redone_view, redone_reached, redone_sub, redone_holds, ready_again}
use Rattle.table_laws.proofs.laws.a_lost_kid_is_redone.Goals as goal

pub returns : goal.returns
returns c = (redone_view, redone_reached, kid, inl refl, root, refl, 1, redone_sub, redone_holds, ready_again)
