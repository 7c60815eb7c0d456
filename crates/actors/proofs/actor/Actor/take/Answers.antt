use Rattle.std.proofs.Common.{refl, subst, sym}
use Rattle.actors.specs.Called.{IsTaken}
use Rattle.actors.specs.declared.actor.Actor.TheVariants.{House}
use Rattle.actors.proofs.actor.Actor.take.Goals as goal

pub returns-in-House : goal.returns-in-House
returns-in-House g c = subst (λ old.
    IsTaken g.D.Disk.device g.D.Disk.planned c.args.bytes.now c.take-in-House.result old
    (House c.take-in-House.new.self)) (sym c.in-House.is) (c.take-in-House.new.self, refl, c.take-in-House.ensures)
