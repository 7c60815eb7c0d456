use Rattle.std.proofs.Common.{refl, subst, sym}
use Rattle.actors.specs.Called.{IsCalled}
use Rattle.actors.specs.declared.actor.Actor.TheVariants.{House}
use Rattle.actors.proofs.actor.Actor.call.Goals as goal

pub returns-in-House : goal.returns-in-House
returns-in-House g c = subst (λ old.
    IsCalled g.D.Disk.device g.D.Disk.planned c.args.call c.call-in-House.result old (House c.call-in-House.new.self))
    (sym c.in-House.is) (c.call-in-House.new.self, refl, c.call-in-House.ensures)
