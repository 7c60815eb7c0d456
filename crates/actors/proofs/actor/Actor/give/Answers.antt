use Rattle.std.proofs.Common.{refl, subst, sym}
use Rattle.actors.specs.Called.{IsHanded}
use Rattle.actors.specs.declared.actor.Actor.TheVariants.{House}
use Rattle.actors.proofs.actor.Actor.give.Goals as goal

pub returns-in-House : goal.returns-in-House
returns-in-House g c = subst (λ old.
    IsHanded c.give-in-House.result c.args.buffer.now c.give-in-House.new.buffer old (House c.give-in-House.new.self))
    (sym c.in-House.is) (c.give-in-House.new.self, refl, c.give-in-House.ensures)
