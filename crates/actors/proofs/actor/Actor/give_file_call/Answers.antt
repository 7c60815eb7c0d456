use Rattle.std.proofs.Common.{refl, subst, sym}
use Rattle.actors.specs.Called.{IsFileHanded}
use Rattle.actors.specs.declared.actor.Actor.TheVariants.{House}
use Rattle.actors.proofs.actor.Actor.give_file_call.Goals as goal

pub returns-in-House-clause-handed : goal.returns-in-House-clause-handed
returns-in-House-clause-handed g c =
    subst (λ old. IsFileHanded old (House c.in-House.house)) (sym c.in-House.is) (c.in-House.house, refl, refl)
