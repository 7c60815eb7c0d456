use Rattle.std.proofs.Common.{◌≡◌, subst}
use Rattle.std.specs.Option.{IfSome}
use Rattle.ids.specs.Named.{Name}
use Rattle.ids.specs.Naming.{name_of_frame}
use Rattle.frames.proofs.Filling.{number_named}
use Rattle.frames.proofs.store.Frames.get.Goals as goal

pub returns-clause-number : goal.returns-clause-number
returns-clause-number c =
    let Named : Name → Type 0 = λ name. IfSome c.get.result (λ f. name_of_frame f.now ≡ name) in
    number_named c.args.number c.get.result (subst Named c.name.ensures c.get.ensures.name)
