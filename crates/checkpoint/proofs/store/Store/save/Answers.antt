use Rattle.std.proofs.Common.{◌≡◌, rules}
use Rattle.checkpoint.proofs.store.Store.save.Goals as goal

pub returns : goal.returns
returns g c =
    let epoch : c.self.inside.current.epoch ≡ c.args.self.now.«record».epoch = search rules in
    let outcome : c.self.inside.current.outcome ≡ c.args.self.now.«record».outcome = search rules in
    rw (epoch, outcome) at c.put.ensures
