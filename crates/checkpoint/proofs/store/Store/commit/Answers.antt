-- The values that are saved stay.
use Rattle.std.proofs.Common.{◌≡◌, rules}
use Rattle.checkpoint.proofs.store.Store.commit.Goals as goal

pub returns : goal.returns
returns g c =
    let saved : c.copied-saved.result ≡ c.args.self.now.«record».saved = search rules in rw saved at c.put.ensures
