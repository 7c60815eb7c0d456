use Rattle.checkpoint.specs.declared.record.SlotId.TheVariants.{Large}
use Rattle.checkpoint.proofs.store.Store.record.Goals as goal

pub returns-clause-reads : goal.returns-clause-reads
returns-clause-reads g c = rw (← c.self.view_is) (λ e. (Large c.self.inside.second, (c.self.invariant e).store))
