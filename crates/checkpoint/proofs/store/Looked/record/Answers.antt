use Rattle.checkpoint.proofs.store.Looked.record.Goals as goal

pub returns-clause-reads : goal.returns-clause-reads
returns-clause-reads g c = rw (← c.self.view_is) (c.self.inside.slot, c.self.invariant.store)
