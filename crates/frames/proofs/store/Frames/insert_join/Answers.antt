use Rattle.frames.proofs.Joining.{join_rises}
use Rattle.frames.proofs.store.Frames.insert_join.Goals as goal

pub append-requires : goal.append-requires
append-requires c = rw c.self.view_is
    (join_rises c.args.first c.args.self.now c.args.frames.items c.law_stand_in_order.ensures c.requires.below
    c.requires.numbered)
