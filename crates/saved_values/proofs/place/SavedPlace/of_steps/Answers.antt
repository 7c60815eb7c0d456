use Rattle.std.proofs.Common.{rules}
use Rattle.saved_values.proofs.Places.{held_of}
use Rattle.saved_values.proofs.place.SavedPlace.of_steps.Goals as goal

pub invariant_of-result : goal.invariant_of-result
invariant_of-result c = held_of c.args.steps.now c.copy_from_slice.new.self c.copy_from_slice.ensures.after
    (search rules) (search rules)
