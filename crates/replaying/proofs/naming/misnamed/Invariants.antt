use Rattle.std.proofs.Common.{◌<◌, ℕ}
use Rattle.replaying.specs.Replays.{IsNamedAt}
use Rattle.replaying.proofs.naming.misnamed.Given as goal

-- the packets before this one have their names
abbrev pub invariant-loop-number : goal.invariant-loop-number
invariant-loop-number l = (i : ℕ) → i < l.number → IsNamedAt l.names l.world.world.net i
