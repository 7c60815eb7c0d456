use Rattle.std.proofs.Common.{◌≡◌, ◌++◌}
use Rattle.codec.specs.Pieces.{joined}
use Rattle.node_state.specs.Assemblies.{part_of, put_part}
use Rattle.node_packets.proofs.Assembling.{IsToCome, to_come}
use Rattle.node_packets.proofs.pieces.joined_with.Given as goal

abbrev pub invariant-loop-part : goal.invariant-loop-part
invariant-loop-part l = record {
  bytes : l.bytes.items ++ to_come l.is_in (part_of l.piece) l.part-iterator
      ≡ joined (put_part (part_of l.piece) l.parts);
  own : IsToCome l.is_in (part_of l.piece) l.part-iterator;
}
