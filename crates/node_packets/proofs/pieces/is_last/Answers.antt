use Rattle.std.proofs.Common.{◌≡◌, ◌+◌, false, nat_lt, length, refl, rules}
use Rattle.node_state.specs.Assemblies.{part_of, put_part}
use Rattle.node_packets.proofs.Assembling.{not_last, one_more}
use Rattle.node_packets.proofs.pieces.is_last.Goals as goal

pub returns-then-count-pieces : goal.returns-then-count-pieces
returns-then-count-pieces c =
    let all : length (put_part (part_of c.args.piece.now) c.args.assembly.now.parts)
    ≡ length c.args.assembly.now.parts + 1 =
    one_more (part_of c.args.piece.now) c.args.assembly.now.parts c.requires in
    let count : c.len-count.result ≡ length c.args.assembly.now.parts = search rules in
    let pieces : c.pieces-pieces.result ≡ c.args.assembly.now.pieces = search rules in
    rw (all, count, pieces) refl

pub returns-else-count-pieces : goal.returns-else-count-pieces
returns-else-count-pieces c =
    let all : length (put_part (part_of c.args.piece.now) c.args.assembly.now.parts)
    ≡ length c.args.assembly.now.parts + 1 =
    one_more (part_of c.args.piece.now) c.args.assembly.now.parts c.requires in
    let count : c.len-count.result ≡ length c.args.assembly.now.parts = search rules in
    let pieces : c.pieces-pieces.result ≡ c.args.assembly.now.pieces = search rules in
    let all_there : nat_lt c.len-count.result c.pieces-pieces.result ≡ false = search rules in
    rw (all, ← count, ← pieces) (not_last c.len-count.result c.pieces-pieces.result all_there)
