use Rattle.std.proofs.Common.{◌≡◌, true, false, nat_eq, nat_lt, length, Some, rules}
use Rattle.codec.specs.Pieces.{joined, long_reading}
use Rattle.node_state.specs.Assemblies.{assembly_in, part_of, put_part}
use Rattle.node_steps.specs.Cases.{belongs, said_by}
use Rattle.node_packets.proofs.Assembling.{keeps_parts, with_last}
use Rattle.node_packets.proofs.pieces.collect.Goals as goal

pub invariant_of-node-in_default : goal.invariant_of-node-in_default
invariant_of-node-in_default c = rw c.in_ok-begin_assembly.ensures.ok
    (keeps_parts c.node.inside.job.now c.node.inside.parts.node _ c.node.inside.parts.posts _ c.node.invariant)

pub invariant_of-node-then-count : goal.invariant_of-node-then-count
invariant_of-node-then-count c = rw c.in_ok-begin_assembly-2.ensures.ok
    (keeps_parts c.node.inside.job.now c.node.inside.parts.node _ c.node.inside.parts.posts _ c.node.invariant)

pub invariant_of-node-then-not-is_last : goal.invariant_of-node-then-not-is_last
invariant_of-node-then-not-is_last c =
    let there : assembly_in c.part_of-part.result.0 c.node.inside.parts.node.assemblies ≡ Some c.in-Some.assembly.now =
    search rules in
    rw (c.in_ok-add_part.ensures.ok c.in-Some.assembly.now there)
    (keeps_parts c.node.inside.job.now c.node.inside.parts.node _ c.node.inside.parts.posts _ c.node.invariant)

pub returns : goal.returns
returns c = λ r at.
    let there : assembly_in c.args.piece.grant c.args.node.now.node.assemblies ≡ Some c.in-Some.assembly.now =
    search rules in
    let hop : nat_lt c.in-Some.assembly.now.hop c.args.piece.hop ≡ false = search rules in
    let of : belongs c.args.piece c.in-Some.assembly.now ≡ true = search rules in
    let last : nat_eq (length (put_part (part_of c.args.piece) c.in-Some.assembly.now.parts))
    c.in-Some.assembly.now.pieces ≡ true = search rules in
    let bytes : c.in_ok-bytes.bytes.items ≡ joined (put_part (part_of c.args.piece) c.in-Some.assembly.now.parts) =
    search rules in
    let said : c.in_ok-said.said ≡ said_by c.args.node.now.job c.args.piece c.args.node.now.node
    (long_reading c.in_ok-bytes.bytes.items) = search rules in
    with_last c.args.node.now.job r c.args.piece c.in-Some.assembly.now c.args.node.now.node c.in_ok-said.said
    c.in_ok-bytes.bytes.items c.take_offer.result c.args.node.now c.take_offer.new.node there hop of last bytes said
    (c.take_offer.ensures r at)
