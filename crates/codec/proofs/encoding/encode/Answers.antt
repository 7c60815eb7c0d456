-- What was put is the packet's one spelling.
use Rattle.std.proofs.Common.{◌≡◌, ℕ, ◌<◌, List, [], ◌++◌, length, ap, subst, ◌∙◌, arith}
use Rattle.codec.specs.Table.{PacketOf, packet}
use Rattle.codec.proofs.TableLaws.{is_too_big, is_written}
use Rattle.codec.proofs.encoding.encode.Goals as goal

long_of : (p : PacketOf) (old out : List ℕ) → old ≡ [] → out ≡ old ++ packet.write p → 1048576 < length out
    → 1048576 < length (packet.write p)
long_of p old out none e long =
    let same : out ≡ packet.write p = e ∙ ap (λ bytes. bytes ++ packet.write p) none in
    subst (λ bytes. 1048576 < length bytes) same long

pub returns-then-length-gt-MOST_BYTES-clause-long : goal.returns-then-length-gt-MOST_BYTES-clause-long
returns-then-length-gt-MOST_BYTES-clause-long c =
    λ _. long_of c.args.packet.now c.in_ok-out.out.items c.put.new.out.items c.in_ok-out.ensures.items
    c.in_ok-put.ensures.written (omega arith)

pub returns-then-length-gt-MOST_BYTES-clause-big : goal.returns-then-length-gt-MOST_BYTES-clause-big
returns-then-length-gt-MOST_BYTES-clause-big c =
    λ _. is_too_big c.args.packet.now c.in_ok-out.out.items c.put.new.out.items c.in_ok-out.ensures.items
    c.in_ok-put.ensures.written c.in_ok-put.ensures.fits (omega arith)

pub returns-clause-written : goal.returns-clause-written
returns-clause-written c =
    is_written c.args.packet.now c.in_ok-out.out.items c.put.new.out.items c.in_ok-out.ensures.items
    c.in_ok-put.ensures.written c.in_ok-put.ensures.fits (omega arith)
