-- The laws of the packet's format, over what was read of all of the bytes.
use Rattle.std.proofs.Common.{◌∙◌, arith}
use Rattle.codec.proofs.TableLaws.{gives_short, is_found, is_only, reading_found, reading_long, reading_short}
use Rattle.codec.proofs.decoding.decode.Goals as goal

pub returns-then-bytes-gt-MOST_BYTES-clause-only : goal.returns-then-bytes-gt-MOST_BYTES-clause-only
returns-then-bytes-gt-MOST_BYTES-clause-only c = λ p s. absurd (omega (arith, s.1, c.if-bytes-gt-MOST_BYTES.true))

pub returns-then-bytes-gt-MOST_BYTES-clause-fault : goal.returns-then-bytes-gt-MOST_BYTES-clause-fault
returns-then-bytes-gt-MOST_BYTES-clause-fault c = reading_long c.args.bytes.now c.if-bytes-gt-MOST_BYTES.true

pub returns-clause-found : goal.returns-clause-found
returns-clause-found c = is_found c.args.bytes.now c.read_all.result (λ i. omega (arith, c.type_inv.bytes i))
    (gives_short c.args.bytes.now c.read_all.result c.if-bytes-gt-MOST_BYTES.false c.read_all.ensures.read)

pub returns-clause-only : goal.returns-clause-only
returns-clause-only c = λ p s. is_only c.args.bytes.now c.read_all.result p s
    (gives_short c.args.bytes.now c.read_all.result c.if-bytes-gt-MOST_BYTES.false c.read_all.ensures.read)

pub returns-clause-fault : goal.returns-clause-fault
returns-clause-fault c = gives_short c.args.bytes.now c.read_all.result c.if-bytes-gt-MOST_BYTES.false
    c.read_all.ensures.read

pub returns-clause-memory : goal.returns-clause-memory
returns-clause-memory c = λ e.
    let found = c.read_all.ensures.memory e in (
      found.0,
      reading_found c.args.bytes.now found.0 (λ i. omega (arith, c.type_inv.bytes i))
          (reading_short c.args.bytes.now c.if-bytes-gt-MOST_BYTES.false ∙ found.1),
    )
