-- Bytes that were passed over to their end are a packet.
use Rattle.std.proofs.Common.{List, ℕ, sym, ap, ◌∙◌}
use Rattle.packet_fields.specs.Format.{end_of}
use Rattle.codec.specs.Table.{packet}
use Rattle.codec.proofs.TableLaws.{passed_whole}
use Rattle.codec.proofs.decoding.check.Goals as goal

pub returns : goal.returns
returns c =
    let passed = ap (λ (bytes : List ℕ). end_of (packet.read bytes)) (sym c.new-input.ensures)
    ∙ c.in_ok-skip_parts.ensures in
    passed_whole c.args.bytes.now c.skip_parts.new.input passed (sym c.if-not-is_empty.ensures)
