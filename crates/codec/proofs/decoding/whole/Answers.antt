-- What was read is a packet, by the laws of its format; and nothing is behind it, since all of the
-- bytes are one.
use Rattle.std.proofs.Common.{List, ℕ, sym, ap, subst, ◌∙◌, arith}
use Rattle.std.proofs.lemmas.Result.{err_from_is_err_and}
use Rattle.packet_fields.specs.Format.{Fails}
use Rattle.codec.specs.Table.{PacketOf, packet}
use Rattle.codec.proofs.TableLaws.{is_packet_read, is_whole, no_fault}
use Rattle.codec.proofs.decoding.whole.Goals as goal

pub invariant_of-result : goal.invariant_of-result
invariant_of-result c =
    let p : PacketOf = record {
      job = c.in_ok-job.field-0.job;
      to = c.in_ok-job.field-0.to;
      body = c.in_ok-job.field-0.body;
    } in
    is_packet_read c.args.bytes.now c.parts_of.new.input p (λ i. omega (arith, c.type_inv.bytes i))
    (ap packet.read (sym c.new-input.ensures) ∙ c.in_ok-job.ensures)

pub returns-in_err-job : goal.returns-in_err-job
returns-in_err-job c =
    let p = err_from_is_err_and c.from_residual.result c.from_residual.ensures.1 in
    let fails = subst (λ (bytes : List ℕ). Fails c.in_err-job.field-0.0 (packet.read bytes)) c.new-input.ensures
    c.in_err-job.ensures in
    rw (p.1, p.2) (no_fault c.args.bytes.now c.requires.0 c.in_err-job.field-0.0 c.requires.1 fails)

pub returns : goal.returns
returns c =
    let p : PacketOf = record {
      job = c.in_ok-job.field-0.job;
      to = c.in_ok-job.field-0.to;
      body = c.in_ok-job.field-0.body;
    } in
    is_whole c.args.bytes.now c.parts_of.new.input c.requires.0 p c.requires.1 (ap packet.read (sym c.new-input.ensures)
    ∙ c.in_ok-job.ensures)
