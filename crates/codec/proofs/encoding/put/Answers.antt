-- The pieces of a packet, and that they fit: its model says that it is a packet.
use Rattle.std.proofs.Common.{ℕ, ◌++◌, ap, ◌∙◌}
use Rattle.packet_fields.specs.Format.{number}
use Rattle.codec.specs.declared.body.Body.{Body}
use Rattle.codec.specs.Table.{kind_of, version_of, write_body}
use Rattle.codec.proofs.TableLaws.{packet_fits}
use Rattle.codec.proofs.Written.{packet_written}
use Rattle.codec.proofs.encoding.put.Goals as goal

pub returns-clause-written : goal.returns-clause-written
returns-clause-written c =
    packet_written c.args.packet.now c.args.out.now.items c.u16.new.out.items c.byte.new.out.items
    c.byte-2.new.out.items c.u64.new.out.items c.u64-2.new.out.items c.write_fields.new.out.items
    c.in_ok-u16.ensures
    (c.in_ok-byte.ensures ∙ ap (λ (version : ℕ). c.u16.new.out.items ++ (number 1).write version) (c.version.ensures
    ∙ ap version_of (c.kind_of-kind.ensures ∙ ap kind_of c.body.ensures.body)))
    (c.in_ok-byte-2.ensures ∙ ap (λ (kind : ℕ). c.byte.new.out.items ++ (number 1).write kind) (c.number.ensures
    ∙ c.kind_of-kind.ensures ∙ ap kind_of c.body.ensures.body))
    (c.in_ok-u64.ensures ∙ ap (λ (job : ℕ). c.byte-2.new.out.items ++ (number 8).write job) c.job.ensures)
    (c.in_ok-u64-2.ensures ∙ ap (λ (to : ℕ). c.u64.new.out.items ++ (number 8).write to) (c.word.ensures.same
    ∙ c.to.ensures))
    (c.in_ok-write_fields.ensures ∙ ap (λ (b : Body). c.u64-2.new.out.items ++ write_body b) c.body-2.ensures.body)

pub returns-clause-fits : goal.returns-clause-fits
returns-clause-fits c = packet_fits c.args.packet.now c.body.ensures.packet
