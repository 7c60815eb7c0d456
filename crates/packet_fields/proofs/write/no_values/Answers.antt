use Rattle.std.proofs.Common.{sym}
use Rattle.std.proofs.lemmas.List.{append-nil}
use Rattle.packet_fields.specs.Fields as field
use Rattle.packet_fields.proofs.write.no_values.Goals as goal

pub returns : goal.returns
unfolding field.no_values
returns c = sym (append-nil c.args.out.now.items)
