use Rattle.kind_check.proofs.Accepted.{accepted_total}
use Rattle.kind_check.proofs.checked.Checked.new.Goals as goal

pub invariant_of-result : goal.invariant_of-result
invariant_of-result c = (
  record {
    faultless = c.requires.faultless;
    total = accepted_total c.args.program c.requires.faultless;
  },
  c.requires.follow,
)
