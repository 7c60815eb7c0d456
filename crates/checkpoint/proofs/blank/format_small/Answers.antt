use Rattle.checkpoint.proofs.Begun.{small_left}
use Rattle.checkpoint.proofs.Results.{ok_both}
use Rattle.checkpoint.proofs.blank.format_small.Goals as goal

pub returns-clause-left : goal.returns-clause-left
returns-clause-left g c =
    ok_both c.make.result (λ made _. small_left _ _ _ c.blank_small-file.result c.args.job c.blank_small-file.ensures made)
    c.make.ensures.calls c.make.ensures.calls
