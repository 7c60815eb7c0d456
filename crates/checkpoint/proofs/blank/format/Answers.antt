use Rattle.checkpoint.proofs.Begun.{formatted_left}
use Rattle.checkpoint.proofs.Results.{ok_both}
use Rattle.checkpoint.proofs.blank.format.Goals as goal

pub returns-clause-left : goal.returns-clause-left
returns-clause-left g c =
    ok_both c.make.result (λ made _. formatted_left _ _ _ c.blank-file.result c.args.job c.blank-file.ensures made)
    c.make.ensures.calls c.make.ensures.calls
