use Rattle.kind_check.proofs.Scopes.{lets_restored, arguments_restored}
use Rattle.kind_check.proofs.walk.+block.Goals as goal
use Rattle.kind_check.proofs.walk.+block.Goals.{in-If+in_ok-block-in-If+in_ok-block-in-If-2, in-Send, in-Next+in_ok-arguments-in-Next+in_ok-given-in-Next}

pub returns-clause-scope : goal.returns-clause-scope
returns-clause-scope t c =
    let s = c.args.scope.now in
    let ls = c.args.body.now.lets in
    rw c.truncate.ensures
    (elim c.match-body.branch [
      | in-If+in_ok-block-in-If+in_ok-block-in-If-2 w ↦ lets_restored s _ ls _ c.len-outside.ensures
          (cc (c.in_ok-lets.ensures.scope, w.in_ok-block-in-If.ensures.scope, w.in_ok-block-in-If-2.ensures.scope))
      | in-Send w ↦ lets_restored s _ ls _ c.len-outside.ensures (cc c.in_ok-lets.ensures.scope)
      | in-Next+in_ok-arguments-in-Next+in_ok-given-in-Next w ↦ arguments_restored s _ ls w.in-Next.slots _
          c.len-outside.ensures (cc (c.in_ok-lets.ensures.scope, w.in_ok-arguments-in-Next.ensures.scope))
    ])
