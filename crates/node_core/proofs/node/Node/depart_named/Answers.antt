use Rattle.std.proofs.Common.{◌≡◌, ◌∙◌, ap, sym}
use Rattle.node_steps.specs.Calls.{depart}
use Rattle.node_steps.specs.Steps.{Refused}
use Rattle.node_steps.specs.declared.error.NodeError.TheVariants.{Memory}
use Rattle.node_core.proofs.Naming.{depart_unshown, meets_refused, lacks_memory_refused}
use Rattle.node_core.proofs.node.Node.depart_named.Goals as goal

pub returns-in-None-clause-answer : goal.returns-in-None-clause-answer
returns-in-None-clause-answer c =
    let is : depart c.args.self.now.job c.args.heir c.args.self.now.node ≡ Refused c.heirless.result =
    depart_unshown c.args.self.now.job c.args.heir c.args.self.now.node c.law_shows_workers.ensures.member
    ∙ ap Refused (sym c.heirless.ensures) in
    meets_refused _ c.heirless.result c.args.self.now is

pub returns-in-None-clause-out_of_memory : goal.returns-in-None-clause-out_of_memory
returns-in-None-clause-out_of_memory c =
    let is : depart c.args.self.now.job c.args.heir c.args.self.now.node ≡ Refused c.heirless.result =
    depart_unshown c.args.self.now.job c.args.heir c.args.self.now.node c.law_shows_workers.ensures.member
    ∙ ap Refused (sym c.heirless.ensures) in
    λ memory. lacks_memory_refused _ c.heirless.result is (let same : c.heirless.result ≡ Memory = cc in same)
