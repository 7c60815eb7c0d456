use Rattle.std.proofs.Common.{◌≡◌, ◌∙◌, ap, sym}
use Rattle.ids.specs.Names.{Grant}
use Rattle.node_steps.specs.Calls.{exec_ready}
use Rattle.node_steps.specs.Steps.{Refused}
use Rattle.node_steps.specs.declared.error.NodeError.TheVariants.{Memory}
use Rattle.node_core.proofs.Naming.{meets_refused, ready_unnamed, lacks_memory_refused}
use Rattle.node_core.proofs.node.Node.exec_turn_named.Goals as goal

pub returns-in-None-clause-answer : goal.returns-in-None-clause-answer
returns-in-None-clause-answer c =
    let g : Grant = record { minter = c.args.minter; number = c.args.number } in
    let is : exec_ready c.args.self.now.job g c.args.frame c.args.self.now.node ≡ Refused c.unnamed.result =
    ready_unnamed c.args.self.now.job g c.args.frame c.args.self.now.node c.in-None.ensures.none
    ∙ ap Refused (sym c.unnamed.ensures) in
    meets_refused _ c.unnamed.result c.args.self.now is

pub returns-in-None-clause-out_of_memory : goal.returns-in-None-clause-out_of_memory
returns-in-None-clause-out_of_memory c =
    let g : Grant = record { minter = c.args.minter; number = c.args.number } in
    let is : exec_ready c.args.self.now.job g c.args.frame c.args.self.now.node ≡ Refused c.unnamed.result =
    ready_unnamed c.args.self.now.job g c.args.frame c.args.self.now.node c.in-None.ensures.none
    ∙ ap Refused (sym c.unnamed.ensures) in
    λ memory. lacks_memory_refused _ c.unnamed.result is (let same : c.unnamed.result ≡ Memory = cc in same)
