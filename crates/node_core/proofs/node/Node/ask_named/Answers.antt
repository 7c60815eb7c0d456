use Rattle.node_steps.specs.declared.error.NodeError.TheVariants.{NotJoined}
use Rattle.node_core.proofs.Naming.{ask_unshown, meets_refused}
use Rattle.node_core.proofs.node.Node.ask_named.Goals as goal

pub returns-in-None-clause-answer : goal.returns-in-None-clause-answer
returns-in-None-clause-answer c =
    meets_refused _ NotJoined c.args.self.now
    (ask_unshown c.args.self.now.job c.args.word c.args.self.now.node c.law_shows_workers.ensures.member
    c.law_shows_workers.ensures.leaving)
