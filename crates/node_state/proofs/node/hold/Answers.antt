use Rattle.std.proofs.Common.{◌≡◌, ◌∙◌, ap, rules}
use Rattle.ids.specs.Naming.{name_of_grant}
use Rattle.ids.specs.Named.{without_in}
use Rattle.node_state.specs.Node.{name_of_seen, put_seen}
use Rattle.node_state.proofs.Keeping.{seen_again}
use Rattle.node_state.proofs.node.hold.Goals as goal

pub returns-in-Err-clause-err : goal.returns-in-Err-clause-err
returns-in-Err-clause-err c =
    let gone : c.take.new.self ≡ without_in name_of_seen (name_of_grant c.args.sub.grant) c.put.new.self =
    search rules in
    let put : c.put.new.self ≡ put_seen c.args.sub.grant c.args.sub.hop c.args.seen.now = search rules in (
      search rules,
      gone ∙ ap (without_in name_of_seen (name_of_grant c.args.sub.grant)) put
          ∙ seen_again c.args.sub.grant c.args.sub.hop c.args.seen.now c.requires,
    )
