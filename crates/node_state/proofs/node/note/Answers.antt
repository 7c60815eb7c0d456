use Rattle.std.proofs.Common.{◌≡◌, ◌∙◌, ap, rules}
use Rattle.ids.specs.Named.{without_in}
use Rattle.ids.specs.Naming.{name_of_grant}
use Rattle.subcomputation.specs.Subs.{name_of_sub}
use Rattle.node_state.specs.Parts.{put_some}
use Rattle.node_state.proofs.Accepts.{some_leaves}
use Rattle.node_state.proofs.node.note.Goals as goal
use Rattle.node_state.proofs.node.note.Goals.{in-Some+in_ok-put, in_default}

pub returns-in-Err-clause-err : goal.returns-in-Err-clause-err
returns-in-Err-clause-err c =
    let gone : c.take.new.self ≡ without_in name_of_sub (name_of_grant c.args.grant) c.match-after.subs =
    search rules in
    let held : c.match-after.subs ≡ put_some c.args.after c.args.subs.now =
    elim c.match-after.branch [ in-Some+in_ok-put w ↦ search rules | in_default w ↦ search rules ] in (
      gone ∙ ap (without_in name_of_sub (name_of_grant c.args.grant)) held
          ∙ some_leaves c.args.grant c.args.after c.args.subs.now c.requires.absent c.requires.named,
      search rules,
    )
