use Rattle.std.proofs.Common.{◌≡◌, ◌∙◌, None, ap, rules}
use Rattle.steal_protocol.specs.Replies.{put_reply, reply_in, without_reply}
use Rattle.node_state.proofs.Keeping.{answered_again}
use Rattle.node_state.proofs.node.open_and_answer.Goals as goal

pub returns-in-Err-clause-err : goal.returns-in-Err-clause-err
returns-in-Err-clause-err c =
    let none : reply_in c.args.reply.thief c.args.replies.now ≡ None = search rules in
    let gone : c.forget.new.self ≡ without_reply c.args.reply.thief c.keep.new.self = search rules in
    let put : c.keep.new.self ≡ put_reply c.args.reply c.args.replies.now = search rules in (
      search rules,
      gone ∙ ap (without_reply c.args.reply.thief) put
          ∙ answered_again c.args.reply c.args.replies.now none,
    )
