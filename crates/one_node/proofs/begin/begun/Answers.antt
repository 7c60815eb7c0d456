-- The run begins with its first frame posted.
use Rattle.std.proofs.Common.{◌≡◌, ◌∙◌, [], ◌∷◌, ap, rules}
use Rattle.ids.specs.Names.{house_of}
use Rattle.sub_rules.specs.Content.{first_frame, granted_content}
use Rattle.sub_rules.specs.Changes.{readied}
use Rattle.one_node.specs.Runs.{post_of}
use Rattle.one_node.proofs.Beginning.{so_holds}
use Rattle.one_node.proofs.begin.begun.Goals as goal

pub returns-clause-holds : goal.returns-clause-holds
returns-clause-holds c =
    let posts : c.post.new.self ≡ post_of (readied (first_frame c.in_ok-root_task.field-0)) ∷ [] = search rules in
    so_holds c.args.job.now c.in_ok-root_task.field-0 c.in_ok-content.content c.post.new.self c.checked.ensures.job
    (c.granted_content_agrees.ensures c.args.job.now
    (house_of 1) c.in_ok-root_task.field-0 c.in_ok-root_task.ensures.agrees) c.in_ok-root_task.ensures.rooted
    (c.in_ok-content.ensures ∙ ap (λ host. granted_content host c.in_ok-root_task.field-0) c.house.ensures) posts
