use Rattle.std.proofs.Common.{◌≡◌, ◌∙◌, ◌<◌, Some, None, true, false, refl, ap, rules}
use Rattle.std.specs.Prelude.{is_some, nat_lt, ◌+◌, ◌^◌}
use Rattle.level_deques.specs.Posts.{shallowest}
use Rattle.ids.specs.Names.{Grant}
use Rattle.sub_rules.specs.Content.{ready_in}
use Rattle.sub_rules.specs.Updates.{opened_in}
use Rattle.subcomputation.specs.Subs.{sub_in}
use Rattle.subcomputation.specs.Told.{sub_grant_of}
use Rattle.node_state.specs.Parts.{HasNoNewRecord}
use Rattle.node_steps.specs.Meeting.{IsNode}
use Rattle.node_packets.proofs.Returning.{fresh_after}
use Rattle.node_packets.proofs.Serving.{not_held, not_ready, spent, given}
use Rattle.node_packets.proofs.grants.serve.Goals as goal

pub returns-in_default-sub : goal.returns-in_default-sub
returns-in_default-sub c =
    let first : shallowest c.args.node.now.posts ≡ Some c.in-Some.post = search rules in
    let there : sub_in c.in-Some.post.grant c.args.node.now.node.subs ≡ None = search rules in
    rw (not_held c.args.node.now.job c.args.steal c.args.node.now.node c.args.node.now.posts c.in-Some.post c.requires
    first there) c.refuse-in_default-sub.ensures

pub returns-then-not-is_ready : goal.returns-then-not-is_ready
returns-then-not-is_ready c =
    let first : shallowest c.args.node.now.posts ≡ Some c.in-Some.post = search rules in
    let there : sub_in c.in-Some.post.grant c.args.node.now.node.subs ≡ Some c.in-Some-sub.sub.now = search rules in
    let unready : is_some (ready_in c.in-Some.post.frame c.in-Some-sub.sub.now.content) ≡ false = search rules in
    rw (not_ready c.args.node.now.job c.args.steal c.args.node.now.node c.args.node.now.posts c.in-Some.post c.requires
    first c.in-Some-sub.sub.now there unready) c.refuse-then-not-is_ready.ensures

pub returns-in_default-next_grant : goal.returns-in_default-next_grant
returns-in_default-next_grant c =
    let first : shallowest c.args.node.now.posts ≡ Some c.in-Some.post = search rules in
    let there : sub_in c.in-Some.post.grant c.args.node.now.node.subs ≡ Some c.in-Some-sub.sub.now = search rules in
    let ready : is_some (ready_in c.in-Some.post.frame c.in-Some-sub.sub.now.content) ≡ true = search rules in
    let last : nat_lt (c.args.node.now.node.minted + 1) (2 ^ 64) ≡ false = search rules in (
      spent c.args.node.now.job c.args.steal c.args.node.now.node c.args.node.now.posts c.in-Some.post c.requires first
          c.in-Some-sub.sub.now there ready last,
      refl,
    )

pub give-requires-clause-may : goal.give-requires-clause-may
give-requires-clause-may c =
    let n = c.args.node.now.node in
    let sub = c.in-Some-sub.sub.now in
    let there : sub_in c.in-Some.post.grant n.subs ≡ Some sub = search rules in
    let named : sub.grant ≡ c.in-Some.post.grant = search rules in
    let name : c.in-Some-next_grant.name ≡ record { minter = n.incarnation; number = n.minted + 1 } = search rules in
    let none : HasNoNewRecord n sub = search rules in
    let counted : n.minted + 1 < 2 ^ 64 = search rules in
    record {
      sub = sub;
      there = there;
      named = named;
      begun = rw c.in-Some-2.is at c.in_ok-opening.ensures.begun;
      next = record {
        member = c.requires;
        before = sub;
        there = ap (λ (g : Grant). sub_in g n.subs) named ∙ there;
        ready = rw c.in-Some-2.is at c.in_ok-opening.ensures.ready;
      };
      counted = counted;
      records = fresh_after n c.in-Some-next_grant.name sub.content.records
          (opened_in c.in-Some-2.opening.opened sub.content).records name none
          (rw c.in-Some-2.is at c.in_ok-opening.ensures.records);
    }

pub give-requires-clause-fits : goal.give-requires-clause-fits
give-requires-clause-fits c = λ s at.
    let sub = c.in-Some-sub.sub.now in
    let there : sub_in c.in-Some.post.grant c.args.node.now.node.subs ≡ Some sub = search rules in
    let same : sub ≡ s = cc in
    let is : IsNode c.args.node.now = rw (← c.node.view_is) c.node.invariant in
    rw (← same) (rw c.in-Some-2.is at (c.in_ok-opening.ensures.fits c.args.node.now.job.program
    (is.fits c.in-Some.post.grant sub there)))

pub give-requires-clause-task : goal.give-requires-clause-task
give-requires-clause-task c =
    let there : sub_in c.in-Some.post.grant c.args.node.now.node.subs ≡ Some c.in-Some-sub.sub.now = search rules in
    let is : IsNode c.args.node.now = rw (← c.node.view_is) c.node.invariant in
    rw c.in-Some-2.is at (c.in_ok-opening.ensures.task c.args.node.now.job.program
    (is.fits c.in-Some.post.grant c.in-Some-sub.sub.now there))

pub give-requires-clause-saved : goal.give-requires-clause-saved
give-requires-clause-saved c = λ s at.
    let sub = c.in-Some-sub.sub.now in
    let there : sub_in c.in-Some.post.grant c.args.node.now.node.subs ≡ Some sub = search rules in
    let same : sub ≡ s = cc in
    rw (← same) c.in_ok-saved-in-Some-2.ensures.below

pub returns-in_ok-saved-in-Some-2 : goal.returns-in_ok-saved-in-Some-2
returns-in_ok-saved-in-Some-2 c =
    let sub = c.in-Some-sub.sub.now in
    let first : shallowest c.args.node.now.posts ≡ Some c.in-Some.post = search rules in
    let there : sub_in c.in-Some.post.grant c.args.node.now.node.subs ≡ Some sub = search rules in
    let more : nat_lt (c.args.node.now.node.minted + 1) (2 ^ 64) ≡ true = search rules in
    let named : c.in-Some-next_grant.name
    ≡ record { minter = c.args.node.now.node.incarnation; number = c.args.node.now.node.minted + 1 } =
    search rules in
    rw (given c.args.node.now.job c.args.steal c.args.node.now.node c.args.node.now.posts c.in-Some.post c.requires
    first sub c.in-Some-next_grant.name (sub_grant_of sub c.in-Some-2.opening) there more named
    (rw c.in-Some-2.is at c.in_ok-opening.ensures.given)) (c.give.ensures sub there)
