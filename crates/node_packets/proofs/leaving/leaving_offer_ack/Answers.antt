use Rattle.std.proofs.Common.{◌≡◌, ◌&&◌, true, false, nat_eq, [], ◌∷◌, refl, rules}
use Rattle.std.specs.List.{list_any}
use Rattle.subcomputation.specs.Subs.{sub_in, without_sub}
use Rattle.node_state.specs.Node.{NodeOf, put_confirmed}
use Rattle.node_state.specs.declared.parts.State.TheVariants.{Leaving}
use Rattle.node_steps.specs.Cases.{confirms, is_released}
use Rattle.node_steps.specs.Choosing.{own_candidate}
use Rattle.node_steps.specs.Moves.{awaited, leave, leaves}
use Rattle.node_steps.proofs.Keeping.{gone, kept, same_leaving}
use Rattle.node_packets.proofs.Offering.{behind_view, confirmed, released}
use Rattle.node_packets.proofs.leaving.leaving_offer_ack.Goals as goal

pub invariant_of-node : goal.invariant_of-node
invariant_of-node c = rw c.remove.ensures
    (gone c.node.inside.job.now c.node.inside.parts.node _ c.args.ack.grant c.node.inside.parts.posts _ c.node.invariant
    refl refl refl refl)

pub returns-then-is_released : goal.returns-then-is_released
returns-then-is_released c =
    let at : c.args.node.now.node.state ≡ Leaving c.in-Leaving.roster c.in-Leaving.heir = search rules in
    let is : is_released c.in-Leaving.heir c.args.ack (sub_in c.args.ack.grant c.args.node.now.node.subs) ≡ true =
    search rules in
    let here : c.node.inside.parts.node.state ≡ Leaving c.in-Leaving.roster c.in-Leaving.heir = search rules in
    let sent : c.in_ok-sent.sent ≡ leave c.args.node.now.job c.args.node.now.node.incarnation c.in-Leaving.roster
    c.in-Leaving.heir ∷ [] = search rules in
    let made : c.in_ok-sent.sent ≡ leave c.node.inside.job.now c.node.inside.parts.node.incarnation c.in-Leaving.roster
    c.in-Leaving.heir ∷ [] = rw (← c.node.view_is) at sent in
    let told : c.left_behind.result ≡ record {
      sent = leaves c.node.inside.job.now c.in-Leaving.roster c.in-Leaving.heir c.remove.new.self.node;
      fills = [];
      ignored = false;
    } = c.left_behind.ensures c.in-Leaving.roster c.in-Leaving.heir (rw c.remove.ensures here)
    (rw c.remove.ensures made) in
    rw (released c.args.node.now.job (own_candidate c.args.node.now.posts) c.args.ack c.args.node.now.node
    c.in-Leaving.roster c.in-Leaving.heir at is)
    (behind_view _ c.args.node.now c.remove.new.self
    (λ n. record n { subs = without_sub c.args.ack.grant n.subs }) c.in-Leaving.roster c.in-Leaving.heir
    c.left_behind.result c.node.view_is c.remove.ensures told)

pub invariant_of-node-then-is_confirmed : goal.invariant_of-node-then-is_confirmed
invariant_of-node-then-is_confirmed c =
    let old : NodeOf = c.node.inside.parts.node in
    let new : NodeOf = record old {
      confirmed = put_confirmed (record { thief = c.args.ack.from; grant = c.args.ack.grant }) old.confirmed;
    } in
    rw c.in_ok-confirm.ensures.ok (kept c.node.inside.job.now old new c.node.inside.parts.posts _ c.node.invariant
    (same_leaving c.node.inside.job.now old new refl refl refl c.node.invariant.leaving) refl refl refl)

pub returns-then-is_confirmed : goal.returns-then-is_confirmed
returns-then-is_confirmed c =
    let at : c.args.node.now.node.state ≡ Leaving c.in-Leaving.roster c.in-Leaving.heir = search rules in
    let not_so : is_released c.in-Leaving.heir c.args.ack (sub_in c.args.ack.grant c.args.node.now.node.subs) ≡ false =
    search rules in
    let is : (nat_eq c.args.ack.hop 0 && list_any (confirms c.args.ack)
    (awaited c.in-Leaving.roster c.args.node.now.node)) ≡ true = search rules in
    let here : c.node.inside.parts.node.state ≡ Leaving c.in-Leaving.roster c.in-Leaving.heir = search rules in
    let sent : c.in_ok-sent.sent ≡ leave c.args.node.now.job c.args.node.now.node.incarnation c.in-Leaving.roster
    c.in-Leaving.heir ∷ [] = search rules in
    let made : c.in_ok-sent.sent ≡ leave c.node.inside.job.now c.node.inside.parts.node.incarnation c.in-Leaving.roster
    c.in-Leaving.heir ∷ [] = rw (← c.node.view_is) at sent in
    let told : c.left_behind-then-is_confirmed.result
    ≡ record {
      sent = leaves c.node.inside.job.now c.in-Leaving.roster c.in-Leaving.heir c.confirm.new.self.node;
      fills = [];
      ignored = false;
    } = c.left_behind-then-is_confirmed.ensures c.in-Leaving.roster c.in-Leaving.heir
    (rw c.in_ok-confirm.ensures.ok here) (rw c.in_ok-confirm.ensures.ok made) in
    rw (confirmed c.args.node.now.job (own_candidate c.args.node.now.posts) c.args.ack c.args.node.now.node
    c.in-Leaving.roster c.in-Leaving.heir at not_so is)
    (behind_view _ c.args.node.now c.confirm.new.self
    (λ n. record n {
      confirmed = put_confirmed
          (record { thief = c.args.ack.from; grant = c.args.ack.grant }) n.confirmed;
    }) c.in-Leaving.roster
    c.in-Leaving.heir c.left_behind-then-is_confirmed.result c.node.view_is c.in_ok-confirm.ensures.ok told)
