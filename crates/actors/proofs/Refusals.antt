-- A call of a node that is refused changes nothing.
use Rattle.std.proofs.Common.{◌≡◌, ◌∙◌, ap, sym, subst, Bool, List, Ok, Err, Result}
use Rattle.codec.specs.Table.{PacketOf}
use Rattle.node_steps.specs.Meeting.{Meets, NodeOn}
use Rattle.node_steps.specs.Steps.{Answer}
use Rattle.node_steps.specs.declared.error.NodeError.{NodeError}
use Rattle.node_steps.specs.declared.error.NodeError.TheVariants as error
use Rattle.actors.specs.Actors.{Did, NodeActorOf, NodeCalled}
use Rattle.actors.specs.declared.error.NodeCallError.{NodeCallError}

pub same : (a : Answer) (e : NodeError) (old new : NodeOn) → Meets a (Err e) old new → new ≡ old
same a error.Memory old new meets = meets
same a (error.Bytes fault) old new meets = meets.1
same a error.Stale old new meets = meets.1
same a error.NoValue old new meets = meets.1
same a error.Pending old new meets = meets.1
same a error.TooBig old new meets = meets.1
same a error.HopSpent old new meets = meets.1
same a error.NoHeir old new meets = meets.1
same a error.NotJoined old new meets = meets.1
same a error.Busy old new meets = meets.1
same a error.Spent old new meets = meets.1

pub did : (a : Answer) (r : Result Bool NodeCallError) (old new : NodeActorOf) → NodeCalled (Meets a) r old new
    → Did a r old new
did a r old new (Ok step, meets, tells) =
    subst (λ (x : Result Bool NodeCallError). Did a x old new) (sym tells.0) (step, meets, tells.1)
did a r old new (Err e, meets, tells) =
    subst (λ (x : Result Bool NodeCallError). Did a x old new) (sym tells.0)
    (ap (λ (on : NodeOn). record { on = on; waits = new.waits }) (same a e old.on new.on meets)
    ∙ ap (λ (waits : List PacketOf). record { on = old.on; waits = waits }) tells.1)
