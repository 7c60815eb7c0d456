use mir.Syntax.{named}
use denote.Param.Send.{param_send}
use Rattle.chronicle.proofs.Crossing.{actor_seat}
use Rattle.node_runner.proofs.Crossing.{actor_context, captured}
use Rattle.node_runner.proofs.run.all_act.Goals as goal

pub map_vec-seats-requires-send-J : goal.map_vec-seats-requires-send-J
map_vec-seats-requires-send-J g c κs within =
    let sent = param_send 1 _ (actor_context record {
      mir = named 7;
      lft = κs.1.1.1.1.1.1.1.0;
    } _ g.D.SteadyDisk g.D.Disk c.type_bounds.send-D) in
    record { owned = sent.owned; leaving = sent.leaving }

pub map_vec-seats-requires-send-X : goal.map_vec-seats-requires-send-X
map_vec-seats-requires-send-X g c κs within =
    let sent = param_send 2 _ (actor_seat record {
      mir = named 7;
      lft = κs.1.1.1.1.1.1.1.0;
    } _ g.D.SteadyDisk g.D.Disk c.type_bounds.send-D) in
    record { owned = sent.owned; leaving = sent.leaving }

pub map_vec-seats-requires-sync-F : goal.map_vec-seats-requires-sync-F
map_vec-seats-requires-sync-F g c κs within =
    record {
      shared = (captured record { mir = named 8; lft = κs.1.1.1.1.1.1.1.1.0 } record {
        mir = named 9;
        lft = κs.1.1.1.1.1.1.1.1.1.0;
      } record { mir = named 10; lft = κs.1.1.1.1.1.1.1.1.1.1.0 } record {
        mir = named 11;
        lft = κs.1.1.1.1.1.1.1.1.1.1.1.0;
      } record {
        mir = named 7;
        lft = κs.1.1.1.1.1.1.1.0;
      } g.row.R g.row.G g.row.D g.D.SteadyDisk g.D.Disk c.type_bounds.sync-R c.type_bounds.sync-G
          c.type_bounds.send-D).shared;
    }
