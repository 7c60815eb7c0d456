use Rattle.std.proofs.Crossing.{crosses}
use mir.Syntax.{named}
use denote.Param.Send.{sendable}
use Rattle.node_runner.proofs.Crossing.{captured, worker_context}
use Rattle.node_runner.proofs.run.all_work.Goals as goal

pub map_vec-ended-requires-send-J : goal.map_vec-ended-requires-send-J
map_vec-ended-requires-send-J g c κs within = search (sendable, worker_context, crosses) depth 25

pub map_vec-ended-requires-sync-F : goal.map_vec-ended-requires-sync-F
map_vec-ended-requires-sync-F g c κs within =
    record {
      shared = (captured record { mir = named 7; lft = κs.1.1.1.1.1.1.1.0 } record {
        mir = named 8;
        lft = κs.1.1.1.1.1.1.1.1.0;
      } record { mir = named 9; lft = κs.1.1.1.1.1.1.1.1.1.0 } record {
        mir = named 10;
        lft = κs.1.1.1.1.1.1.1.1.1.1.0;
      } record {
        mir = named 11;
        lft = κs.1.1.1.1.1.1.1.1.1.1.1.0;
      } g.row.R g.row.G g.row.D g.D.SteadyDisk g.D.Disk c.type_bounds.sync-R
          c.type_bounds.sync-G c.type_bounds.send-D).shared;
    }
