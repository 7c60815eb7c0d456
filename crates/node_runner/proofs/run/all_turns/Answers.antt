use mir.Syntax.{named}
use denote.Param.Send.{param_send}
use Rattle.node_runner.proofs.Crossing.{captured_workers}
use Rattle.node_runner.proofs.run.all_turns.Goals as goal

pub join-seats-requires-send-F : goal.join-seats-requires-send-F
join-seats-requires-send-F g c κs within =
    let sent = param_send 1 _ (captured_workers record { mir = named 6; lft = κs.1.1.1.1.1.1.0 } record {
      mir = named 7;
      lft = κs.1.1.1.1.1.1.1.0;
    } record { mir = named 8; lft = κs.1.1.1.1.1.1.1.1.0 }
    record { mir = named 9; lft = κs.1.1.1.1.1.1.1.1.1.0 } record {
      mir = named 10;
      lft = κs.1.1.1.1.1.1.1.1.1.1.0;
    } g.row.R g.row.G g.row.D g.D.SteadyDisk g.D.Disk c.type_bounds.sync-R
    c.type_bounds.sync-G c.type_bounds.send-D) in
    record { owned = sent.owned; leaving = sent.leaving }
