-- How a run is made.
use Rattle.std.specs.Prelude.{ℕ, ◌≤◌, ◌<◌}
use Rattle.runner_parts.specs.declared.config.Faults.{Faults}

-- how many nodes, and how many body workers each, the faults, and how many turns may be taken
pub record ConfigOf : Type 0 where
  pub nodes : ℕ
  pub bodies : ℕ
  pub faults : Faults
  pub turns : ℕ

-- 1 to 64 nodes, of which at least one stays, with 1 to 8 body workers each
pub record IsConfig (c : ConfigOf) : Type 0 where
  pub one : 1 ≤ c.nodes
  pub few : c.nodes ≤ 64
  pub works : 1 ≤ c.bodies
  pub few_work : c.bodies ≤ 8
  pub stays : c.faults.departures < c.nodes
