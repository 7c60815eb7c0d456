-- Chains of heirs: where that of each worker of a roster is after so many of them.
use Rattle.std.specs.Prelude.{ℕ, zero, suc, Bool, true, false, List, Option, None, Some}
use Rattle.ids.specs.Named.{Name, item_in}
use Rattle.ids.specs.declared.member.Member.{Member}
use Rattle.ids.specs.declared.member.Status.{Status}
use Rattle.ids.specs.declared.member.Status.TheVariants.{Live, Dead, Left}
use Rattle.heirs.specs.declared.bearers.Bearing.{Bearing}
use Rattle.heirs.specs.declared.bearers.chains.Chain.{Chain}
use Rattle.heirs.specs.declared.bearers.chains.Reach.{Reach}
use Rattle.heirs.specs.declared.bearers.chains.Reach.TheVariants.{Ended, At}

-- a chain's name is its worker
abbrev pub name_of_chain : Chain → Name
name_of_chain c = (c.worker, 0)

-- where a worker's chain is after its first step, by its status
abbrev pub first_of : ℕ → Status → Reach
first_of i Live = Ended (Some i)
first_of i Dead = Ended None
first_of i (Left heir) = At heir

-- the same by what is said of it: one that isn't listed has its own work
abbrev pub begun : ℕ → Option Status → Reach
begun i None = Ended (Some i)
begun i (Some status) = first_of i status

-- a member's chain after its first step
abbrev pub chain_of : Member → Chain
chain_of m = record { worker = m.incarnation; reach = first_of m.incarnation m.status }

-- where a chain is when it goes on by `on` from where it came to
abbrev pub then_on : (ℕ → Reach) → Reach → Reach
then_on on (Ended bearer) = Ended bearer
then_on on (At worker) = on worker

-- the same by what is found in a table: a worker that isn't there has its own work
abbrev pub reach_of : ℕ → Option Chain → Reach
reach_of i None = Ended (Some i)
reach_of i (Some c) = c.reach

-- where a worker's chain is, as a table says
abbrev pub reach_in : List Chain → ℕ → Reach
reach_in table i = reach_of i (item_in name_of_chain (i, 0) table)

-- where a chain is after so many steps, each as a table says
unfoldable pub reach : ℕ → List Chain → ℕ → Reach
reach zero table i = At i
reach (suc steps) table i = then_on (reach steps table) (reach_in table i)

-- a chain that goes on as a table says
abbrev pub gone_on : List Chain → Chain → Chain
gone_on table c = record { worker = c.worker; reach = then_on (reach_in table) c.reach }

-- whether a chain goes on
abbrev pub goes_on : Reach → Bool
goes_on (Ended bearer) = false
goes_on (At worker) = true

-- who has the work at the end of a chain: nobody where it goes on
abbrev pub end_of : Reach → Option ℕ
end_of (Ended bearer) = bearer
end_of (At worker) = None

-- a worker and who has its work, at the end of its chain
abbrev pub bearing_of : Chain → Bearing
bearing_of c = record { worker = c.worker; bearer = end_of c.reach }
