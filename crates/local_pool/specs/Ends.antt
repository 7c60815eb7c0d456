-- What an owner and a worker keep.
use Rattle.std.specs.Prelude.{◌≡◌, ℕ, ◌+◌, ◌≤◌, [], length}
use Rattle.std.specs.declared.alloc.Global.{Global}
use Rattle.crossbeam_deque.specs.declared.handles.Worker.{Worker}
use Rattle.crossbeam_deque.specs.declared.handles.Stealer.{Stealer}
use Rattle.crossbeam_deque.specs.Handles.{Pass, view, taken, IsPassOf, worker_deque, worker_flavor, worker_view, worker_capacity, worker_index, stealer_deque, stealer_flavor}
use Rattle.local_pool.specs.declared.law.Hand.{Hand}
use Rattle.local_pool.specs.declared.law.Law.{Law}
use Rattle.local_pool.specs.Pools.{OwnerOf, WorkerOf}

-- what contracts see of an owner and of a worker
abbrev pub owner_of : {T : Type 0} → Worker T Global (Hand T) Law → ℕ → ℕ → OwnerOf T
owner_of d room workers = record { pool = worker_deque d; workers = workers; room = room; never_empty = (worker_view d).never_empty; offered = (worker_view d).offered; taken = (worker_view d).taken }

abbrev pub worker_of : {T : Type 0} → Stealer T Global (Hand T) Law → Pass T (Hand T) Global → WorkerOf T
worker_of s p = record { pool = stealer_deque s; never_empty = (view p).never_empty; passed = taken p; taken = (view p).taken }

-- the deque is first in, first out; the owner has all parts but the workers'; the counts are those
-- of its tickets
pub record IsOwner {T : Type 0} (deque : Worker T Global (Hand T) Law) (room workers offered taken : ℕ) : Type 0 where
  pub first_in : worker_flavor deque ≡ 0
  pub owner : (worker_view deque).owners ≡ 1
  pub few : workers ≤ 1024
  pub parts : (worker_view deque).parts + workers ≡ 1025
  pub has_room : room ≤ worker_capacity deque
  pub index : worker_index deque ≤ offered
  pub offers : offered ≡ length (worker_view deque).offered
  pub takes : taken ≡ length (worker_view deque).taken
  pub order : taken ≤ offered

-- the token is of the deque, with one part, and its count is that of the tickets that it stole
pub record IsWorker {T : Type 0} (thief : Stealer T Global (Hand T) Law) (token : Pass T (Hand T) Global) (stolen : ℕ) : Type 0 where
  pub first_in : stealer_flavor thief ≡ 0
  pub pool : IsPassOf (stealer_deque thief) token
  pub no_owner : (view token).owners ≡ 0
  pub part : (view token).parts ≡ 1
  pub nothing : (view token).offered ≡ []
  pub steals : stolen ≡ length (view token).taken
