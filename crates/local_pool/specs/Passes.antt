-- What a pass and a keeper keep.
use Rattle.std.specs.Prelude.{◌≡◌, ℕ, ◌+◌, ◌≤◌, [], Option, IsSome}
use Rattle.std.specs.declared.alloc.Global.{Global}
use Rattle.crossbeam_queue.specs.Passes.{Pass, view, ruled_capacity}
use Rattle.crossbeam_queue.specs.declared.array_queue.Doing.{Doing}
use Rattle.crossbeam_queue.specs.declared.array_queue.Slotted.{Slotted}
use Rattle.local_pool.specs.declared.lane.Lane.{Lane}
use Rattle.local_pool.specs.Turns.{KeeperOf, PassOf, QueueOf}

-- what contracts see of a pass, of a keeper and of a queue
abbrev pub pass_of : {D S : Type 0} → Pass D (Lane D S) → PassOf D S
pass_of p = record { queue = p.table_id; never = (view p).never; put = (view p).put; taken = (view p).taken; stamp = (view p).stamp }

abbrev pub keeper_of : {D S : Type 0} → Pass D (Lane D S) → ℕ → KeeperOf D
keeper_of p passes = record { queue = p.table_id; passes = passes; put = (view p).put }

abbrev pub queue_of : {D S Q : Type 0} → Slotted (Option D) (Doing D (Lane D S)) Q Global → QueueOf
queue_of q = record { queue = q.table.shared.table_id; capacity = ruled_capacity q }

-- it has one part and knows the stamp, and no slot is out with it
pub record IsTurnPass {D S : Type 0} (pass : Pass D (Lane D S)) : Type 0 where
  pub part : (view pass).parts ≡ 1
  pub stamp : IsSome (view pass).stamp
  pub no_slot : pass.me.1 ≡ []

-- it has all parts but the passes', no slot is out with it, and it has taken nothing
pub record IsKeeper {D S : Type 0} (keeper : Pass D (Lane D S)) (passes : ℕ) : Type 0 where
  pub few : passes ≤ 1024
  pub parts : (view keeper).parts + passes ≡ 1025
  pub no_slot : keeper.me.1 ≡ []
  pub taken : (view keeper).taken ≡ []
