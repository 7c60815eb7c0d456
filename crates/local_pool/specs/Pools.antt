-- A pool, its owner and its workers, as callers see them.
use Rattle.std.specs.Prelude.{◌≡◌, ℕ, List, [], ◌++◌, flat_map}
use Rattle.std.specs.declared.alloc.Global.{Global}
use Rattle.local_pool.specs.Hands.{hand, FoundEmpty}
pub use Rattle.local_pool.specs.Items.{SameItems}

-- which pool it is
abbrev pub PoolId : Type 0
PoolId = (ℕ × ℕ) × Global

-- the owner: its pool with the number of workers, how many offers have room from the start, and
-- what it offered and took back, the newest last. `never_empty` is 0, as only who finds the pool
-- empty is told (`MayBeEmpty` of Hands)
pub record OwnerOf (T : Type 0) : Type 0 where
  pub pool : PoolId
  pub workers : ℕ
  pub room : ℕ
  pub never_empty : ℕ
  pub offered : List T
  pub taken : List T

-- a worker: its pool, how many tickets it knows to have left the pool, and those that it stole, the
-- newest last. `never_empty` is as an owner's
pub record WorkerOf (T : Type 0) : Type 0 where
  pub pool : PoolId
  pub never_empty : ℕ
  pub passed : ℕ
  pub taken : List T

module _ {T : Type 0} where
  -- at one moment the pool had no ticket: the owner found it so, and all that was offered was
  -- handed out, to the owner what it took, and the rest to workers, if there are any
  abbrev pub AllHandedOut : OwnerOf T → Type 0
  AllHandedOut o = (o.never_empty ≡ 0) × ((others : List T) × SameItems o.offered (o.taken ++ others))
      × (o.workers ≡ 0 → SameItems o.offered o.taken)

  -- at one moment the pool had no ticket, and this worker found it so
  abbrev pub NoneFound : WorkerOf T → Type 0
  NoneFound w = FoundEmpty (hand w.never_empty 0 1 [] w.taken)

  -- a worker of the pool
  abbrev pub IsWorkerOf : PoolId → WorkerOf T → Type 0
  IsWorkerOf p w = w.pool ≡ p

  -- a worker of the pool that stole nothing yet
  abbrev pub IsBlankWorkerOf : PoolId → WorkerOf T → Type 0
  IsBlankWorkerOf p w = (w.pool ≡ p) × (w.taken ≡ [])

  -- what was handed out: to the owner, and to one worker after another
  abbrev pub handed_out : OwnerOf T → List (WorkerOf T) → List T
  handed_out o workers = o.taken ++ flat_map (λ w. w.taken) workers
