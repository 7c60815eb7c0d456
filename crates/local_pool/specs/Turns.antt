-- A queue of turns and its passes, as callers see them.
use Rattle.std.specs.Prelude.{◌≡◌, ℕ, List, [], ◌++◌, flat_map, length, Option, Some}
use Rattle.std.specs.Coded.{Coded, coded×, coded_ℕ, coded_list, coded_option}
use base.Stored.{coded_via}
use Rattle.atomic_table.specs.Seated.{TableId, table_id_coded}
use Rattle.local_pool.specs.Items.{SameItems, numbered}
use Rattle.local_pool.specs.Lanes.{lane, Found}

-- a queue: which it is, and how many turns it has room for
pub record QueueOf : Type 0 where
  pub queue : TableId
  pub capacity : ℕ

abbrev pub queue_code : Coded QueueOf
queue_code = coded_via (coded× table_id_coded coded_ℕ) (λ (q : QueueOf). (q.queue, q.capacity)) (λ x y e i. record { queue = (e i).0; capacity = (e i).1 })

-- a keeper: its queue, how many passes that has, and the first turn, which it put, with its number
-- in the order of the queue
pub record KeeperOf (D : Type 0) : Type 0 where
  pub queue : TableId
  pub passes : ℕ
  pub put : List (ℕ × D)

abbrev pub keeper_code : {D : Type 0} → Coded D → Coded (KeeperOf D)
keeper_code {D} code = coded_via (coded× table_id_coded (coded× coded_ℕ (coded_list (coded× coded_ℕ code)))) (λ (k : KeeperOf D). (k.queue, (k.passes, k.put))) (λ x y e i. record { queue = (e i).0; passes = (e i).1.0; put = (e i).1.1 })

-- a pass: its queue, the turns that it put and that it took, the newest last, each with its number
-- in the order of the queue, and the stamp of all turns in the queue, which is never `None`.
-- `never` is 0, of which a count of the turns tells a little (`MayHaveAny` of Lanes)
pub record PassOf (D S : Type 0) : Type 0 where
  pub queue : TableId
  pub never : ℕ
  pub put : List (ℕ × D)
  pub taken : List (ℕ × D)
  pub stamp : Option S

abbrev pub pass_code : {D S : Type 0} → Coded D → Coded S → Coded (PassOf D S)
pass_code {D} {S} turn stamp = coded_via (coded× table_id_coded (coded× coded_ℕ (coded× (coded_list (coded× coded_ℕ turn)) (coded× (coded_list (coded× coded_ℕ turn)) (coded_option stamp))))) (λ (p : PassOf D S). (p.queue, (p.never, (p.put, (p.taken, p.stamp))))) (λ x y e i. record { queue = (e i).0; never = (e i).1.0; put = (e i).1.1.0; taken = (e i).1.1.1.0; stamp = (e i).1.1.1.1 })

module _ {D S : Type 0} where
  -- at one moment the queue was full, or empty, and this pass found it so
  abbrev pub FoundFull : (D → S) → QueueOf → PassOf D S → Type 0
  FoundFull stamp_of q p = (items : List D) × (length items ≡ q.capacity) × Found stamp_of (lane p.never 1 p.put p.taken p.stamp) items

  abbrev pub FoundNone : (D → S) → PassOf D S → Type 0
  FoundNone stamp_of p = Found stamp_of (lane p.never 1 p.put p.taken p.stamp) []

  -- a pass of the queue
  abbrev pub IsPassOfQueue : QueueOf → PassOf D S → Type 0
  IsPassOfQueue q p = p.queue ≡ q.queue

  -- a pass of the queue that put nothing and took nothing yet, where all turns have the stamp
  abbrev pub IsBlankPassOf : QueueOf → S → PassOf D S → Type 0
  IsBlankPassOf q stamp p = (p.queue ≡ q.queue) × (p.put ≡ []) × (p.taken ≡ []) × (p.stamp ≡ Some stamp)

  -- what the passes put, and what they took
  abbrev pub put_by : List (PassOf D S) → List (ℕ × D)
  put_by passes = flat_map (λ p. p.put) passes

  abbrev pub taken_by : List (PassOf D S) → List (ℕ × D)
  taken_by passes = flat_map (λ p. p.taken) passes

-- First in, first out: the turns that were put have one order. Those that were taken are the first
-- of it, each once, and those that are left are the rest
abbrev pub FirstInFirstOut : {D : Type 0} → List (ℕ × D) → List (ℕ × D) → List D → Type 0
FirstInFirstOut {D} put taken left = (gone : List D) × SameItems put (numbered (gone ++ left)) × SameItems taken (numbered gone)
