-- A lock, its seats, and the seats that came back, as callers see them.
use Rattle.std.specs.Prelude.{◌≡◌, ◌≢◌, ℕ, ◌+◌, ◌<◌, ◌≤◌, List, [], ◌++◌, Option, None, Some}
use Rattle.atomic_table.specs.Seated.{TableId}
use Rattle.turn_lock.specs.Histories.{own, AreOf}
use Rattle.turn_lock.specs.Claims.{ClaimOf, entries_in}

-- a lock: which it is, how many actors have a seat, and what stays the same of its value
pub record LockOf (A : Type 0) : Type 0 where
  pub table : TableId
  pub actors : ℕ
  pub fixed : A

-- a seat, by what it knows: the lock that it is of, and how many actors that has; its actor, and
-- this actor's entries, the newest last; while it has the value, the history that this had when it
-- was taken; and what stays the same of the value
pub record SeatOf (E A : Type 0) : Type 0 where
  pub table : TableId
  pub actors : ℕ
  pub actor : ℕ
  pub entries : List E
  pub taken : Option (List E)
  pub fixed : Option A

-- seats that came back: the lock that they are of, and what each claims, the last one first
pub record GatheredOf (E : Type 0) : Type 0 where
  pub table : TableId
  pub claims : List (ClaimOf E)

module _ {E A : Type 0} where
  -- a seat of the lock
  abbrev pub IsSeatOf : LockOf A → SeatOf E A → Type 0
  IsSeatOf l s = (s.table ≡ l.table) × (s.actors ≡ l.actors) × (s.fixed ≡ Some l.fixed)

  -- a seat of the lock that hasn't the value
  abbrev pub IsFreeSeatOf : LockOf A → SeatOf E A → Type 0
  IsFreeSeatOf l s = IsSeatOf l s × (s.taken ≡ None)

  -- a seat of the lock that never had the value
  abbrev pub IsBlankSeatOf : LockOf A → SeatOf E A → Type 0
  IsBlankSeatOf l s = IsFreeSeatOf l s × (s.entries ≡ [])

  -- the seat has the value, whose history is now what it was when it was taken, and then more
  -- entries of the seat's actor, or none
  abbrev pub GivesBack : (E → ℕ) → SeatOf E A → List E → Type 0
  GivesBack actor_of s log = (before more : List E) × (s.taken ≡ Some before) × (log ≡ before ++ more) × AreOf actor_of s.actor more

  -- a word that says that another actor of the seat's lock has the value
  abbrev pub IsWordOfAnother : SeatOf E A → ℕ → Type 0
  IsWordOfAnother s word = (0 < word) × (word ≤ s.actors) × (word ≢ s.actor + 1) × (word ≤ 1024)

-- the history has of each actor just what is claimed for it, in the same order, and of nobody else
-- anything
abbrev pub Tells : {E : Type 0} → (E → ℕ) → List (ClaimOf E) → List E → Type 0
Tells actor_of claims log = (a : ℕ) → own actor_of a log ≡ entries_in claims a
