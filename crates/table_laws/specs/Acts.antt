-- The moves, each with its guard, and the views that lists of moves lead to.
use Rattle.std.specs.Prelude.{◌≡◌, ℕ, ℤ, suc, true, List, [], ◌∷◌, Option, Some, None}
use Rattle.ids.specs.Names.{Grant}
use Rattle.table_laws.specs.Tables.{◌∈◌}
use Rattle.table_laws.specs.Content.{Content, Fill, Changes, rehost}
use Rattle.table_laws.specs.View.{Transfer, Result, Steal, Roster, Sub, Joining, House, Works, View, first_over}
use Rattle.table_laws.specs.Facts.{of_worker, Said, Lost, Above, ack_of, request_of, Live, Resolves, RecordOf}
use Rattle.table_laws.specs.Moves.{start, open_house, close_house, admit, adopt, stop, fail, mark_lost, ask, refuse, unpend, take, acknowledge, freeze, remove, alter, grant_frame, grant_root, settle, close_root, commit, leave, publish}
use Rattle.table_laws.specs.Guards.{MayOpen, MayFail, MayAsk, MayAnswer, Begins, MaySteal, MayBegin, MayCommit, MayTake, GivesUp, MayFreeze, MayRelease, Drops, Alters, MaySettle, MaySettleAtHouse, MayLeave, MayPublish, MayAdopt}

-- the view after a move, which may happen at v
pub data Act (v : View) : View → Type 0 where
  -- a worker starts; its first roster admits it, and later ones follow; it ends, having said Leave
  -- or not; or it turns out to be lost
  starts : (i : ℕ) → (i ∈ v.used → ⊥) → of_worker i ≡ true → Act v (start v i)
  admits : (i : ℕ) (roster : Roster) → v.mode i ≡ Joining → roster ∈ v.rosters → Act v (adopt (admit v i) i roster)
  adopts : (i : ℕ) (old roster : Roster) → MayAdopt v i old roster → Act v (adopt v i roster)
  fails : (i : ℕ) → MayFail v i → Act v (fail v i)
  goes : (i : ℕ) → Said v.leaves i → Act v (stop v i)
  marks_lost : (i : ℕ) → i ∈ v.used → (v.mode i ≡ House → ⊥) → ((house : Roster) → v.house ≡ Some house → Lost v house i) → Act v (mark_lost v i)
  -- the clearinghouse opens, grants the root, drops its record since the holder is dead, or records
  -- its outcome, tells a roster, is down
  opens : (i : ℕ) (lost : List ℕ) (roster : Roster) → MayOpen v i lost roster → Act v (open_house v i lost roster)
  grants_root : (i thief seq : ℕ) (c : Content) → v.mode i ≡ House → MayBegin v c → MayAnswer v i thief seq → Begins c i → Act v (grant_root v i thief seq c)
  closes_root : (k : Grant) → v.root ≡ Some k → Act v (close_root v k)
  commits : (i : ℕ) (k : Grant) (o : Option ℤ) → MayCommit v i k o → Act v (commit v k o)
  publishes : (house roster : Roster) → MayPublish v house roster → Act v (publish v roster)
  closes : (i : ℕ) → v.mode i ≡ House → Act v (close_house v i)
  -- a thief asks; its victim refuses, or grants a frame; the thief takes it, hears of the refusal,
  -- or gives up
  asks : (i victim : ℕ) → MayAsk v i victim → Act v (ask v i victim)
  refuses : (i thief seq : ℕ) → Works (v.mode i) → MayAnswer v i thief seq → Act v (refuse v i thief seq)
  grants : (i : ℕ) (g : Grant) (s : Sub) (n thief seq : ℕ) (c : Content) → Live v i g s → MayAnswer v i thief seq → Begins c i → MaySteal s.content n c.task → Act v (grant_frame v i g s n thief seq c)
  takes_grant : (i : ℕ) (t : Transfer) → MayTake v i t [] → t.hop ≡ 0 → v.pending i ≡ Some (request_of t) → Act v (take v i t None [])
  hears_refuse : (i : ℕ) (x : Steal) → x ∈ v.refusals → x.thief ≡ i → v.pending i ≡ Some (record { victim = x.victim; seq = x.seq }) → Act v (unpend v i)
  gives_up : (i : ℕ) → GivesUp v i → Act v (unpend v i)
  -- a member departs; its heir takes what it offers; what was taken is acknowledged (again), and
  -- released; it says Leave
  freezes : (i heir : ℕ) (offers : List Transfer) → MayFreeze v i heir offers → Act v (freeze v i heir offers)
  takes_offer : (i : ℕ) (t : Transfer) (h : ℕ) → MayTake v i t (ack_of t ∷ []) → t.hop ≡ suc h → Act v (take v i t (v.pending i) (ack_of t ∷ []))
  acknowledges : (t : Transfer) → t ∈ v.transfers → (Above (v.seen t.to t.grant) t.hop → ⊥) → Works (v.mode t.to) → Act v (acknowledge v (ack_of t))
  releases : (i heir : ℕ) (g : Grant) (s : Sub) → MayRelease v i heir g s → Act v (remove v i g [])
  leaves : (i heir : ℕ) (roster : Roster) → v.roster i ≡ Some roster → MayLeave v i heir → Act v (leave v i heir roster.epoch)
  -- a live sub changes: by a turn, a returned result, a redo, or a Result told again; it is
  -- dropped; its parent host is renamed; a Result that nobody waits for is acknowledged
  alters : (i : ℕ) (g : Grant) (s : Sub) (c : Content) (fill : Option Fill) (results : List Result) (gone : List Grant) → Live v i g s → Changes g s.content c fill → Alters g s.content c results gone → Act v (alter v i g s c fill results gone)
  drops : (i : ℕ) (g : Grant) (s : Sub) (gone : List Grant) → Live v i g s → ((k : Grant) → k ∈ gone → RecordOf s.content k) → Drops v i g s → Act v (remove v i g gone)
  renames : (i : ℕ) (g : Grant) (s : Sub) (roster : Roster) (host : ℕ) → Live v i g s → roster ∈ v.rosters → Resolves roster s.content.host host → Act v (alter v i g s (rehost s.content host) None [] [])
  settles : (i : ℕ) (g : Grant) → MaySettle v i g → Act v (settle v g)
  settles_at_house : (i : ℕ) (g : Grant) → MaySettleAtHouse v i g → Act v (settle v g)

-- v comes of a list of moves
pub data ReachedInTables : View → Type 0 where
  at_first : (epoch : ℕ) (stored : Option (Option ℤ)) → ReachedInTables (first_over epoch stored)
  by_act : {v w : View} → ReachedInTables v → Act v w → ReachedInTables w
