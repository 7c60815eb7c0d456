-- What holds of every call.
use Rattle.std.specs.Prelude.{◌≡◌, ◌⊎◌, ◌+◌, ◌*◌, ◌≤◌, ◌^◌, ℕ, IsTrue, List, [], ◌∷◌, length, Option, None, Some}
use Rattle.std.specs.List.{AllByRecursion}
use Rattle.ids.specs.Members.{says_live}
use Rattle.ids.specs.Ordered.{AreInOrder}
use Rattle.ids.specs.declared.outcome.Outcome.{Outcome}
use Rattle.codec.specs.Rosters.{has_another}
use Rattle.codec.specs.Table.{PacketOf, is_short}
use Rattle.codec.specs.declared.body.Body.TheVariants as body
use Rattle.serial_meaning.specs.Job.{JobOf}
use Rattle.clearinghouse.specs.House.{HouseOf, Kept, kept_of, name_of_enlisted}
use Rattle.clearinghouse.specs.Moves.{packet}
use Rattle.clearinghouse.specs.Steps.{HouseAnswer, Ignored, Refused, Does, HouseStepOf}
use Rattle.clearinghouse.specs.declared.error.HouseError.{HouseError}
use Rattle.clearinghouse.specs.declared.error.HouseError.TheVariants as error
use Rattle.clearinghouse.specs.declared.parts.Enlisted.{Enlisted}
pub use Rattle.ids.specs.Names.{one_if}

-- the Join of a worker
abbrev pub join : JobOf → ℕ → PacketOf
join job i = packet job (2 ^ 63) (body.Join (record { from = i }))

-- how many of these are live
abbrev pub living : List Enlisted → ℕ
living [] = 0
living (w ∷ ws) = one_if (says_live (Some w.status)) + living ws

-- what holds of a roster: at most 4,096 workers are listed, by rising incarnation, each once;
-- nobody is its own heir; and there are no more versions than came with a new worker or a live one
-- that went
pub record IsListing (version : ℕ) (workers : List Enlisted) : Type 0 where
  pub few : length workers ≤ 4096
  pub rising : AreInOrder name_of_enlisted workers
  pub heirs : AllByRecursion (λ w. IsTrue (has_another w.incarnation w.status)) workers
  pub counted : version + living workers ≤ 1 + 2 * length workers

-- what holds of an open clearinghouse between its calls: once there is an outcome, the root's grant
-- isn't out; its roster is one that can be told; and its last answers are no Offers, which are
-- never too big
pub record IsHouse (h : HouseOf) : Type 0 where
  pub decided : (o : Outcome) → h.outcome ≡ Some o → h.root ≡ None
  pub listing : IsListing h.version h.workers
  pub short : AllByRecursion (λ r. IsTrue (is_short r.packet.body)) h.replies

-- what the checkpoint keeps after a step is what the clearinghouse then holds of it: what was
-- committed, which is one more commit of the same epoch, or, where nothing was, what was kept
-- before
abbrev pub Commits : Option Kept → (old new : HouseOf) → Type 0
Commits None old new = kept_of new ≡ kept_of old
Commits (Some k) old new = (kept_of new ≡ k) × (k.epoch ≡ old.epoch) × (k.sequence ≡ old.sequence + 1)

-- a step keeps what holds between calls, commits what it changes of what is kept, and an outcome
-- stays
pub record KeepsHouse (h : HouseOf) (s : HouseStepOf) : Type 0 where
  pub holds : IsHouse h → IsHouse s.after
  pub commits : Commits s.commits h s.after
  pub outcome : IsHouse h → (o : Outcome) → h.outcome ≡ Some o → s.after.outcome ≡ Some o

-- when a packet is refused that is one: a worker joins where 4,096 members are listed, or the
-- grants or the commits are spent
abbrev pub IsDue : HouseOf → HouseError → Type 0
IsDue h error.RosterFull = 4096 ≤ length h.workers
IsDue h error.Spent = (2 ^ 64 ≤ h.minted + 1) ⊎ (2 ^ 64 ≤ h.sequence + 1)
IsDue h other = ⊥

-- what is promised of an answer to a packet
abbrev pub IsSafe : HouseOf → HouseAnswer → Type 0
IsSafe h Ignored = Unit {0}
IsSafe h (Refused e) = IsDue h e
IsSafe h (Does s) = KeepsHouse h s
