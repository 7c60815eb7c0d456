-- An event comes to the clearinghouse at its place.
use Rattle.std.proofs.Common.{◌≡◌, ℕ, Bool, List, [], true, false, IsTrue, Option, None, Some, Result, Ok, Err, IfOk, OnErr, refl, sym, ap, subst, ◌∙◌}
use Rattle.codec.specs.Table.{PacketOf}
use Rattle.ids.specs.declared.outcome.Outcome.{Outcome}
use Rattle.disk.specs.declared.cells.Cell.{Cell}
use Rattle.disk.specs.Crash.{Shrinks}
use Rattle.disk.specs.Device.{Device, Unarmed, armed, armed_bytes, called, crashed, passed}
use Rattle.disk.specs.File.{CrashLeaves, bytes_of, synced}
use Rattle.disk.proofs.Crashes.{crash-leaves-bytes_of, settled-shrinks, synced-shrinks}
use Rattle.checkpoint.specs.Calls.{Passed, after}
use Rattle.checkpoint.specs.Commit.{formatting}
use Rattle.checkpoint.specs.Format.{IsFormatted, fresh}
use Rattle.checkpoint.proofs.Reading.{one_store}
use Rattle.checkpoint.specs.Store.{KeepsRecord}
use Rattle.checkpoint.specs.declared.record.CheckpointRecord.{CheckpointRecord}
use Rattle.checkpoint.specs.declared.record.SlotId.TheVariants.{Large}
use Rattle.event_script.specs.declared.event.Cut.{Cut as CutOf}
use Rattle.agreement_laws.specs.Agreement.{AllSavedAgree}
use Rattle.saved_values.specs.declared.value.SavedValue.{SavedValue}
use Rattle.serial_meaning.specs.Job.{JobOf}
use Rattle.world_steps.specs.Agrees.{Agrees, StoredAgree}
use Rattle.world_steps.specs.First.{IsFirst, IsFirstWith}
use Rattle.world_steps.specs.Runs.{CanBegin, IsFormattedFor}
use Rattle.world_steps.specs.Steps.{Applies}
use Rattle.world_steps.proofs.Cutting.{crashed_armed, cuts}
use Rattle.world_steps.proofs.Devices.{after-can_cut, after-unarmed, settled_is, synced-settled, synced-synced}
use Rattle.world_steps.specs.declared.house_slot.HouseState.TheVariants as stand
use Rattle.clearinghouse.specs.House.{Stopped}
use Rattle.clearinghouse.specs.declared.parts.Stop.TheVariants as by
use Rattle.event_script.specs.declared.event.HouseEvent.{HouseEvent}
use Rattle.world_steps.specs.Coming.{Comes, HasCome, seat_of, stop_by}
use Rattle.world_steps.specs.Seats.{Happens, CutHappens, DeliversPacket, IsSeat, IsStill, HouseSlotOf, Seats, disk_of, fallen, fallen_by, house_at, replied}
use Rattle.world_steps.specs.World.{Down, HouseAt, IsUp, WorldOf, first_over}
use Rattle.world_steps.specs.declared.parts.NoMemory.{NoMemory}
use Rattle.world_steps.specs.declared.house_slot.HouseReply.{HouseReply}
use Rattle.world_steps.specs.declared.house_slot.HouseState.{HouseState}
use Rattle.world_steps.proofs.Unarmed.{comes_can, comes_still, happens}

module _ {D : Type 0} (device : D → Device) (job : JobOf) (e : HouseEvent) (p : Option PacketOf) where
  pub met_still : (r : Result HouseReply NoMemory) (was new : HouseState D)
      → IsSeat device job was → HasCome device job e p r was new → IsSeat device job new
  met_still (Ok reply) was new is come =
      record {
        own = come.own;
        still = comes_still reply (seat_of device job was) (seat_of device job new) is.still e p
            (house_at was) come.comes;
      }
  met_still (Err lacks) was new is come =
      record { own = come.own; still = subst IsStill (ap (λ (s : HouseSlotOf). s.disk) (sym come.lacks)) is.still }

  met_by : (r : Result HouseReply NoMemory) (was new : HouseState D)
      → IsSeat device job was → HasCome device job e p r was new
      → IfOk r (λ reply. (w : WorldOf) → Seats (seat_of device job was) w → DeliversPacket e p w
      → Happens job e w (replied reply (seat_of device job new) w))
  met_by (Ok reply) was new is come = λ w seats found.
      happens e p reply (seat_of device job was) (seat_of device job new) w is.still seats found come.comes
  met_by (Err lacks) was new is come = tt

  pub met : (r : Result HouseReply NoMemory) (was new : HouseState D)
      → IsSeat device job was → HasCome device job e p r was new → (old : HouseSlotOf) → seat_of device job was ≡ old
      → IfOk r (λ reply. (w : WorldOf) → Seats old w → DeliversPacket e p w
      → Happens old.job e w (replied reply (seat_of device job new) w))
  met r was new is come old view =
      subst (λ (s : HouseSlotOf). IfOk r (λ reply. (w : WorldOf) → Seats s w → DeliversPacket e p w
      → Happens s.job e w (replied reply (seat_of device job new) w))) view
      (met_by r was new is come)

-- a crash leaves a disk that is still; of one that can't be cut it is the same
pub crashed_still : (d e : Device) → IsTrue d.can_cut → e ≡ crashed d → IsStill e
crashed_still d e can is = subst IsStill (sym is) (record { unarmed = refl; settled = synced-settled d.file _ })

-- of a disk that is still nothing is lost
pub fallen_still : (s : HouseSlotOf) → IsStill s.disk → record s { house = Down } ≡ fallen s
fallen_still s still = by_house s.house refl
  where
    by_house : (h : HouseAt) → s.house ≡ h → record s { house = Down } ≡ fallen_by s h
    by_house Down is = ap (λ x. record s { house = x }) (sym is)
    by_house (IsUp state) is = ap (λ d. record s { house = Down; disk = d }) (settled_is s.disk [] still.settled)

-- an event is cut off
module _ {D : Type 0} (device : D → Device) (job : JobOf) (c : CutOf) (p : Option PacketOf)
    (was given next : HouseState D) (disk : D) (is : IsSeat device job was) (can : IsTrue (disk_of device was).can_cut)
    (house : house_at given ≡ house_at was)
    (armed_is : disk_of device given ≡ armed (disk_of device was) c.calls c.bytes) where
  given_is : seat_of device job given ≡ record (seat_of device job was) {
    disk = armed (disk_of device was) c.calls c.bytes;
  }
  given_is = ap (λ x. record { job = job; house = x; disk = disk_of device given }) house ∙ ap
      (λ d. record { job = job; house = house_at was; disk = d }) armed_is

  given_can : (disk_of device given).can_cut ≡ true
  given_can = ap (λ (d : Device). d.can_cut) armed_is ∙ can

  pub next_can : (r : Result HouseReply NoMemory) → HasCome device job c.event p r given next
      → (disk_of device next).can_cut ≡ true
  next_can (Ok reply) come = comes_can reply (seat_of device job given) (seat_of device job next) c.event p
      (house_at given) come.comes ∙ given_can
  next_can (Err lacks) come = ap (λ (s : HouseSlotOf). s.disk.can_cut) come.lacks ∙ given_can

  cut_by : device disk ≡ crashed (disk_of device next) → (r : Result HouseReply NoMemory)
      → HasCome device job c.event p r given next
      → ((w : WorldOf) → Seats (seat_of device job was) w → DeliversPacket c.event p w
      → Applies job c.event (house_at was) w) →
      IfOk r (λ reply. (w : WorldOf) → Seats (seat_of device job was) w → DeliversPacket c.event p w
      → CutHappens job c w (replied reply (seat_of device job (stand.Halted (stop_by r) disk)) w))
  cut_by left (Ok reply) come applies = λ w seats found.
      let came : Comes c.event p (house_at was) reply
      (record (seat_of device job was) { disk = armed (disk_of device was) c.calls c.bytes })
      (seat_of device job next) =
      subst (λ h. Comes c.event p h reply
      (record (seat_of device job was) { disk = armed (disk_of device was) c.calls c.bytes })
      (seat_of device job next)) house
      (subst (λ (s : HouseSlotOf). Comes c.event p (house_at given) reply s (seat_of device job next)) given_is
      come.comes) in
      subst (λ d. CutHappens job c w (replied reply
      (record { job = job; house = IsUp (Stopped by.Device); disk = d }) w)) (sym left)
      (cuts c p reply (seat_of device job was) (seat_of device job next) w is.still can seats found
      (applies w seats found) came)
  cut_by left (Err lacks) come applies = tt

  lack_by : device disk ≡ crashed (disk_of device next) → (r : Result HouseReply NoMemory)
      → HasCome device job c.event p r given next
      → OnErr r (seat_of device job (stand.Halted (stop_by r) disk)
      ≡ record (seat_of device job was) { house = IsUp (Stopped by.Memory) })
  lack_by left (Ok reply) come = tt
  lack_by left (Err lacks) come =
      let there : disk_of device next ≡ armed (disk_of device was) c.calls c.bytes =
      ap (λ (s : HouseSlotOf). s.disk) come.lacks ∙ armed_is in
      ap (λ d. record { job = job; house = IsUp (Stopped by.Memory); disk = d }) (left ∙ ap crashed there
      ∙ crashed_armed (disk_of device was) c.calls c.bytes is.still)

  pub cut_off : device disk ≡ crashed (disk_of device next) → (r : Result HouseReply NoMemory)
      → HasCome device job c.event p r given next → (old : HouseSlotOf) → seat_of device job was ≡ old
      → ((w : WorldOf) → Seats old w → DeliversPacket c.event p w → Applies old.job c.event old.house w) →
      IfOk r (λ reply. (w : WorldOf) → Seats old w → DeliversPacket c.event p w
      → CutHappens old.job c w (replied reply (seat_of device job (stand.Halted (stop_by r) disk)) w))
  cut_off left r come old view applies =
      subst (λ (s : HouseSlotOf). ((w : WorldOf) → Seats s w → DeliversPacket c.event p w
      → Applies s.job c.event s.house w)
      → IfOk r (λ reply. (w : WorldOf) → Seats s w → DeliversPacket c.event p w
      → CutHappens s.job c w (replied reply (seat_of device job (stand.Halted (stop_by r) disk)) w))) view
      (cut_by left r come) applies

  pub cut_lacks : device disk ≡ crashed (disk_of device next) → (r : Result HouseReply NoMemory)
      → HasCome device job c.event p r given next → (old : HouseSlotOf) → seat_of device job was ≡ old
      → OnErr r (seat_of device job (stand.Halted (stop_by r) disk) ≡ record old { house = IsUp (Stopped by.Memory) })
  cut_lacks left r come old view =
      subst (λ (s : HouseSlotOf). OnErr r
      (seat_of device job (stand.Halted (stop_by r) disk) ≡ record s { house = IsUp (Stopped by.Memory) })) view
      (lack_by left r come)

-- a disk that was formatted for a job
formatted_synced : (d : Device) (file : List ℕ)
    → synced (after d (formatting file)).file ≡ (after d (formatting file)).file
unfolding after
formatted_synced d file = synced-synced _

pub formatted_can : (d new : Device) (plan : ℕ → Option (List ℕ)) (file : List ℕ)
    → d ≡ record { file = []; arming = Unarmed; failures = 0; can_cut = true } → Passed (formatting file) plan d new
    → IsTrue new.can_cut
formatted_can d new plan file is passed =
    ap (λ (x : Device). x.can_cut) passed.made ∙ after-can_cut d (formatting file) ∙ ap (λ (x : Device). x.can_cut) is

pub formatted_still : (d new : Device) (plan : ℕ → Option (List ℕ)) (file : List ℕ)
    → d ≡ record { file = []; arming = Unarmed; failures = 0; can_cut = true } → Passed (formatting file) plan d new
    → IsStill new
formatted_still d new plan file is passed =
    subst IsStill (sym passed.made) (record {
      unarmed = after-unarmed d (formatting file) (ap (λ (x : Device). x.arming) is);
      settled = formatted_synced d file;
    })

-- a disk that is taken over: disarmed, as by a crash, and synced
module _ (d mid new : Device) (cut : IsTrue d.can_cut → mid ≡ crashed d) (uncut : d.can_cut ≡ false
    → mid ≡ d) (made : new ≡ passed mid (synced mid.file)) where
  mid_unarmed : (d.can_cut ≡ false → d.arming ≡ Unarmed) → (b : Bool) → d.can_cut ≡ b → mid.arming ≡ Unarmed
  mid_unarmed own true can = ap (λ (x : Device). x.arming) (cut can)
  mid_unarmed own false not_cut = ap (λ (x : Device). x.arming) (uncut not_cut) ∙ own not_cut

  pub over_still : (d.can_cut ≡ false → d.arming ≡ Unarmed) → IsStill new
  over_still own = subst IsStill (sym made)
      (record { unarmed = ap called (mid_unarmed own d.can_cut refl); settled = synced-synced mid.file })

  mid_keeps : (b : Bool) → d.can_cut ≡ b → Shrinks (CrashLeaves d.file) (CrashLeaves mid.file)
  mid_keeps true can c h = settled-shrinks d.file (armed_bytes d.arming) c
      (subst (λ (x : Device). CrashLeaves x.file c) (cut can) h)
  mid_keeps false not_cut c h = subst (λ (x : Device). CrashLeaves x.file c) (uncut not_cut) h

  pub over_leaves : Shrinks (CrashLeaves d.file) (CrashLeaves new.file)
  over_leaves c h = mid_keeps d.can_cut refl c
      (synced-shrinks mid.file c (subst (λ (x : Device). CrashLeaves x.file c) made h))

no_outcome : (o : Outcome) → ◌≡◌ {A = Option Outcome} None (Some o) → ⊥
no_outcome o is = cc

pub formatted_for : (job : JobOf) (d : Device) (number : ℕ) → number ≡ job.number → IsStill d → IsTrue d.can_cut
    → ((c : List ℕ) → CrashLeaves d.file c → IsFormatted c number) → IsFormattedFor job d
formatted_for job d number is still can left = record {
  unarmed = still.unarmed;
  can_cut = can;
  formatted = λ c crash. subst (λ n. IsFormatted c n) is (left c crash);
}

-- a run can begin on it
pub can_begin : (job : JobOf) (d : Device) → IsFormattedFor job d → CanBegin job d
can_begin job d is = record {
  unarmed = is.unarmed;
  sequence = 0;
  found = fresh job.number;
  kept = record { slot = Large false; each = λ c crash. (is.formatted c crash).store };
  own = refl;
  meant = λ o there. absurd (no_outcome o there);
  saved = tt;
}

-- so one can begin over it, and nothing is saved there
pub formatted_first : (job : JobOf) (d : Device) → IsStill d → IsFormattedFor job d → IsFirstWith job d []
formatted_first job d still is = (
  record {
    still = still;
    sequence = 0;
    found = fresh job.number;
    kept = record { slot = Large false; each = λ c crash. (is.formatted c crash).store };
    own = refl;
    no_outcome = refl;
  },
  refl,
)

-- where a disk keeps a record, what is saved there is what that has
pub kept_agree : (job : JobOf) (d : Device) (n : ℕ) (r : CheckpointRecord) → KeepsRecord d.file n r
    → AllSavedAgree job r.saved → StoredAgree job d
kept_agree job d n r keeps agree content left m s reads =
    subst (λ (x : CheckpointRecord). AllSavedAgree job x.saved)
    (sym (one_store content reads.0 keeps.slot m n s r reads.1 (keeps.each content left)).2) agree

pub formatted_agree : (job : JobOf) (d : Device) → IsFormattedFor job d → StoredAgree job d
formatted_agree job d is = kept_agree job d 0 (fresh job.number)
    (record { slot = Large false; each = λ c crash. (is.formatted c crash).store }) tt

agree_kept : (job : JobOf) (d : Device) (n : ℕ) (r : CheckpointRecord) → KeepsRecord d.file n r → StoredAgree job d
    → AllSavedAgree job r.saved
agree_kept job d n r keeps agree = agree (bytes_of d.file) (crash-leaves-bytes_of d.file) n r
    (keeps.slot, keeps.each (bytes_of d.file) (crash-leaves-bytes_of d.file))

-- where the values agree that are saved on a disk over which a run begins, all that a crash leaves
-- of it does
pub first_agree : (job : JobOf) (d : Device) (saved : List SavedValue) → IsFirstWith job d saved
    → AllSavedAgree job saved → StoredAgree job d
first_agree job d saved is agree = kept_agree job d is.0.sequence is.0.found is.0.kept
    (subst (AllSavedAgree job) (sym is.1) agree)

-- a run can begin on a disk over which one begins, where what is saved there agrees
pub first_can : (job : JobOf) (d : Device) → IsFirst job d → StoredAgree job d → CanBegin job d
first_can job d is agree = record {
  unarmed = is.still.unarmed;
  sequence = is.sequence;
  found = is.found;
  kept = is.kept;
  own = is.own;
  meant = λ o there. absurd (no_outcome o (sym is.no_outcome ∙ there));
  saved = agree_kept job d is.sequence is.found is.kept agree;
}

-- all in the first world agrees
pub first_agrees : (job : JobOf) (d : Device) → CanBegin job d → Agrees job (first_over d)
first_agrees job d can = record {
  packets = λ i p is. absurd cc;
  held = λ a g at. absurd (let none = at.up in cc);
  known = λ a g at. absurd (let none = at.up in cc);
  stored = kept_agree job d can.sequence can.found can.kept can.saved;
  parts = λ a i j n x y up of there. absurd cc;
}

-- what a crash leaves of a disk of which less is left keeps its record
pub keeps_less : (old new : List Cell) (n : ℕ) (r : CheckpointRecord) → Shrinks (CrashLeaves old) (CrashLeaves new)
    → KeepsRecord old n r → KeepsRecord new n r
keeps_less old new n r less keeps = record { slot = keeps.slot; each = λ c h. keeps.each c (less c h) }
