-- An open clearinghouse stays one by each step.
use Rattle.std.proofs.Common.{◌≡◌, ℕ, List, None, refl, sym, ap, ◌∙◌, subst, false}
use Rattle.checkpoint.specs.Store.{Opened}
use Rattle.codec.specs.Table.{PacketOf}
use Rattle.serial_meaning.specs.Job.{JobOf}
use Rattle.clearinghouse.specs.Cases.{on_packet}
use Rattle.clearinghouse.specs.Calls.{passes}
use Rattle.clearinghouse.specs.House.{HouseOf, Kept, kept_of}
use Rattle.clearinghouse.specs.Laws.{Commits, KeepsHouse}
use Rattle.clearinghouse.specs.Meeting.{IsOpen, IsSent, record_of}
use Rattle.clearinghouse.specs.Steps.{HouseAnswer, Ignored, Refused, Does, HouseStepOf}
use Rattle.clearinghouse.proofs.Keeping.{moment_keeps, packet_keeps}

step_of : (s t : HouseStepOf) → Does s ≡ Does t → s ≡ t
step_of s t same = cc

module _ {D : Type 0} (job : JobOf) (store : Opened D) (h : HouseOf) (is : IsOpen job store h) where
  -- a step that commits nothing
  stands : (s : HouseStepOf) → KeepsHouse h s → s.commits ≡ None → IsOpen job store s.after
  stands s keeps none =
      let same : kept_of s.after ≡ kept_of h = subst (λ c. Commits c h s.after) none keeps.commits in
      record {
        house = keeps.holds is.house;
        stored = is.stored ∙ ap (λ (k : Kept). record store {
          «record» = record_of job k;
          sequence = k.sequence;
          ended = false;
        }) (sym same);
      }

  pub sent_stands : (a : HouseAnswer) → ((s : HouseStepOf) → a ≡ Does s → KeepsHouse h s)
      → (sent : List PacketOf) (new : HouseOf) → IsSent a sent new → IsOpen job store new
  sent_stands Ignored keeps sent new is_sent = absurd is_sent
  sent_stands (Refused e) keeps sent new is_sent = absurd is_sent
  sent_stands (Does s) keeps sent new is_sent = rw is_sent.2 (stands s (keeps s refl) is_sent.0)

  pub packet_stands : (p : _) (sent : List PacketOf) (new : HouseOf) → IsSent (on_packet job p h) sent new
      → IsOpen job store new
  packet_stands p = sent_stands (on_packet job p h) (packet_keeps job p h)

  pub moment_stands : (now : ℕ) (sent : List PacketOf) (new : HouseOf) → IsSent (Does (passes job now h)) sent new
      → IsOpen job store new
  moment_stands now = sent_stands (Does (passes job now h))
      (λ s same. subst (KeepsHouse h) (step_of (passes job now h) s same) (moment_keeps job now h))
